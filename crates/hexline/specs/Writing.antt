-- A record as text: upper case, and LF (request E1).
use Rattle.std.specs.Prelude.{ℕ, ◌+◌, ◌*◌, ◌-◌, ◌%◌, Bool, cond, ◌&&◌, List, [], ◌∷◌, ◌++◌, leb, length}
use Rattle.base.specs.Store.{patched}
use Rattle.base.specs.Word.{high_of, low_of}
use Rattle.transcript.specs.Frame.{lf}
use Rattle.print.specs.Print.{byte_text}
use Rattle.hexline.specs.Fields.{colon}

-- two digits for each byte
abbrev pub bytes_text : List ℕ → List ℕ
bytes_text [] = []
bytes_text (byte ∷ bytes) = byte_text byte ++ bytes_text bytes

-- a sum and these bytes, modulo 256
abbrev pub sum_with : List ℕ → ℕ → ℕ
sum_with [] sum = sum
sum_with (byte ∷ bytes) sum = sum_with bytes ((sum + byte) % 256)

-- what makes a sum 0
abbrev pub check_of : ℕ → ℕ
check_of sum = (256 - sum) % 256

-- the four bytes before the data
abbrev pub head_of : ℕ → ℕ → ℕ → List ℕ
head_of kind address count = count ∷ high_of address ∷ low_of address ∷ kind ∷ []

abbrev pub check_byte : ℕ → ℕ → List ℕ → ℕ
check_byte kind address content = check_of (sum_with content (sum_with (head_of kind address (length content)) 0))

unfoldable pub record_text : ℕ → ℕ → List ℕ → List ℕ
record_text kind address content =
    (colon ∷ [])
    ++ (bytes_text (head_of kind address (length content))
    ++ (bytes_text content ++ (bytes_text (check_byte kind address content ∷ []) ++ (lf ∷ []))))

-- how many bytes that is, of so many data bytes
abbrev pub record_size : ℕ → ℕ
record_size count = 12 + 2 * count

-- a record of at most 255 data bytes that has room in a buffer from a place on
abbrev pub fits_at : ℕ → ℕ → ℕ → Bool
fits_at count at room = leb count 255 && leb (at + record_size count) room

-- the buffer with the record there; where it has no room, as it was
unfoldable pub put_record : ℕ → ℕ → List ℕ → List ℕ → ℕ → List ℕ
put_record kind address content text at =
    cond (fits_at (length content) at (length text)) (patched at (record_text kind address content) text) text
