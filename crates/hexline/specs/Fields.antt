-- The fields of a record: `:`, then two digits for each byte (how many data bytes, the address in two, the type, the data, a check byte),
-- then LF or CR LF (request E1). `rest` is the text from the record on.
use Rattle.std.specs.Prelude.{ℕ, ◌+◌, ◌*◌, ◌%◌, Bool, cond, ◌&&◌, List, eqb, ltb, get_or, set}
use Rattle.base.specs.Fold.{up_to, all_below}
use Rattle.base.specs.Word.{word_of}
use Rattle.transcript.specs.Frame.{lf}
use Rattle.hexline.specs.Digit.{is_hex_digit, value_of}

abbrev pub colon : ℕ
colon = 58

abbrev pub cr : ℕ
cr = 13

-- the types that are read: data, the end, the upper 16 address bits
abbrev pub data_kind : ℕ
data_kind = 0

abbrev pub end_kind : ℕ
end_kind = 1

abbrev pub upper_kind : ℕ
upper_kind = 4

-- a character of the text; past its end there is none, and 0 stands for it
abbrev pub char_at : List ℕ → ℕ → ℕ
char_at rest i = get_or rest i 0

-- byte i of the record, of two digits
unfoldable pub byte_at : List ℕ → ℕ → ℕ
byte_at rest i = value_of (char_at rest (1 + 2 * i)) * 16 + value_of (char_at rest (2 + 2 * i))

-- how many data bytes
abbrev pub count_in : List ℕ → ℕ
count_in rest = byte_at rest 0

abbrev pub address_in : List ℕ → ℕ
address_in rest = word_of (byte_at rest 1) (byte_at rest 2)

abbrev pub kind_in : List ℕ → ℕ
kind_in rest = byte_at rest 3

abbrev pub data_at : List ℕ → ℕ → ℕ
data_at rest i = byte_at rest (4 + i)

-- the upper 16 address bits that a record of type 04 gives
abbrev pub upper_in : List ℕ → ℕ
upper_in rest = word_of (data_at rest 0) (data_at rest 1)

-- all bytes: four before the data, and the check byte behind it
abbrev pub bytes_in : List ℕ → ℕ
bytes_in rest = 5 + count_in rest

-- the sum of all bytes, modulo 256
abbrev pub sum_in : List ℕ → ℕ
sum_in rest = up_to (λ (i sum : ℕ). (sum + byte_at rest i) % 256) (bytes_in rest) 0

-- where the line's end stands, behind the digits
abbrev pub end_at : List ℕ → ℕ
end_at rest = 1 + 2 * bytes_in rest

-- how many bytes the line's end has; where there is none, 0
abbrev pub end_size : List ℕ → ℕ
end_size rest =
    cond (eqb (char_at rest (end_at rest)) lf) 1 (cond (eqb (char_at rest (end_at rest)) cr && eqb (char_at rest (end_at rest + 1)) lf) 2 0)

abbrev pub line_size : List ℕ → ℕ
line_size rest = end_at rest + end_size rest

abbrev pub all_digits : List ℕ → Bool
all_digits rest = all_below (λ (i : ℕ). is_hex_digit (char_at rest (1 + i))) (2 * bytes_in rest)

-- a record stands here, whatever its type
unfoldable pub is_framed : List ℕ → Bool
is_framed rest = eqb (char_at rest 0) colon && (all_digits rest && ltb 0 (end_size rest))

-- the array address of the first data byte: the upper 16 bits were given before
abbrev pub first_address : ℕ → List ℕ → ℕ
first_address upper rest = upper * 65536 + address_in rest

-- the data bytes are stored, one after the other; a record runs on past FFFFh
unfoldable pub put_data : ℕ → List ℕ → List ℕ → List ℕ
put_data upper rest share =
    up_to (λ (i : ℕ) (so_far : List ℕ). set so_far (first_address upper rest + i) (data_at rest i)) (count_in rest) share
