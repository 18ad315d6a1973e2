-- A record as it is written reads back, whatever text follows: each byte was printed as two digits that are read as its value, so the
-- fields are the bytes that were written, and the check byte makes their sum 0.
use Prim.Native.Nat.{ℕ, zero, suc, ◌+◌, ◌*◌, ◌/◌, ◌%◌, ◌<◌, ◌≤◌}
use native.Mathlib.Omega.{arith}
use mathlib.Core.Bool.{Bool, true, ◌&&◌}
use mathlib.Core.List.{List, [], ◌∷◌, ◌++◌, append_assoc}
use mathlib.Core.Path.{◌≡◌, ◌∙◌, refl, sym, ap}
use lib.Dec.{eqb}
use lib.ListN.{length, get_or, length-append, get_or-append}
use lib.Seq.{get_or_at, get_or-append-add}
use borrow.Author.Tests.{eqb-true}
use Rattle.base.specs.Every.{AllBytes, FitsByte}
use Rattle.base.specs.Fold.{up_to}
use Rattle.base.proofs.Every.{every_append}
use Rattle.base.proofs.Fold.{all_at, all_each, up_same, up_first}
use Rattle.base.proofs.logic.Laws.{and_left, and_right}
use Rattle.transcript.specs.Digit.{digit_of}
use Rattle.transcript.specs.Frame.{lf}
use Rattle.print.specs.Print.{digit_text}
use Rattle.hexline.specs.Digit.{is_hex_digit, value_of}
use Rattle.hexline.specs.Fields.{colon, char_at, byte_at, count_in, address_in, kind_in, data_at, bytes_in, sum_in, end_at, end_size, line_size, all_digits, is_framed}
use Rattle.hexline.specs.Writing.{bytes_text, sum_with, check_of, head_of, check_byte, record_text, record_size}
use Rattle.hexline.proofs.writing.Laws.{bytes_text_append, bytes_text_length, sum_with_append}

digit_reads : ℕ → Bool
digit_reads value = eqb (value_of (digit_text value)) value && is_hex_digit (digit_text value)

-- a value below 16 is printed as a digit that counts it: one test over all sixteen
digit_test : (value : ℕ) → value < 16 → digit_reads value ≡ true
unfolding digit_reads digit_of value_of up_to
digit_test value below = all_at digit_reads 16 value refl below

digit_counts : (value : ℕ) → value < 16 → value_of (digit_text value) ≡ value
unfolding digit_reads
digit_counts value below = eqb-true _ _ (and_left _ _ (digit_test value below))

digit_hex : (value : ℕ) → value < 16 → is_hex_digit (digit_text value) ≡ true
unfolding digit_reads
digit_hex value below = and_right (eqb (value_of (digit_text value)) value) _ (digit_test value below)

-- every character of the text of bytes is a digit
digits : (bytes tail : List ℕ) (i : ℕ) → AllBytes bytes → i < 2 * length bytes → is_hex_digit (get_or (bytes_text bytes ++ tail) i 0) ≡ true
digits [] tail i all below = absurd (omega arith)
digits (x ∷ xs) tail zero all below = digit_hex (x / 16) (omega (arith, all.0))
digits (x ∷ xs) tail (suc zero) all below = digit_hex (x % 16) (omega arith)
digits (x ∷ xs) tail (suc (suc i)) all below = digits xs tail i all.1 (omega arith)

-- the two at a byte's place count the byte
pair : (bytes tail : List ℕ) (i : ℕ) → AllBytes bytes → i < length bytes
    → value_of (get_or (bytes_text bytes ++ tail) (2 * i) 0) * 16 + value_of (get_or (bytes_text bytes ++ tail) (suc (2 * i)) 0) ≡ get_or bytes i 0
pair [] tail i all below = absurd (omega arith)
pair (x ∷ xs) tail zero all below =
    omega (arith, digit_counts (x / 16) (omega (arith, all.0)), digit_counts (x % 16) (omega arith))
pair (x ∷ xs) tail (suc i) all below =
    let next : 2 * suc i ≡ suc (suc (2 * i)) = omega arith in
    rw next (pair xs tail i all.1 (omega arith))

-- a sum over places is the sum over the list
sum_of : (bytes : List ℕ) (sum : ℕ) → up_to (λ (i so_far : ℕ). (so_far + get_or bytes i 0) % 256) (length bytes) sum ≡ sum_with bytes sum
unfolding up_to
sum_of [] sum = refl
sum_of (x ∷ xs) sum = up_first (λ (i so_far : ℕ). (so_far + get_or (x ∷ xs) i 0) % 256) (length xs) sum ∙ sum_of xs ((sum + x) % 256)

-- a line of these bytes, and what follows it
abbrev line_of : List ℕ → List ℕ → List ℕ
line_of bytes rest = colon ∷ (bytes_text bytes ++ lf ∷ rest)

-- where its first byte is how many of them are data, each byte is read as it was, then LF
module _ (bytes rest : List ℕ) (all : AllBytes bytes) (sized : length bytes ≡ 5 + get_or bytes 0 0) where
  byte_back : (i : ℕ) → i < length bytes → byte_at (line_of bytes rest) i ≡ get_or bytes i 0
  unfolding byte_at
  byte_back i below =
      let first : 1 + 2 * i ≡ suc (2 * i) = omega arith in
      let second : 2 + 2 * i ≡ suc (suc (2 * i)) = omega arith in
      rw (first, second) (pair bytes (lf ∷ rest) i all below)

  bytes_back : bytes_in (line_of bytes rest) ≡ length bytes
  bytes_back = omega (arith, byte_back 0 (omega (arith, sized)), sized)

  end_back : end_size (line_of bytes rest) ≡ 1
  end_back =
      let place : end_at (line_of bytes rest) ≡ suc (2 * length bytes) = omega (arith, bytes_back) in
      let here : char_at (line_of bytes rest) (end_at (line_of bytes rest)) ≡ lf = rw place (get_or_at (bytes_text bytes) lf rest 0 (2 * length bytes) (bytes_text_length bytes)) in
      rw here

  digits_back : all_digits (line_of bytes rest) ≡ true
  digits_back =
      all_each (λ (i : ℕ). is_hex_digit (char_at (line_of bytes rest) (1 + i))) (2 * bytes_in (line_of bytes rest))
      (λ i below.
      let next : 1 + i ≡ suc i = omega arith in
      rw next (digits bytes (lf ∷ rest) i all (omega (arith, bytes_back))))

  framed_back : is_framed (line_of bytes rest) ≡ true
  unfolding is_framed
  framed_back = rw (digits_back, end_back)

  sum_back : sum_in (line_of bytes rest) ≡ sum_with bytes 0
  sum_back =
      up_same (λ (i so_far : ℕ). (so_far + byte_at (line_of bytes rest) i) % 256) (λ (i so_far : ℕ). (so_far + get_or bytes i 0) % 256)
      (bytes_in (line_of bytes rest))
      (λ i so_far below. ap (λ (byte : ℕ). (so_far + byte) % 256) (byte_back i (omega (arith, bytes_back))))
      0
      ∙ ap (λ (n : ℕ). up_to (λ (i so_far : ℕ). (so_far + get_or bytes i 0) % 256) n 0) bytes_back
      ∙ sum_of bytes 0

-- a sum below 256 stays so, and its check byte makes it 0
sum_below : (bytes : List ℕ) (sum : ℕ) → sum < 256 → sum_with bytes sum < 256
sum_below [] sum below = below
sum_below (x ∷ xs) sum below = sum_below xs ((sum + x) % 256) (omega arith)

check_closes : (sum : ℕ) → sum < 256 → (sum + check_of sum) % 256 ≡ 0
check_closes sum below = omega arith

pub record ReadsBack (kind address : ℕ) (content text : List ℕ) : Type 0 where
  pub framed : is_framed text ≡ true
  pub counts : count_in text ≡ length content
  pub addresses : address_in text ≡ address
  pub kinds : kind_in text ≡ kind
  pub contents : (i : ℕ) → i < length content → data_at text i ≡ get_or content i 0
  pub sums : sum_in text ≡ 0
  pub sizes : line_size text ≡ record_size (length content)

module _ (kind address : ℕ) (content : List ℕ) where
  abbrev head : List ℕ
  head = head_of kind address (length content)

  abbrev check : List ℕ
  check = check_byte kind address content ∷ []

  -- all bytes of the record
  abbrev written : List ℕ
  written = head ++ (content ++ check)

  written_length : length written ≡ 5 + length content
  written_length = omega (arith, length-append content check)

  written_sum : sum_with written 0 ≡ 0
  written_sum =
      sum_with_append content check (sum_with head 0)
      ∙ check_closes (sum_with content (sum_with head 0)) (sum_below content (sum_with head 0) (omega arith))

  written_at : (i : ℕ) → i < length content → get_or written (4 + i) 0 ≡ get_or content i 0
  written_at i below = get_or-append-add head (content ++ check) i 0 ∙ get_or-append content check 0 i below

  -- as text they are the record's line
  line_is : (rest : List ℕ) → record_text kind address content ++ rest ≡ line_of written rest
  unfolding record_text
  line_is rest =
      ap (λ (behind : List ℕ). colon ∷ (bytes_text head ++ behind))
      (append_assoc (bytes_text content) (bytes_text check ++ (lf ∷ [])) rest
      ∙ sym (append_assoc (bytes_text content) (bytes_text check) (lf ∷ rest))
      ∙ ap (λ (text : List ℕ). text ++ (lf ∷ rest)) (sym (bytes_text_append content check)))

  pub record_length : length (record_text kind address content) ≡ record_size (length content)
  unfolding record_text
  record_length = omega (arith, length-append (bytes_text content) (bytes_text check ++ (lf ∷ [])), bytes_text_length content)

  pub reads_back : (rest : List ℕ) → kind < 256 → address < 65536 → length content ≤ 255 → AllBytes content
      → ReadsBack kind address content (record_text kind address content ++ rest)
  reads_back rest kind_fits address_fits short all =
      let all_written : AllBytes written = (omega arith, (omega arith, (omega arith, (kind_fits, every_append FitsByte content check all (omega arith, tt))))) in
      let at = byte_back written rest all_written written_length in
      let inside : 5 ≤ length written = omega (arith, written_length) in
      rw (line_is rest) record {
        framed = framed_back written rest all_written written_length;
        counts = at 0 (omega arith);
        addresses = omega (arith, at 1 (omega arith), at 2 (omega arith));
        kinds = at 3 (omega arith);
        contents = λ i below. at (4 + i) (omega (arith, written_length)) ∙ written_at i below;
        sums = sum_back written rest all_written written_length ∙ written_sum;
        sizes = omega (arith, bytes_back written rest all_written written_length, end_back written rest all_written written_length, written_length);
      }
