-- Bytes as text have two digits each, and the text and the sum of two lists joined are those of the first, then of the second: so a
-- loop over bytes adds one byte's text, or one byte, in each turn. The pieces of a record are written one right behind the other.
use Prim.Native.Nat.{ℕ, ◌+◌, ◌*◌, ◌%◌, ◌<◌, ◌≤◌}
use native.Mathlib.Numerals.{add-one}
use native.Mathlib.Omega.{arith}
use mathlib.Core.List.{List, [], ◌∷◌, ◌++◌, append_assoc}
use mathlib.Core.Path.{◌≡◌, ◌∙◌, refl, sym, ap}
use lib.ListN.{length, take, get_or, set, length-append}
use lib.Seq.{take-suc, length-take-le}
use Rattle.std.specs.Prelude.{fold}
use Rattle.base.specs.Store.{patched}
use Rattle.base.proofs.Store.{patched_one, patched_next, patched_length}
use Rattle.print.specs.Print.{byte_text}
use Rattle.transcript.specs.Frame.{lf}
use Rattle.hexline.specs.Fields.{colon}
use Rattle.hexline.specs.Writing.{bytes_text, sum_with, head_of, check_byte, record_text}

pub bytes_text_length : (bytes : List ℕ) → length (bytes_text bytes) ≡ 2 * length bytes
bytes_text_length [] = refl
bytes_text_length (byte ∷ bytes) = omega (arith, bytes_text_length bytes)

pub bytes_text_append : (xs ys : List ℕ) → bytes_text (xs ++ ys) ≡ bytes_text xs ++ bytes_text ys
bytes_text_append [] ys = refl
bytes_text_append (x ∷ xs) ys = ap (λ (rest : List ℕ). byte_text x ++ rest) (bytes_text_append xs ys)

pub sum_with_append : (xs ys : List ℕ) (sum : ℕ) → sum_with (xs ++ ys) sum ≡ sum_with ys (sum_with xs sum)
sum_with_append [] ys sum = refl
sum_with_append (x ∷ xs) ys sum = sum_with_append xs ys ((sum + x) % 256)

-- the sum is a fold from the left
pub sum_with_fold : (bytes : List ℕ) (sum : ℕ) → fold (λ (so_far byte : ℕ). (so_far + byte) % 256) sum bytes ≡ sum_with bytes sum
sum_with_fold [] sum = refl
sum_with_fold (x ∷ xs) sum = sum_with_fold xs ((sum + x) % 256)

module _ (bytes : List ℕ) (i : ℕ) (inside : i < length bytes) where
  -- one byte more
  more : take (i + 1) bytes ≡ take i bytes ++ (get_or bytes i 0 ∷ [])
  more = rw add-one (take-suc bytes i 0 inside)

  pub bytes_text_more : (at : ℕ) (text : List ℕ) → at + 2 * length bytes ≤ length text
      → patched (at + 2 * i) (byte_text (get_or bytes i 0)) (patched at (bytes_text (take i bytes)) text) ≡ patched at (bytes_text (take (i + 1) bytes)) text
  bytes_text_more at text fits =
      let size : length (bytes_text (take i bytes)) ≡ 2 * i = bytes_text_length (take i bytes) ∙ ap (λ (n : ℕ). 2 * n) (length-take-le i bytes (omega arith)) in
      patched_next at (at + 2 * i) (bytes_text (take i bytes)) (byte_text (get_or bytes i 0)) text (omega arith) refl refl (omega arith)
      ∙ ap (λ (shown : List ℕ). patched at shown text) (sym (bytes_text_append (take i bytes) (get_or bytes i 0 ∷ [])) ∙ ap bytes_text (sym more))

-- the five pieces of a record, each written right behind the one before it, are the record
module _ (kind address : ℕ) (content : List ℕ) (at : ℕ) (text : List ℕ) (fits : at + (12 + 2 * length content) ≤ length text) where
  abbrev head : List ℕ
  head = bytes_text (head_of kind address (length content))

  abbrev check : List ℕ
  check = byte_text (check_byte kind address content)

  abbrev body : List ℕ
  body = bytes_text content

  pub record_written : {second third fourth : List ℕ}
      → second ≡ patched (at + 1) head (set text at colon)
      → third ≡ patched (at + 9) body second
      → fourth ≡ patched (at + 9 + 2 * length content) check third
      → set fourth (at + 9 + 2 * length content + 2) lf ≡ patched at (record_text kind address content) text
  unfolding record_text
  record_written {second} {third} {fourth} is_second is_third is_fourth =
      let front : List ℕ = colon ∷ (head ++ body) in
      let all : List ℕ = colon ∷ (head ++ body ++ check) in
      let size : length body ≡ 2 * length content = bytes_text_length content in
      let front_size : length front ≡ 9 + 2 * length content = omega (arith, length-append head body) in
      let all_size : length all ≡ 11 + 2 * length content = omega (arith, length-append (head ++ body) check) in
      let two : second ≡ patched at (colon ∷ head) text = patched_next at (at + 1) (colon ∷ []) head text (omega arith) (patched_one at colon text (omega arith)) is_second refl in
      let three : third ≡ patched at front text = patched_next at (at + 9) (colon ∷ head) body text (omega arith) two is_third refl in
      let four : fourth ≡ patched at all text = patched_next at (at + 9 + 2 * length content) front check text (omega arith) three is_fourth (omega arith) in
      let long : length fourth ≡ length text = ap length four ∙ patched_length at all text (omega arith) in
      patched_next at (at + 9 + 2 * length content + 2) all (lf ∷ []) text (omega arith) four (patched_one _ lf fourth (omega arith)) (omega arith)
      ∙ ap (λ (rest : List ℕ). patched at (colon ∷ rest) text) (append_assoc (head ++ body) check (lf ∷ []) ∙ append_assoc head body (check ++ (lf ∷ [])))
