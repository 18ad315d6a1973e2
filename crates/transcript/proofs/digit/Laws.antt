-- A byte is a digit exactly where its value is below 16; and the table holds each byte's value, which is one test that antt computes
-- over all 256 entries.
use Prim.Native.Nat.{ℕ, ◌<◌, ◌≤◌}
use mathlib.Core.Bool.{true, false}
use mathlib.Core.List.{List, ◌∷◌, ◌++◌}
use mathlib.Core.Path.{◌≡◌, refl}
use lib.ListN.{get_or, replicate}
use borrow.Author.Tests.{lt-ltb, le-ltb}
use Rattle.base.proofs.Table.{table_at}
use Rattle.transcript.specs.Digit.{digit_of, is_digit, no_digit}

module _ (byte : ℕ) {value : ℕ} (is : value ≡ digit_of byte) where
  pub is_digit_lem : value < 16 → is_digit byte ≡ true
  is_digit_lem below = lt-ltb (digit_of byte) 16 (rw is at below)

  pub no_digit_lem : 16 ≤ value → is_digit byte ≡ false
  no_digit_lem above = le-ltb (digit_of byte) 16 (rw is at above)

unfoldable pub table : List ℕ
table =
    replicate 48 no_digit
    ++ (0 ∷ 1 ∷ 2 ∷ 3 ∷ 4 ∷ 5 ∷ 6 ∷ 7 ∷ 8 ∷ 9 ∷ replicate 7 no_digit)
    ++ (10 ∷ 11 ∷ 12 ∷ 13 ∷ 14 ∷ 15 ∷ replicate 185 no_digit)

pub at_byte : (byte : ℕ) → byte < 256 → get_or table byte 0 ≡ digit_of byte
unfolding table digit_of
at_byte = table_at digit_of table refl
