-- One digit after the other: the rest of a word's digits, from byte i on.
use Prim.Native.Nat.{ℕ, ◌+◌, ◌*◌, ◌%◌, ◌≤◌, ◌<◌}
use native.Mathlib.Numerals.{add-one}
use mathlib.Core.Bool.{Bool, true, false, cond, ◌&&◌}
use mathlib.Core.List.{List}
use mathlib.Core.Path.{◌≡◌, refl}
use lib.ListN.{length, drop, get_or, drop_of_length-le}
use lib.Seq.{drop-cons}
use borrow.Author.Tests.{le-leb, lt-ltb}
use Rattle.std.specs.Prelude.{Some, None}
use Rattle.transcript.specs.Digit.{digit_of, digit_value, is_digit}
use Rattle.asking.specs.Page.{all_digits, number_from, number_of}

-- a byte that has a value is a digit, and one that has none is no digit
pub value_found : (b d : ℕ) → digit_value b ≡ Some d → (is_digit b ≡ true) × (digit_of b ≡ d)
value_found b d = go (is_digit b) refl
  where
    go : (test : Bool) → is_digit b ≡ test → cond test (Some (digit_of b)) None ≡ Some d → (is_digit b ≡ true) × (digit_of b ≡ d)
    go true is same = (is, cc)
    go false is same = cc

pub no_value_found : (b : ℕ) → digit_value b ≡ None → is_digit b ≡ false
no_value_found b = go (is_digit b) refl
  where
    go : (test : Bool) → is_digit b ≡ test → cond test (Some (digit_of b)) None ≡ None → is_digit b ≡ false
    go true is same = cc
    go false is same = is

module _ (i : ℕ) (digits : List ℕ) where
  pub digits_on : i < length digits → all_digits (drop i digits) ≡ (is_digit (get_or digits i 0) && all_digits (drop (i + 1) digits))
  unfolding all_digits
  digits_on within = rw (drop-cons digits i 0 within, add-one i)

  pub digits_end : length digits ≤ i → all_digits (drop i digits) ≡ true
  unfolding all_digits
  digits_end past = rw (drop_of_length-le digits past)

  pub number_on : (n : ℕ) → i < length digits → number_from n (drop i digits) ≡ number_from (n % 4096 * 16 + digit_of (get_or digits i 0)) (drop (i + 1) digits)
  unfolding number_from
  number_on n within = rw (drop-cons digits i 0 within, add-one i)

  pub number_end : (n : ℕ) → length digits ≤ i → number_from n (drop i digits) ≡ n
  unfolding number_from
  number_end n past = rw (drop_of_length-le digits past)

and_never : (a : Bool) → (a && false) ≡ false
and_never true = refl
and_never false = refl

module _ (digits : List ℕ) where
  pub number_found : 0 < length digits → length digits ≤ 4 → all_digits digits ≡ true → number_of digits ≡ Some (number_from 0 digits)
  number_found some short all = rw (lt-ltb 0 (length digits) some, le-leb (length digits) 4 short, all) refl

  pub no_number_found : all_digits digits ≡ false → number_of digits ≡ None
  no_number_found other = simp (other, and_never) refl
