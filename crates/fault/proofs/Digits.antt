-- The digits that a line begins with, as std counts them.
use Rattle.std.proofs.Common.{◌≡◌, refl, ℕ, zero, suc, Bool, true, false, cond, List, [], ◌∷◌, length, take, ◌∙◌, one-add, Some, None}
use Rattle.std.specs.List.{prefix_len, take_while}
use Rattle.std.specs.Option.{is_some}
use Rattle.std.proofs.lemmas.List.Folds.{length-prefix_len}
use Rattle.transcript.specs.Digit.{digit_of, is_digit, digit_value}
use Rattle.fault.specs.Fault.{digits_in}

abbrev has_value : ℕ → Bool
has_value b = is_some (digit_value b)

is_value : (b : ℕ) → has_value b ≡ is_digit b
is_value b = go (is_digit b)
  where
    go : (test : Bool) → is_some (cond test (Some (digit_of b)) None) ≡ test
    go true = refl
    go false = refl

front : (n : ℕ) (line : List ℕ) → prefix_len has_value (take n line) ≡ digits_in n line
unfolding digits_in
front zero line = refl
front (suc n) [] = refl
front (suc n) (b ∷ line) = simp (is_value b, front n line, one-add) refl

pub digits_front : (n : ℕ) (line : List ℕ) → length (take_while has_value (take n line)) ≡ digits_in n line
digits_front n line = length-prefix_len has_value (take n line) ∙ front n line
