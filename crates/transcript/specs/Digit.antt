-- The value of a byte as a digit 0-9 A-F (paper, "The transcript").
use Rattle.std.specs.Prelude.{ℕ, ◌+◌, ◌-◌, Bool, cond, ◌&&◌, ltb, leb, Option, Some, None}

-- the bytes '0' to '9' and 'A' to 'F'
abbrev pub is_decimal : ℕ → Bool
is_decimal b = leb 48 b && leb b 57

abbrev pub is_letter : ℕ → Bool
is_letter b = leb 65 b && leb b 70

-- what stands for "no digit"
abbrev pub no_digit : ℕ
no_digit = 255

unfoldable pub digit_of : ℕ → ℕ
digit_of b = cond (is_decimal b) (b - 48) (cond (is_letter b) (b - 65 + 10) no_digit)

abbrev pub is_digit : ℕ → Bool
is_digit b = ltb (digit_of b) 16

-- the value of a byte that is a digit, and nothing of one that is not
abbrev pub digit_value : ℕ → Option ℕ
digit_value b = cond (is_digit b) (Some (digit_of b)) None
