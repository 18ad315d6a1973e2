-- A digit of an Intel HEX file is one of a transcript, or of lower case (request E1).
use Rattle.std.specs.Prelude.{ℕ, ◌-◌, Bool, cond, ◌&&◌, ltb, leb}
use Rattle.transcript.specs.Digit.{digit_of}

-- the bytes 'a' to 'f'
abbrev pub is_small : ℕ → Bool
is_small b = leb 97 b && leb b 102

abbrev pub upper_case : ℕ → ℕ
upper_case b = cond (is_small b) (b - 32) b

abbrev pub hex_digit : ℕ → ℕ
hex_digit b = digit_of (upper_case b)

abbrev pub is_hex_digit : ℕ → Bool
is_hex_digit b = ltb (hex_digit b) 16

-- what it counts; a byte that is no digit counts 0, so that any two bytes make a byte
unfoldable pub value_of : ℕ → ℕ
value_of b = cond (is_hex_digit b) (hex_digit b) 0
