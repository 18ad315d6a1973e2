-- What is wrong with a line of a transcript, which is four digits 0-9 A-F, then LF (paper, "The transcript"). The first byte that is wrong
-- decides. A line is all the text from its place on.
use Rattle.std.specs.Prelude.{ℕ, zero, suc, Bool, cond, ◌&&◌, ◌||◌, List, [], ◌∷◌, eqb, ltb, leb, length, get_or, Option, Some, None}
use Rattle.transcript.specs.Digit.{is_digit}
use Rattle.transcript.specs.Frame.{lf}
use Rattle.fault.specs.declared.Fault.{Fault}
use Rattle.fault.specs.declared.Fault.TheVariants.{EmptyLine, TooShort, LowerCase, ReturnByte, BlankByte, NoDigit, TooLong, Unended}

-- the digits of a line, before its LF
abbrev pub line_digits : ℕ
line_digits = 4

abbrev pub cr : ℕ
cr = 13

-- the bytes 'a' to 'f'
abbrev pub is_lower_case : ℕ → Bool
is_lower_case b = leb 97 b && leb b 102

-- a space or a tab
abbrev pub is_blank : ℕ → Bool
is_blank b = eqb b 32 || eqb b 9

-- how many bytes at the start of a line are digits, of the first n
unfoldable pub digits_in : ℕ → List ℕ → ℕ
digits_in zero line = 0
digits_in (suc n) [] = 0
digits_in (suc n) (b ∷ line) = cond (is_digit b) (suc (digits_in n line)) 0

-- a byte that is no digit, after n digits where there should be one
abbrev pub fault_among : ℕ → ℕ → Fault
fault_among n b =
    cond (eqb b lf) (cond (eqb n 0) EmptyLine TooShort)
    (cond (eqb b cr) ReturnByte
    (cond (is_lower_case b) LowerCase
    (cond (is_blank b) BlankByte NoDigit)))

-- the byte after four digits, which should be LF
abbrev pub fault_after : ℕ → Option Fault
fault_after b = cond (eqb b lf) None (Some (cond (eqb b cr) ReturnByte TooLong))

-- by the number of digits before the first byte that is none
abbrev pub fault_behind : ℕ → List ℕ → Option Fault
fault_behind n line =
    cond (leb (length line) n) (Some Unended)
    (cond (ltb n line_digits) (Some (fault_among n (get_or line n 0))) (fault_after (get_or line n 0)))

abbrev pub fault_of : List ℕ → Option Fault
fault_of line = fault_behind (digits_in line_digits line) line
