-- The word by which a launcher hears how a run ended: status:D, where D is the digit of a descriptor that it reads.
use Rattle.std.specs.Prelude.{ℕ, Bool, cond, ◌&&◌, List, [], ◌∷◌, eqb, length, get_or, Option, Some, None}
use Rattle.transcript.specs.Digit.{digit_of, is_digit}
use Rattle.asking.specs.Asking.{colon, opens}

-- "status:"
abbrev pub telling : List ℕ
telling = 115 ∷ 116 ∷ 97 ∷ 116 ∷ 117 ∷ 115 ∷ colon ∷ []

abbrev pub names_status : List ℕ → Bool
names_status word = eqb (length word) 8 && (opens telling word && is_digit (get_or word 7 0))

abbrev pub status_asked : List ℕ → Option ℕ
status_asked word = cond (names_status word) (Some (digit_of (get_or word 7 0))) None
