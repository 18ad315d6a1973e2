-- How a run ended, with the number by which the program's launcher ends.
use Rattle.std.specs.Prelude.{ℕ, cond, leb}
use Rattle.status.specs.declared.Status.{Status}
use Rattle.status.specs.declared.Status.TheVariants.{Answered, Refused, NoWord, Broken}

abbrev pub number_of : Status → ℕ
number_of Answered = 0
number_of Refused = 1
number_of NoWord = 2
number_of Broken = 3

-- of two the one with the greater number
abbrev pub greatest : Status → Status → Status
greatest a b = cond (leb (number_of a) (number_of b)) b a
