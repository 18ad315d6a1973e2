-- Checks in an operation's order: the first that does not pass refuses.
use Rattle.std.specs.Prelude.{Bool, cond, List, [], ◌∷◌, Ok, Err}
use Rattle.refusal.specs.declared.Refusal.{Refusal}
use Rattle.refusal.specs.Verdict.{Verdict}

-- each check is its condition of the paper's table, which holds where it refuses, and the refusal
abbrev pub first_of : List (Bool × Refusal) → Verdict
first_of [] = Ok tt
first_of (check ∷ checks) = cond check.0 (Err check.1) (first_of checks)
