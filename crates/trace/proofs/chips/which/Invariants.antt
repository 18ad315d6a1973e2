-- The marks so far are the definition's up to i.
use Rattle.std.proofs.Common.{◌≡◌, ℕ, Bool, false, List, set, replicate}
use Rattle.base.specs.Fold.{up_to}
use Rattle.trace.specs.Chips.{holds_at}
use Rattle.trace.proofs.chips.which.Given as goal

abbrev pub invariant-loop-i : goal.invariant-loop-i
invariant-loop-i l = l.found ≡ up_to (λ (j : ℕ) (marks : List Bool). set marks j (holds_at l.fn.test l.fn.chips j)) l.i (replicate 4 false)
