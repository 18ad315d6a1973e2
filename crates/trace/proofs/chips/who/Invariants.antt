-- What was found so far is the definition's up to i.
use Rattle.std.proofs.Common.{◌≡◌, ℕ, cond, Option, Some, None}
use Rattle.base.specs.Fold.{up_to}
use Rattle.trace.specs.Chips.{holds_at}
use Rattle.trace.proofs.chips.who.Given as goal

abbrev pub invariant-loop-i : goal.invariant-loop-i
invariant-loop-i l = l.found ≡ up_to (λ (j : ℕ) (so_far : Option ℕ). cond (holds_at l.fn.test l.fn.chips j) (Some j) so_far) l.i None
