-- The store so far is the definition's after i bytes.
use Rattle.std.proofs.Common.{◌≡◌, ℕ, ◌+◌, List}
use Rattle.std.proofs.Math.ListN.{set}
use Rattle.base.specs.Fold.{up_to}
use Rattle.factory.proofs.mark.Given as goal

abbrev pub invariant-loop-i : goal.invariant-loop-i
invariant-loop-i l =
    l.security ≡ up_to (λ (j : ℕ) (so_far : List ℕ). set so_far (l.at + j) l.byte) l.i l.fn.security
