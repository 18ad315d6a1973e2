-- The sum so far is the definition's of the first i bytes.
use Prim.Native.Nat.{ℕ, ◌+◌, ◌%◌}
use mathlib.Core.Path.{◌≡◌}
use Rattle.base.specs.Fold.{up_to}
use Rattle.hexline.specs.Fields.{byte_at}
use Rattle.hexline.proofs.fields.sum_in.Given as goal

abbrev pub invariant-loop-i : goal.invariant-loop-i
invariant-loop-i l = l.sum ≡ up_to (λ (j so_far : ℕ). (so_far + byte_at l.rest j) % 256) l.i 0
