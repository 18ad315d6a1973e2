-- The sum so far is the definition's of the first i bytes.
use Prim.Native.Nat.{ℕ, ◌+◌, ◌%◌}
use mathlib.Core.Path.{ap}
use Rattle.base.proofs.Fold.{up_none, up_more}
use Rattle.hexline.proofs.fields.sum_in.Goals as goal

pub loop-i-init : goal.loop-i-init
loop-i-init c = up_none _ _

pub loop-i-preserved : goal.loop-i-preserved
loop-i-preserved c =
    up_more _ _ _ c.loop-i.invariant (ap (λ (byte : ℕ). (c.loop-i.sum + byte) % 256) c.byte_at-sum.ensures)
