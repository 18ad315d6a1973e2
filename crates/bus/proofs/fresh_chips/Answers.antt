-- Each iteration sets a fresh chip.
use lib.ListN.{set, replicate}
use native.Mathlib.Omega.{arith}
use mathlib.Core.Path.{◌∙◌, ap}
use Rattle.base.specs.Fold.{up_to}
use Rattle.base.proofs.Fold.{up_more, up_end}
use Rattle.chip.specs.declared.Chip.{Chip}
use Rattle.bus.proofs.fresh_chips.Goals as goal

pub loop-i-init : goal.loop-i-init
unfolding up_to
loop-i-init c = ap (λ (chip : Chip). replicate 4 chip) c.fresh-chips.ensures

pub loop-i-preserved : goal.loop-i-preserved
loop-i-preserved c = up_more _ _ _ c.loop-i.invariant (ap (set c.loop-i.chips c.loop-i.i) c.fresh.ensures)

pub returns : goal.returns
returns c = up_end _ _ (omega (arith, c.loop-i-test.false, c.loop-i.auto.i-end) ∙ c.placed-i-end.ensures) c.loop-i.invariant
