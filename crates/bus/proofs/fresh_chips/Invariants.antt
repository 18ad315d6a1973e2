-- Each iteration sets a fresh chip.
use mathlib.Core.Path.{◌≡◌}
use Rattle.bus.specs.Setup.{fresh_chips}
use Rattle.bus.proofs.fresh_chips.Given as goal

abbrev pub invariant-loop-i : goal.invariant-loop-i
invariant-loop-i l = l.chips ≡ fresh_chips l.places l.i
