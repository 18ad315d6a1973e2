-- What the closure makes of each chip is its control.
use Rattle.std.proofs.Common.{rules}
use Rattle.chip.specs.declared.Chip.{Chip}
use Rattle.control.specs.Control.{fresh}
use Rattle.lineup.specs.Chips.{no_chip, controls_of}
use Rattle.lineup.proofs.Filled.{mapped}
use Rattle.lineup.proofs.controls_of.Goals as goal

pub returns : goal.returns
unfolding controls_of
returns c =
    mapped (λ (chip : Chip). chip.control) no_chip (fresh 0 0) c.args.chips c.map.result c.map.ensures.items.long
    (λ i below. let called = c.map.ensures.items.at i no_chip (fresh 0 0) below in search (rules, called.2))
