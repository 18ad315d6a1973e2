-- What the closure makes of each chip is its place.
use Rattle.std.proofs.Common.{rules}
use Rattle.chip.specs.declared.Chip.{Chip}
use Rattle.board.specs.Place.{nowhere}
use Rattle.lineup.specs.Chips.{no_chip, place_of, places_of}
use Rattle.lineup.proofs.Filled.{mapped}
use Rattle.lineup.proofs.places_of.Goals as goal

pub returns : goal.returns
unfolding places_of
returns c =
    mapped (λ (chip : Chip). place_of chip.control) no_chip nowhere c.args.chips c.map.result c.map.ensures.items.long
    (λ i below. let called = c.map.ensures.items.at i no_chip nowhere below in search (rules, called.2))
