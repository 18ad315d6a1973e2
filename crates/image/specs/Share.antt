-- Where the array of a chip lies in the array store: behind those of the chips before it, up to where the next one starts (paper, "The two
-- memories").
use Rattle.std.specs.Prelude.{ℕ, ◌+◌}
use Rattle.std.specs.declared.ops.Range.{Range}
use Rattle.board.specs.Place.{placed}
use Rattle.board.specs.Shares.{array_start}
use Rattle.lineup.specs.Chips.{places_of}
use Rattle.bus.specs.declared.Bus.{Bus}

-- a chip that is not there has the empty share at the store's end
abbrev pub share_of : Bus → ℕ → Range ℕ
share_of bus chip =
    let places = places_of bus.chips in
    record { start = array_start places (placed chip); end = array_start places (placed (placed chip + 1)) }
