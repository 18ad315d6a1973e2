-- What can be seen of a world: all but the values of the line while no chip holds a load. They are what an earlier load has left, and nothing ever
-- shows them: `never_seen`, in proofs/Seen.antt.
use Rattle.std.specs.Prelude.{ℕ, Bool, cond}
use Rattle.base.specs.Fold.{any_below}
use Rattle.load.specs.Load.{no_values}
use Rattle.board.specs.Place.{placed}
use Rattle.board.specs.Stores.{array_of, security_of}
use Rattle.lineup.specs.Chips.{chip_at}
use Rattle.bus.specs.declared.Bus.{Bus}
use Rattle.promises.specs.Playing.{World, bus_of}
use Rattle.turns.specs.Idle.{is_loading}

abbrev pub any_loading : Bus → Bool
any_loading bus = any_below (λ (i : ℕ). is_loading (chip_at bus.chips i)) (placed bus.count)

abbrev pub seen_of : Bus → Bus
seen_of bus = record { count = bus.count; started = bus.started; chips = bus.chips; values = cond (any_loading bus) bus.values no_values }

abbrev pub seen : World → World
seen world = (seen_of (bus_of world), array_of world, security_of world)
