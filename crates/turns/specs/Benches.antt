-- Two of the shortcuts that have cost us, as benches made of a bench; and ours, which takes neither (paper, "Shortcuts that have cost us").
use Rattle.std.specs.Prelude.{ℕ, ◌%◌, cond, List, map, eqb}
use Rattle.base.specs.Fold.{up_to}
use Rattle.parts.specs.Part.{geometry_of}
use Rattle.load.specs.Span.{is_empty}
use Rattle.control.specs.Control.{arraycounter_at}
use Rattle.chip.specs.declared.Chip.{Chip}
use Rattle.lineup.specs.Chips.{control_at}
use Rattle.bus.specs.Step.{step}
use Rattle.board.specs.Stores.{array_of, security_of}
use Rattle.promises.specs.Playing.{World, bus_of, Made, Bench, stepped, led_to}
use Rattle.turns.specs.Turn.{is_f8}
use Rattle.turns.specs.Alone.{alone}

-- a fault changes what was made of a world and an event
abbrev pub Fault : Type 0
Fault = World → ℕ → Made → Made

abbrev pub with : Fault → Bench → Bench
with fault bench bus array security word = fault (bus, array, security) word (bench bus array security word)

-- the line's counter after an event: that of a chip whose counter the event has moved, else that of the first
abbrev pub line_counter : List Chip → List Chip → ℕ
line_counter before now =
    up_to (λ (i at : ℕ). let mine = (control_at now i).arraycounter in cond (eqb (control_at before i).arraycounter mine) at mine) 4 (control_at now 0).arraycounter

-- a chip with its array counter elsewhere, modulo its array; one amid a load is the one that moved it, and has it already
abbrev pub moved_to : ℕ → Chip → Chip
moved_to at c =
    cond (is_empty c.span) (record { control = arraycounter_at (at % (geometry_of c.control.part).array) c.control; span = c.span }) c

-- one counter for the line: after every event all chips have it
abbrev pub shared : Fault
shared world word made =
    let bus = bus_of (led_to made) in (
      record {
        bus = record { count = bus.count; started = bus.started; chips = map (moved_to (line_counter (bus_of world).chips bus.chips)) bus.chips; values = bus.values };
        answer = made.0.answer;
      },
      array_of made,
      security_of made,
    )

abbrev pub one_counter : Bench → Bench
one_counter = with shared

-- the F8h acknowledge treated as one chip's own: every byte F8h gets the answer of the first chip alone (which chip is to be chosen only
-- the next byte says)
abbrev pub for_first : Bench → Fault
for_first bench world word made =
    cond (is_f8 word) (record { bus = bus_of (led_to made); answer = (stepped bench (alone 0 world) word).0.answer }, array_of made, security_of made) made

abbrev pub own_f8 : Bench → Bench
own_f8 bench = with (for_first bench) bench

-- ours is the bus's step
abbrev pub our_bench : Bench
our_bench = step
