-- One chip: what each event does to it and to its shares of the two stores, and what it says (paper, "How one chip behaves").
use Rattle.std.specs.Prelude.{ℕ, Bool, true, false, cond, List}
use Rattle.load.specs.Span.{empty_span, dropped}
use Rattle.load.specs.Load.{load_of}
use Rattle.control.specs.declared.Said.TheVariants.{Nothing}
use Rattle.control.specs.declared.phase.Phase.TheVariants.{Standby, AwaitsAddress}
use Rattle.control.specs.Phase.{is_busy}
use Rattle.control.specs.Control as control
use Rattle.control.specs.Exchange.{powered_up}
use Rattle.taking.specs.Taking as taking
use Rattle.sending.specs.Sending as sending
use Rattle.cycle.specs.Stop as cycle
use Rattle.chip.specs.declared.Chip.{Chip}
use Rattle.chip.specs.declared.Stepped.{Stepped}
use Rattle.chip.specs.declared.event.Event.{Event}
use Rattle.chip.specs.declared.event.Event.TheVariants.{Start, Stop, Sent, Read, Wp, CycleOver, PowerUp}

-- a chip as set up (paper, "The two memories")
abbrev pub fresh : ℕ → ℕ → Chip
fresh part strap = record { control = control.fresh part strap; span = empty_span }

-- an event that has no reply
abbrev pub quiet : Chip → Stepped
quiet c = record { chip = c; said = Nothing }

-- Start: a chip that is not busy drops any pending load and takes the next byte as an address byte; a busy one stays busy
abbrev pub start : Chip → Chip
start c =
    cond (is_busy c.control.phase) c
    (record { control = control.in_phase AwaitsAddress c.control; span = dropped c.span })

-- a byte sent by the host, the first after a Start or not
abbrev pub take : Chip → Bool → ℕ → Stepped
take c first byte =
    record {
      chip = record { control = (taking.take c.control first byte).control; span = taking.span_after c.span c.control };
      said = (taking.take c.control first byte).said;
    }

-- and the values of the line then, since the byte may be loaded
abbrev pub values_taken : Chip → ℕ → List ℕ → List ℕ
values_taken c byte values = taking.values_after c.span c.control byte values

abbrev pub taken : Chip → Bool → ℕ → List ℕ → Stepped × List ℕ
taken c first byte values = (take c first byte, values_taken c byte values)

-- a byte read by the host
abbrev pub read : Chip → List ℕ → List ℕ → Bool → Stepped
read c array security nack =
    record {
      chip = record { control = (sending.read c.control array security nack).control; span = c.span };
      said = (sending.read c.control array security nack).said;
    }

-- Stop: what is loaded is stored or not, and the load is gone; a busy chip takes no notice
abbrev pub stop : Chip → List ℕ → List ℕ → List ℕ → Chip × List ℕ × List ℕ
stop c values array security =
    let stopped = cycle.stop c.control (load_of c.span values) array security in
    cond (is_busy c.control.phase) (c, array, security) (record { control = stopped.0; span = dropped c.span }, stopped.1, stopped.2)

-- the WP pin, low or high
abbrev pub wp : Bool → Chip → Chip
wp level c = record { control = control.wp_at level c.control; span = c.span }

-- the write cycle is over: standby until the next Start; no effect if not busy, which the bus refuses (request E2, 12)
abbrev pub cycle_over : Chip → Chip
cycle_over c =
    cond (is_busy c.control.phase) (record { control = control.in_phase Standby c.control; span = c.span }) c

-- Power up: phase, load, choice and busy mark are cleared, counters 0; stores, registers and WP level stay
abbrev pub power_up : Chip → Chip
power_up c = record { control = powered_up c.control; span = dropped c.span }

-- what an event does that meets neither the stores nor the values of a load; and which these are
abbrev pub moved : Chip → Event → Chip
moved c Start = start c
moved c Stop = c
moved c (Sent first byte) = c
moved c (Read nack) = c
moved c (Wp level) = wp level c
moved c CycleOver = cycle_over c
moved c PowerUp = power_up c

abbrev pub meets_nothing : Event → Bool
meets_nothing Start = true
meets_nothing Stop = false
meets_nothing (Sent first byte) = false
meets_nothing (Read nack) = false
meets_nothing (Wp level) = true
meets_nothing CycleOver = true
meets_nothing PowerUp = true

-- one event at one chip, with the values that the line keeps and on its own shares: demand 2 for one chip
unfoldable pub step : Chip → List ℕ → List ℕ → List ℕ → Event → Stepped × List ℕ × List ℕ
step c values array security Start = (quiet (start c), array, security)
step c values array security Stop =
    (quiet (stop c values array security).0, (stop c values array security).1, (stop c values array security).2)
step c values array security (Sent first byte) = (take c first byte, array, security)
step c values array security (Read nack) = (read c array security nack, array, security)
step c values array security (Wp level) = (quiet (wp level c), array, security)
step c values array security CycleOver = (quiet (cycle_over c), array, security)
step c values array security PowerUp = (quiet (power_up c), array, security)

-- and the values then: a byte sent may be loaded
unfoldable pub values_after : Chip → Event → List ℕ → List ℕ
values_after c Start values = values
values_after c Stop values = values
values_after c (Sent first byte) values = values_taken c byte values
values_after c (Read nack) values = values
values_after c (Wp level) values = values
values_after c CycleOver values = values
values_after c PowerUp values = values
