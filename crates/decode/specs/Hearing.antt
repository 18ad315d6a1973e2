-- An event and the phase of a chip that it meets.
use Rattle.std.specs.Prelude.{Bool, false, not}
use Rattle.control.specs.declared.phase.Phase.{Phase}
use Rattle.control.specs.Phase.{is_busy, is_sending, is_taking}
use Rattle.chip.specs.declared.event.Event.{Event}
use Rattle.chip.specs.declared.event.Event.TheVariants.{Start, Stop, Sent, Read, Wp, CycleOver, PowerUp}

-- cycle over, and the chip is not busy (request E2, refusal 12)
abbrev pub lacks_cycle : Event → Phase → Bool
lacks_cycle Start phase = false
lacks_cycle Stop phase = false
lacks_cycle (Sent first byte) phase = false
lacks_cycle (Read nack) phase = false
lacks_cycle (Wp level) phase = false
lacks_cycle CycleOver phase = not (is_busy phase)
lacks_cycle PowerUp phase = false

-- a byte sent while the chip is sending, or a byte read while it is taking bytes (paper, refusal 8)
abbrev pub clashes_with : Event → Phase → Bool
clashes_with Start phase = false
clashes_with Stop phase = false
clashes_with (Sent first byte) phase = is_sending phase
clashes_with (Read nack) phase = is_taking phase
clashes_with (Wp level) phase = false
clashes_with CycleOver phase = false
clashes_with PowerUp phase = false
