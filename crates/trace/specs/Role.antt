-- What an event is for the chips that it meets (paper, "Events and replies" and "How one chip behaves").
use Rattle.std.specs.Prelude.{ℕ, Bool, cond, List, eqb, is_some, Option, Some, None}
use Rattle.control.specs.declared.phase.Phase.{Phase}
use Rattle.control.specs.declared.phase.Phase.TheVariants.{Standby, Busy, AwaitsAddress, AwaitsChoice, AwaitsWord, TakesData, SendsByte}
use Rattle.chip.specs.declared.Chip.{Chip}
use Rattle.chip.specs.declared.event.Event.{Event}
use Rattle.chip.specs.declared.event.Event.TheVariants as event
use Rattle.trace.specs.declared.chips.Test.TheVariants.{Partner, HasAddress, Awaits, Chosen}
use Rattle.trace.specs.declared.role.Role.{Role}
use Rattle.trace.specs.declared.role.Act.{Act}
use Rattle.trace.specs.declared.role.Act.TheVariants.{Start, Stop, HostF8, HostF9, Address, Choice, WordByte, DataByte, ForSender, ForNobody, ReadFrom, ReadFromNobody, Wp, CycleOver, PowerUp}
use Rattle.trace.specs.Chips.{is_array_byte, who, chip_or_none}
use Rattle.trace.specs.Dropped.{dropped_of}
use Rattle.trace.specs.Ending.{ending_of}

abbrev pub role_as : Option ℕ → Act → Role
role_as chip act = record { chip = chip; act = act }

-- an address byte: F8h; F9h, for the chip that is chosen; any other, for the chip whose address it is
abbrev pub address_role : ℕ → ℕ → List Chip → Role
address_role byte count chips =
    cond (eqb byte 0xF8) (role_as None HostF8)
    (cond (eqb byte 0xF9) (role_as (who Chosen count chips) HostF9)
    (role_as (who (HasAddress byte) count chips) Address))

-- the byte after F8h: for the chip whose 1010 address it is
abbrev pub choice_role : ℕ → ℕ → List Chip → Role
choice_role byte count chips = role_as (cond (is_array_byte byte) (who (HasAddress byte) count chips) None) Choice

-- any other byte sent, by the phase of the host's partner
abbrev pub byte_act : Phase → Act
byte_act Standby = ForNobody
byte_act Busy = ForNobody
byte_act AwaitsAddress = ForNobody
byte_act AwaitsChoice = ForNobody
byte_act (AwaitsWord word) = WordByte word
byte_act (TakesData kind) = DataByte kind
byte_act (SendsByte source) = ForSender

-- and a byte read
abbrev pub read_act : Phase → Act
read_act Standby = ReadFromNobody
read_act Busy = ReadFromNobody
read_act AwaitsAddress = ReadFromNobody
read_act AwaitsChoice = ReadFromNobody
read_act (AwaitsWord word) = ReadFromNobody
read_act (TakesData kind) = ReadFromNobody
read_act (SendsByte source) = ReadFrom source

-- the first byte after a Start is an address byte; who awaits another awaits the one after F8h
abbrev pub sent_role : Bool → ℕ → Option ℕ → Phase → ℕ → List Chip → Role
sent_role first byte partner phase count chips =
    cond first (address_role byte count chips)
    (cond (is_some (who Awaits count chips)) (choice_role byte count chips)
    (role_as partner (byte_act phase)))

-- with the host's partner, if there is one; `named` is the chip that events 05 to 07 name
abbrev pub role_with : Option ℕ → Event → ℕ → ℕ → List Chip → Role
role_with partner event.Start named count chips = role_as partner (Start (dropped_of (chip_or_none chips partner)))
role_with partner event.Stop named count chips = role_as partner (Stop (ending_of (chip_or_none chips partner)))
role_with partner (event.Sent first byte) named count chips = sent_role first byte partner (chip_or_none chips partner).control.phase count chips
role_with partner (event.Read nack) named count chips = role_as partner (read_act (chip_or_none chips partner).control.phase)
role_with partner (event.Wp level) named count chips = role_as (Some named) (Wp level)
role_with partner event.CycleOver named count chips = role_as (Some named) CycleOver
role_with partner event.PowerUp named count chips = role_as partner (PowerUp (dropped_of (chip_or_none chips partner)))

unfoldable pub role_of : Event → ℕ → ℕ → List Chip → Role
role_of event named count chips = role_with (who Partner count chips) event named count chips
