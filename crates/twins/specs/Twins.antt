-- An AT24CM01 beside a 24CSM01 whose EWPM is 0 (request E7): the array side of both is the same. What the second has besides, its SWP and LOCK bits,
-- the lock of its ID page, its security counter and register, and what a 1011 read shows, is free.
use Rattle.std.specs.Prelude.{ℕ, true, false, ◌||◌, List, ◌≡◌, replicate}
use Rattle.parts.specs.Part.{geometry_24csm01, geometry_at24cm01, geometry_of}
use Rattle.control.specs.declared.Control.{Control}
use Rattle.control.specs.declared.phase.Phase.{Phase}
use Rattle.control.specs.Phase.{awaits_address}
use Rattle.control.specs.Control.{fresh, in_phase, arraycounter_at, wp_at}
use Rattle.control.specs.Bits.{ewpm}
use Rattle.chip.specs.declared.Chip.{Chip}
use Rattle.chip.specs.declared.Stepped.{Stepped}
use Rattle.chip.specs.declared.event.Event.{Event}
use Rattle.chip.specs.declared.event.Event.TheVariants.{Start, Stop, Sent, Read, Wp, CycleOver, PowerUp}
use Rattle.std.specs.Prelude.{Ok}
use Rattle.refusal.specs.Checks.{first_of}
use Rattle.board.specs.Stores.{array_of, security_of}
use Rattle.lineup.specs.Chips.{chip_at}
use Rattle.bus.specs.Step.{entry_checks, bus_with, step}
use Rattle.bus.proofs.Typed.{OfItsType}
use Rattle.promises.specs.Playing.{World, bus_of, after, answers_to}
use Rattle.turns.specs.Idle.{is_loading}
use Rattle.turns.specs.Alone.{only_chips}
use Rattle.twins.specs.ArrayTurns.{is_array_byte}

-- the same strap, WP level, array counter and phase; neither is chosen. That EWPM of the first is 0 is a fact (10), and no clause
pub record TwinControls (old new : Control) : Type 0 where
  pub older : geometry_of old.part ≡ geometry_at24cm01
  pub newer : geometry_of new.part ≡ geometry_24csm01
  pub ewpm_clear : ewpm new ≡ false
  pub strap : old.strap ≡ new.strap
  pub wp : old.wp ≡ new.wp
  pub arraycounter : old.arraycounter ≡ new.arraycounter
  pub phase : old.phase ≡ new.phase
  pub old_unchosen : old.chosen ≡ false
  pub new_unchosen : new.chosen ≡ false

-- and the same load
pub record Twins (old new : Chip) : Type 0 where
  pub controls : TwinControls old.control new.control
  pub span : old.span ≡ new.span

-- an event that asks of the array alone: a byte that is the first after a Start, or meets a chip that awaits an address byte, is a 1010 byte
abbrev pub AsksArray : Phase → Event → Type 0
AsksArray phase Start = Unit {0}
AsksArray phase Stop = Unit {0}
AsksArray phase (Sent first byte) = (first || awaits_address phase) ≡ true → is_array_byte byte ≡ true
AsksArray phase (Read nack) = Unit {0}
AsksArray phase (Wp level) = Unit {0}
AsksArray phase CycleOver = Unit {0}
AsksArray phase PowerUp = Unit {0}

-- what an event leaves of each of two chips, and the values of its line then: they are twins, said the same and left the same array, and the values of
-- a load are the same
pub record AsOne (old : Stepped × List ℕ × List ℕ) (held : List ℕ) (new : Stepped × List ℕ × List ℕ) (others : List ℕ) : Type 0 where
  pub twins : Twins old.0.chip new.0.chip
  pub said : old.0.said ≡ new.0.said
  pub array : old.1 ≡ new.1
  pub values : is_loading old.0.chip ≡ true → held ≡ others

-- the only chip of a line
abbrev pub only_chip : World → Chip
only_chip world = chip_at (bus_of world).chips 0

-- a line of one chip that passes the checks at entry; the bus is a value of its type
pub record LineOfOne (world : World) : Type 0 where
  pub typed : OfItsType (bus_of world)
  pub enters : first_of (entry_checks (bus_of world) (array_of world) (security_of world)) ≡ Ok tt
  pub one : (bus_of world).count ≡ 1

-- two such lines, with twins on them: both remember a Start or none, the values of a load are the same, and so are the arrays
pub record TwinLines (old new : World) : Type 0 where
  pub old_line : LineOfOne old
  pub new_line : LineOfOne new
  pub twins : Twins (only_chip old) (only_chip new)
  pub started : (bus_of old).started ≡ (bus_of new).started
  pub values : is_loading (only_chip old) ≡ true → (bus_of old).values ≡ (bus_of new).values
  pub array : array_of old ≡ array_of new

-- a 24CSM01 with the array side of a chip and all else as set up; and a line of it, its security register erased
abbrev pub twin_of : Chip → Chip
twin_of c =
    let held = c.control in
    record { control = in_phase held.phase (arraycounter_at held.arraycounter (wp_at held.wp (fresh 1 held.strap))); span = c.span }

abbrev pub twin_line : World → World
twin_line world =
    (bus_with 1 (bus_of world).started (only_chips (twin_of (only_chip world))) (bus_of world).values, array_of world, replicate geometry_24csm01.security 0xFF)

-- a list of events, played on each: the same answers, and twins at the end
pub record AsTwins (old new : World) (events : List ℕ) : Type 0 where
  pub answers : answers_to step old events ≡ answers_to step new events
  pub ends : TwinLines (after step old events) (after step new events)
