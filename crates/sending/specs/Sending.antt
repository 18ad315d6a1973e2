-- A byte read by the host: the byte at the counter is sent and the counter advances, also where the host's NACK ends the read
-- (paper, "Read", "Configuration" and "Device ID"; sheets 7.0, 9.4, 10.2 and 11.0).
use Rattle.std.specs.Prelude.{ℕ, Bool, cond, not, List, get_or}
use Rattle.parts.specs.declared.part.Geometry.{Geometry}
use Rattle.parts.specs.Part.{geometry_of}
use Rattle.regions.specs.Page.{next_in}
use Rattle.control.specs.declared.Control.{Control}
use Rattle.control.specs.declared.Answered.{Answered}
use Rattle.control.specs.declared.Said.TheVariants.{Byte}
use Rattle.control.specs.declared.phase.Phase.{Phase}
use Rattle.control.specs.declared.phase.Phase.TheVariants.{Standby, Busy, AwaitsAddress, AwaitsChoice, AwaitsWord, TakesData, SendsByte}
use Rattle.control.specs.declared.phase.Source.{Source}
use Rattle.control.specs.declared.phase.Source.TheVariants.{FromArray, FromSecurity, FromConfiguration, FromId, FromNothing}
use Rattle.control.specs.Control.{in_phase, arraycounter_at, securitycounter_at}
use Rattle.control.specs.Said.{stays}

-- what reads where nothing is sent, and past a share
abbrev pub no_byte : ℕ
no_byte = 0xFF

-- the sheet's three ID bytes, and after the third the first again, until a host NACK (request E5; UM10204 and sheets 11.0)
abbrev pub id_byte : Geometry → ℕ → ℕ
id_byte g place = get_or g.id place no_byte

abbrev pub next_id_place : ℕ → ℕ
next_id_place place = next_in 3 place

-- the byte that goes out; an address matching no pattern reads FF
abbrev pub byte_from : Source → Control → List ℕ → List ℕ → ℕ
byte_from FromArray c array security = get_or array c.arraycounter no_byte
byte_from FromSecurity c array security = get_or security c.securitycounter no_byte
byte_from (FromConfiguration second) c array security = cond second c.config1 c.config0
byte_from (FromId place) c array security = id_byte (geometry_of c.part) place
byte_from FromNothing c array security = no_byte

-- counters go from the last address to 0; byte 0 of the configuration follows byte 1
abbrev pub moved_past : Source → Control → Control
moved_past FromArray c = arraycounter_at (next_in (geometry_of c.part).array c.arraycounter) c
moved_past FromSecurity c = securitycounter_at (next_in (geometry_of c.part).security c.securitycounter) c
moved_past (FromConfiguration second) c = in_phase (SendsByte (FromConfiguration (not second))) c
moved_past (FromId place) c = in_phase (SendsByte (FromId (next_id_place place))) c
moved_past FromNothing c = c

-- a host NACK ends it
abbrev pub after_reply : Control → Bool → Control
after_reply c nack = cond nack (in_phase Standby c) c

abbrev pub send : Source → Control → List ℕ → List ℕ → Bool → Answered
send source c array security nack =
    record { control = after_reply (moved_past source c) nack; said = Byte (byte_from source c array security) }

-- a chip that does not send says nothing and stays as it is
abbrev pub read_in : Phase → Control → List ℕ → List ℕ → Bool → Answered
read_in Standby c array security nack = stays c
read_in Busy c array security nack = stays c
read_in AwaitsAddress c array security nack = stays c
read_in AwaitsChoice c array security nack = stays c
read_in (AwaitsWord word) c array security nack = stays c
read_in (TakesData kind) c array security nack = stays c
read_in (SendsByte source) c array security nack = send source c array security nack

unfoldable pub read : Control → List ℕ → List ℕ → Bool → Answered
read c array security nack = read_in c.phase c array security nack
