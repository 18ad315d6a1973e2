-- An address byte, and the byte after F8h (paper, "Address byte" and "Device ID"; sheets 3.3 and 11.0).
use Rattle.std.specs.Prelude.{ℕ, ◌/◌, ◌%◌, Bool, true, false, cond, ◌&&◌, eqb}
use Rattle.parts.specs.declared.part.Geometry.{Geometry}
use Rattle.parts.specs.Part.{geometry_of}
use Rattle.parts.specs.Address.{answers, a16_of}
use Rattle.control.specs.declared.Control.{Control}
use Rattle.control.specs.declared.Answered.{Answered}
use Rattle.control.specs.declared.phase.Phase.TheVariants.{Standby, AwaitsChoice, AwaitsWord, SendsByte}
use Rattle.control.specs.declared.phase.Word.TheVariants.{ArrayFirst, RegisterFirst}
use Rattle.control.specs.declared.phase.Source.{Source}
use Rattle.control.specs.declared.phase.Source.TheVariants.{FromArray, FromSecurity, FromConfiguration, FromId, FromNothing}
use Rattle.control.specs.declared.phase.Shown.{Shown}
use Rattle.control.specs.declared.phase.Shown.TheVariants.{ShowsSecurity, ShowsConfiguration, ShowsNothing}
use Rattle.control.specs.Control.{choosing}
use Rattle.control.specs.Said.{acked, silent, occupied, stays}
use Rattle.addressing.specs.declared.Call.{Call}
use Rattle.addressing.specs.declared.Call.TheVariants.{ReadArray, WriteArray, ReadRegister, WriteRegister, HostF8, HostF9, Nobody}

-- 1010 or 1011, three bits, then 1 for read. The three bits are the code that the chip answers or not; in a write to the array
-- they hold A16, elsewhere that bit means nothing. 08h to 0Fh match nobody, as every other byte
unfoldable pub call_by_form : Geometry → ℕ → ℕ → Call
call_by_form g strap byte =
    cond (eqb byte 0xF8) HostF8
    (cond (eqb byte 0xF9) HostF9
    (cond (answers g strap (byte / 2 % 8))
    (cond (eqb (byte / 16) 0b1010) (cond (eqb (byte % 2) 1) ReadArray (WriteArray (a16_of g (byte / 2 % 8))))
    (cond (eqb (byte / 16) 0b1011) (cond (eqb (byte % 2) 1) ReadRegister WriteRegister) Nobody))
    Nobody))

-- 1011 bytes are for a part that has registers, F8h and F9h for one that identifies itself (request E7)
abbrev pub is_able : Geometry → Call → Bool
is_able g ReadArray = true
is_able g (WriteArray a16) = true
is_able g ReadRegister = g.registers
is_able g WriteRegister = g.registers
is_able g HostF8 = g.identifies
is_able g HostF9 = g.identifies
is_able g Nobody = true

-- what a part is not able to do is asked of nobody
abbrev pub if_able : Geometry → Call → Call
if_able g call = cond (is_able g call) call Nobody

unfoldable pub call_of : Geometry → ℕ → ℕ → Call
call_of g strap byte = if_able g (call_by_form g strap byte)

-- a 1011 read shows what the last whole 1011 word address named; the configuration register from byte 0
abbrev pub source_of : Shown → Source
source_of ShowsSecurity = FromSecurity
source_of ShowsConfiguration = FromConfiguration false
source_of ShowsNothing = FromNothing

-- F9h: the chosen chip acknowledges and sends its ID bytes; with none chosen it is unanswered
abbrev pub take_identify : Control → Answered
take_identify c = cond c.chosen (acked (SendsByte (FromId 0)) c) (silent Standby c)

-- any other address byte drops the choice; F8h is acknowledged by every chip that identifies itself and awaits an address byte
abbrev pub take_call : Call → Control → Answered
take_call ReadArray c = acked (SendsByte FromArray) (choosing false c)
take_call (WriteArray a16) c = acked (AwaitsWord (ArrayFirst a16)) (choosing false c)
take_call ReadRegister c = acked (SendsByte (source_of c.shown)) (choosing false c)
take_call WriteRegister c = acked (AwaitsWord RegisterFirst) (choosing false c)
take_call HostF8 c = acked AwaitsChoice (choosing false c)
take_call HostF9 c = take_identify c
take_call Nobody c = silent Standby (choosing false c)

unfoldable pub take_address : Control → ℕ → Answered
take_address c byte = take_call (call_of (geometry_of c.part) c.strap byte) c

-- a 1010 byte with a code of the chip names it, and so does a 1011 byte where the chip has registers
abbrev pub is_named : Call → Bool
is_named ReadArray = true
is_named (WriteArray a16) = true
is_named ReadRegister = true
is_named WriteRegister = true
is_named HostF8 = false
is_named HostF9 = false
is_named Nobody = false

abbrev pub names : ℕ → Control → Bool
names byte c = is_named (call_of (geometry_of c.part) c.strap byte)

-- a byte that finds the chip busy, which stays so: to an address byte, the first byte after a Start, that names it the chip is
-- occupied (request E8)
unfoldable pub take_busy : Control → Bool → ℕ → Answered
take_busy c first byte = cond (first && names byte c) (occupied c) (stays c)

-- the byte after F8h, read bit ignored: the chip whose 1010 address it is acknowledges, is chosen and takes nothing before the
-- next Start; the others go to standby
abbrev pub take_chosen : Call → Control → Answered
take_chosen ReadArray c = acked Standby (choosing true c)
take_chosen (WriteArray a16) c = acked Standby (choosing true c)
take_chosen ReadRegister c = silent Standby c
take_chosen WriteRegister c = silent Standby c
take_chosen HostF8 c = silent Standby c
take_chosen HostF9 c = silent Standby c
take_chosen Nobody c = silent Standby c

unfoldable pub take_choice : Control → ℕ → Answered
take_choice c byte = take_chosen (call_of (geometry_of c.part) c.strap byte) c
