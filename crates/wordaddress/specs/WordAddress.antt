-- Word-address bytes: two follow a write's address byte, high first, each acknowledged (paper, "Write", "Security register" and
-- "Configuration"; sheets 3.3.2, 9.1, 10.3 and 10.4).
use Rattle.std.specs.Prelude.{ℕ, ◌/◌, ◌%◌, Bool, true, false, cond, ◌&&◌, eqb}
use Rattle.parts.specs.Part.{geometry_of}
use Rattle.regions.specs.Counter.{counter_in}
use Rattle.control.specs.declared.Control.{Control}
use Rattle.control.specs.declared.Answered.{Answered}
use Rattle.control.specs.declared.phase.Phase.TheVariants.{Standby, AwaitsWord, TakesData}
use Rattle.control.specs.declared.phase.Word.{Word}
use Rattle.control.specs.declared.phase.Word.TheVariants.{ArrayFirst, ArraySecond, RegisterFirst, RegisterSecond}
use Rattle.control.specs.declared.phase.Data.TheVariants.{ToArray, ToSecurity, ToConfiguration, ToLock, ToNowhere}
use Rattle.control.specs.declared.phase.Came.TheVariants.{Zero}
use Rattle.control.specs.declared.phase.Shown.TheVariants.{ShowsSecurity, ShowsConfiguration, ShowsNothing}
use Rattle.control.specs.Control.{arraycounter_at, securitycounter_at, showing}
use Rattle.control.specs.Said.{acked, silent}
use Rattle.wordaddress.specs.declared.Register.{Register}
use Rattle.wordaddress.specs.declared.Register.TheVariants.{Security, Configuration, Lock, Nowhere}

-- the counter is set on the second byte: A16 and 16 bits, or the value modulo the array's size
abbrev pub take_array_second : Bool → ℕ → Control → ℕ → Answered
take_array_second a16 first c byte =
    acked (TakesData ToArray) (arraycounter_at (counter_in (geometry_of c.part).array a16 first byte) c)

-- what the first word-address byte names: 0xxx10xx security, 1xxx10xx configuration, xxxx0110 the lock command (Table 3-3)
abbrev pub register_of : ℕ → Register
register_of first =
    cond (eqb (first / 4 % 4) 0b10)
    (cond (eqb (first / 128) 0) Security Configuration)
    (cond (eqb (first % 16) 0b0110) Lock Nowhere)

abbrev pub is_lock : Register → Bool
is_lock Security = false
is_lock Configuration = false
is_lock Lock = true
is_lock Nowhere = false

-- once the ID page is locked, the lock command is not acknowledged (sheets 10.4.2)
abbrev pub take_register_first : Control → ℕ → Answered
take_register_first c byte =
    cond (c.idlocked && is_lock (register_of byte)) (silent Standby c) (acked (AwaitsWord (RegisterSecond byte)) c)

-- only a security address sets the security counter: nine bits, or six, of the word address
abbrev pub take_security : ℕ → Control → ℕ → Answered
take_security first c byte =
    acked (TakesData ToSecurity)
    (showing ShowsSecurity (securitycounter_at (counter_in (geometry_of c.part).security false first byte) c))

-- the lock command names no memory, so a 1011 read after it shows nothing
abbrev pub take_lock : Control → Answered
take_lock c = cond c.idlocked (silent Standby c) (acked (TakesData (ToLock false)) (showing ShowsNothing c))

-- the word address is whole: a 1011 read shows what it names. An address matching no pattern reads FF, and its data go nowhere
abbrev pub take_named : Register → ℕ → Control → ℕ → Answered
take_named Security first c byte = take_security first c byte
take_named Configuration first c byte = acked (TakesData (ToConfiguration Zero)) (showing ShowsConfiguration c)
take_named Lock first c byte = take_lock c
take_named Nowhere first c byte = acked (TakesData ToNowhere) (showing ShowsNothing c)

abbrev pub take_register_second : ℕ → Control → ℕ → Answered
take_register_second first c byte = take_named (register_of first) first c byte

-- after only one byte the counter is unchanged
abbrev pub take_word : Word → Control → ℕ → Answered
take_word (ArrayFirst a16) c byte = acked (AwaitsWord (ArraySecond a16 byte)) c
take_word (ArraySecond a16 first) c byte = take_array_second a16 first c byte
take_word RegisterFirst c byte = take_register_first c byte
take_word (RegisterSecond first) c byte = take_register_second first c byte
