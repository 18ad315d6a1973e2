-- A byte sent by the host, by the phase of the chip that it meets; its load is left aside (paper, "Data", "Configuration" and
-- "Security register"; sheets 6.1, 6.2, 9.3, 10.3 and 10.4.1).
use Rattle.std.specs.Prelude.{ℕ, Bool, true, cond, List}
use Rattle.parts.specs.Part.{geometry_of}
use Rattle.regions.specs.Page.{next_in_page}
use Rattle.load.specs.declared.Span.{Span}
use Rattle.load.specs.Span.{dropped}
use Rattle.load.specs.Load.{grown_at, put_at}
use Rattle.control.specs.declared.Control.{Control}
use Rattle.control.specs.declared.Answered.{Answered}
use Rattle.control.specs.declared.phase.Phase.{Phase}
use Rattle.control.specs.declared.phase.Phase.TheVariants.{Standby, Busy, AwaitsAddress, AwaitsChoice, AwaitsWord, TakesData, SendsByte}
use Rattle.control.specs.declared.phase.Data.{Data}
use Rattle.control.specs.declared.phase.Data.TheVariants.{ToArray, ToSecurity, ToConfiguration, ToLock, ToNowhere}
use Rattle.control.specs.declared.phase.Came.{Came}
use Rattle.control.specs.declared.phase.Came.TheVariants.{Zero, One, Two, Three, More}
use Rattle.control.specs.Control.{arraycounter_at, securitycounter_at}
use Rattle.control.specs.Said.{acked, silent, stays}
use Rattle.addressing.specs.Address.{take_address, take_busy, take_choice}
use Rattle.wordaddress.specs.WordAddress.{take_word}

-- one byte more for the configuration register; past the third they are not kept
abbrev pub came_more : Came → ℕ → Came
came_more Zero byte = One byte
came_more (One first) byte = Two first byte
came_more (Two first second) byte = Three first second byte
came_more (Three first second third) byte = More
came_more More byte = More

-- a locked page answers a lock command's data with a missing acknowledge (sheets 10.4.1)
abbrev pub take_lock_data : Control → Answered
take_lock_data c = cond c.idlocked (silent Standby c) (acked (TakesData (ToLock true)) c)

-- each byte is acknowledged, and the counter's low part advances and wraps within the page, in the read-only half and on a
-- protected or locked page too
abbrev pub take_data : Data → Control → ℕ → Answered
take_data ToArray c byte = acked (TakesData ToArray) (arraycounter_at (next_in_page (geometry_of c.part) c.arraycounter) c)
take_data ToSecurity c byte = acked (TakesData ToSecurity) (securitycounter_at (next_in_page (geometry_of c.part) c.securitycounter) c)
take_data (ToConfiguration came) c byte = acked (TakesData (ToConfiguration (came_more came byte))) c
take_data (ToLock some) c byte = take_lock_data c
take_data ToNowhere c byte = acked (TakesData ToNowhere) c

-- on standby or sending a chip says nothing and stays as it is; busy it stays too. `first` says that the byte is the first after a
-- Start (request E8)
abbrev pub take_in : Phase → Control → Bool → ℕ → Answered
take_in Standby c first byte = stays c
take_in Busy c first byte = take_busy c first byte
take_in AwaitsAddress c first byte = take_address c byte
take_in AwaitsChoice c first byte = take_choice c byte
take_in (AwaitsWord word) c first byte = take_word word c byte
take_in (TakesData kind) c first byte = take_data kind c byte
take_in (SendsByte source) c first byte = stays c

unfoldable pub take : Control → Bool → ℕ → Answered
take c first byte = take_in c.phase c first byte

-- Data: a byte for the array or the security register is loaded at its counter's place; nothing is stored yet. Lock data on a
-- locked page ends the exchange, and any load with it. What is loaded after a byte sent:
abbrev pub span_data : Data → Span → Control → Span
span_data ToArray span c = grown_at (geometry_of c.part) c.arraycounter span
span_data ToSecurity span c = grown_at (geometry_of c.part) c.securitycounter span
span_data (ToConfiguration came) span c = span
span_data (ToLock some) span c = cond c.idlocked (dropped span) span
span_data ToNowhere span c = span

abbrev pub span_in : Phase → Span → Control → Span
span_in Standby span c = span
span_in Busy span c = span
span_in AwaitsAddress span c = span
span_in AwaitsChoice span c = span
span_in (AwaitsWord word) span c = span
span_in (TakesData kind) span c = span_data kind span c
span_in (SendsByte source) span c = span

unfoldable pub span_after : Span → Control → Span
span_after span c = span_in c.phase span c

-- and the values
abbrev pub values_data : Data → Span → Control → ℕ → List ℕ → List ℕ
values_data ToArray span c byte values = put_at (geometry_of c.part) c.arraycounter byte span values
values_data ToSecurity span c byte values = put_at (geometry_of c.part) c.securitycounter byte span values
values_data (ToConfiguration came) span c byte values = values
values_data (ToLock some) span c byte values = values
values_data ToNowhere span c byte values = values

abbrev pub values_in : Phase → Span → Control → ℕ → List ℕ → List ℕ
values_in Standby span c byte values = values
values_in Busy span c byte values = values
values_in AwaitsAddress span c byte values = values
values_in AwaitsChoice span c byte values = values
values_in (AwaitsWord word) span c byte values = values
values_in (TakesData kind) span c byte values = values_data kind span c byte values
values_in (SendsByte source) span c byte values = values

abbrev pub loaded_data : Data → Span → Control → ℕ → List ℕ → Span × List ℕ
loaded_data kind span c byte values = (span_data kind span c, values_data kind span c byte values)

unfoldable pub values_after : Span → Control → ℕ → List ℕ → List ℕ
values_after span c byte values = values_in c.phase span c byte values

abbrev pub loaded_in : Phase → Span → Control → ℕ → List ℕ → Span × List ℕ
loaded_in phase span c byte values = (span_in phase span c, values_in phase span c byte values)

-- both
abbrev pub loaded : Span → Control → ℕ → List ℕ → Span × List ℕ
loaded span c byte values = (span_after span c, values_after span c byte values)
