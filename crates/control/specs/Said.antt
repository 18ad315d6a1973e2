-- What a chip says to an event, and the paper's reply for it (02: request E8).
use Rattle.std.specs.Prelude.{ℕ}
use Rattle.control.specs.declared.Control.{Control}
use Rattle.control.specs.declared.Answered.{Answered}
use Rattle.control.specs.declared.Said.{Said}
use Rattle.control.specs.declared.Said.TheVariants.{Nothing, Ack, Occupied, Byte}
use Rattle.control.specs.declared.phase.Phase.{Phase}
use Rattle.control.specs.Control.{in_phase}

-- the reply: 01 for an acknowledge, 02 for a busy chip that an address byte names, the byte that is sent, and where nothing is said
-- what the line shows then, which is 00 for a byte sent and FF for a byte read (paper, "Events and replies")
abbrev pub reply_of : ℕ → Said → ℕ
reply_of otherwise Nothing = otherwise
reply_of otherwise Ack = 1
reply_of otherwise Occupied = 2
reply_of otherwise (Byte byte) = byte

-- a byte acknowledged
abbrev pub acked : Phase → Control → Answered
acked phase c = record { control = in_phase phase c; said = Ack }

-- one that is not
abbrev pub silent : Phase → Control → Answered
silent phase c = record { control = in_phase phase c; said = Nothing }

-- an address byte that names the chip while it is busy: it stays as it is
abbrev pub occupied : Control → Answered
occupied c = record { control = c; said = Occupied }

-- an event that is not for this chip
abbrev pub stays : Control → Answered
stays c = record { control = c; said = Nothing }
