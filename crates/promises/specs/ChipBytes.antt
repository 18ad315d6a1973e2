-- A chip that holds bytes: what it has from the host, and may be asked to store or to send, is below 256. In the program its type says so.
use Rattle.std.specs.Prelude.{ℕ, List, [], ◌∷◌}
use Rattle.base.specs.Every.{FitsByte, AllBytes}
use Rattle.control.specs.declared.Control.{Control}
use Rattle.control.specs.declared.Said.{Said}
use Rattle.control.specs.declared.Said.TheVariants.{Nothing, Ack, Occupied, Byte}
use Rattle.control.specs.declared.phase.Phase.{Phase}
use Rattle.control.specs.declared.phase.Phase.TheVariants.{Standby, Busy, AwaitsAddress, AwaitsChoice, AwaitsWord, TakesData, SendsByte}
use Rattle.control.specs.declared.phase.Word.{Word}
use Rattle.control.specs.declared.phase.Word.TheVariants.{ArrayFirst, ArraySecond, RegisterFirst, RegisterSecond}
use Rattle.control.specs.declared.phase.Data.{Data}
use Rattle.control.specs.declared.phase.Data.TheVariants.{ToArray, ToSecurity, ToConfiguration, ToLock, ToNowhere}
use Rattle.control.specs.declared.phase.Came.{Came}
use Rattle.control.specs.declared.phase.Came.TheVariants.{Zero, One, Two, Three, More}
use Rattle.chip.specs.declared.Chip.{Chip}
use Rattle.chip.specs.declared.Stepped.{Stepped}
use Rattle.chip.specs.declared.event.Event.{Event}
use Rattle.chip.specs.declared.event.Event.TheVariants.{Start, Stop, Sent, Read, Wp, CycleOver, PowerUp}

-- the bytes that came for the configuration register
abbrev pub bytes_came : Came → List ℕ
bytes_came Zero = []
bytes_came (One first) = first ∷ []
bytes_came (Two first second) = first ∷ second ∷ []
bytes_came (Three first second third) = first ∷ second ∷ third ∷ []
bytes_came More = []

abbrev pub bytes_taken : Data → List ℕ
bytes_taken ToArray = []
bytes_taken ToSecurity = []
bytes_taken (ToConfiguration came) = bytes_came came
bytes_taken (ToLock some) = []
bytes_taken ToNowhere = []

-- the first byte of a word address, while the second is awaited
abbrev pub bytes_awaiting : Word → List ℕ
bytes_awaiting (ArrayFirst a16) = []
bytes_awaiting (ArraySecond a16 first) = first ∷ []
bytes_awaiting RegisterFirst = []
bytes_awaiting (RegisterSecond first) = first ∷ []

abbrev pub bytes_in : Phase → List ℕ
bytes_in Standby = []
bytes_in Busy = []
bytes_in AwaitsAddress = []
bytes_in AwaitsChoice = []
bytes_in (AwaitsWord word) = bytes_awaiting word
bytes_in (TakesData kind) = bytes_taken kind
bytes_in (SendsByte source) = []

-- both bytes of the configuration register, and those that the phase holds
abbrev pub ControlBytes : Control → Type 0
ControlBytes c = AllBytes (c.config0 ∷ c.config1 ∷ bytes_in c.phase)

-- a chip has no more of them: the values of its load stand on the line
abbrev pub ChipBytes : Chip → Type 0
ChipBytes c = ControlBytes c.control

-- what a chip says is a byte, where it says one
abbrev pub SaidByte : Said → Type 0
SaidByte Nothing = Unit {0}
SaidByte Ack = Unit {0}
SaidByte Occupied = Unit {0}
SaidByte (Byte byte) = FitsByte byte

-- what the host sends is a byte
abbrev pub EventByte : Event → Type 0
EventByte Start = Unit {0}
EventByte Stop = Unit {0}
EventByte (Sent first byte) = FitsByte byte
EventByte (Read nack) = Unit {0}
EventByte (Wp level) = Unit {0}
EventByte CycleOver = Unit {0}
EventByte PowerUp = Unit {0}

-- a chip, what it says and its shares, as an event leaves them
abbrev pub StepBytes : Stepped × List ℕ × List ℕ → Type 0
StepBytes stepped = ChipBytes stepped.0.chip × SaidByte stepped.0.said × AllBytes stepped.1 × AllBytes stepped.2
