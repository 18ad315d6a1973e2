-- An event on the line: every chip that it reaches takes it on its own shares of the two stores, and the line's answer is gathered
-- from all (paper, "Events and replies" and "The two memories").
use Rattle.std.specs.Prelude.{ℕ, ◌+◌, Bool, false, cond, ◌&&◌, ◌||◌, List, [], ◌∷◌, ◌≡◌, set}
use Rattle.base.specs.Fold.{up_to, any_below}
use Rattle.base.specs.Least.{least}
use Rattle.base.specs.Store.{span, patched}
use Rattle.parts.specs.declared.part.Geometry.{Geometry}
use Rattle.control.specs.declared.Said.{Said}
use Rattle.control.specs.declared.Said.TheVariants.{Nothing, Ack, Occupied, Byte}
use Rattle.control.specs.declared.phase.Phase.{Phase}
use Rattle.control.specs.Phase.{is_busy, is_taking}
use Rattle.control.specs.Said.{reply_of}
use Rattle.chip.specs.declared.Chip.{Chip}
use Rattle.chip.specs.declared.Stepped.{Stepped}
use Rattle.chip.specs.declared.event.Event.{Event}
use Rattle.chip.specs.declared.event.Event.TheVariants.{Start, Stop, Sent, Read, Wp, CycleOver, PowerUp}
use Rattle.chip.specs.Chip.{step}
use Rattle.chip.specs.Chip as chip
use Rattle.refusal.specs.declared.Refusal.{Refusal}
use Rattle.refusal.specs.declared.Refusal.TheVariants.{NotBusy, Clash}
use Rattle.board.specs.declared.Place.{Place}
use Rattle.board.specs.Place.{placed}
use Rattle.board.specs.Stores.{WithStores, array_of, security_of}
use Rattle.board.specs.Shares.{figures_at, array_start, security_start}
use Rattle.decode.specs.declared.Addressed.{Addressed}
use Rattle.decode.specs.declared.Addressed.TheVariants.{ToAll, ToOne}
use Rattle.decode.specs.Decode.{reaches, event_of}
use Rattle.decode.specs.Hearing.{lacks_cycle, clashes_with}
use Rattle.lineup.specs.Chips.{chip_at, control_at, places_of}
use Rattle.line.specs.declared.Played.{Played}
use Rattle.line.specs.declared.Ends.{Ends}

-- refusal 12: cycle over, and the chip that it names is not busy (request E2); no other chip is asked
abbrev pub not_busy : Addressed → List Chip → Bool
not_busy (ToAll event) chips = false
not_busy (ToOne named event) chips = lacks_cycle event (control_at chips named).phase

-- refusal 8: a byte sent while a chip is sending, or a byte read while a chip is taking bytes
abbrev pub clash : Event → ℕ → List Chip → Bool
clash event count chips = any_below (λ (i : ℕ). clashes_with event (control_at chips i).phase) (placed count)

-- what is checked on the line: 12, then 8
abbrev pub line_checks : Addressed → ℕ → List Chip → List (Bool × Refusal)
line_checks addressed count chips = (not_busy addressed chips, NotBusy) ∷ (clash (event_of addressed) count chips, Clash) ∷ []

-- a chip's share of each store
abbrev pub array_share : List Place → ℕ → List ℕ → List ℕ
array_share places i array = span (array_start places i) (figures_at places i).array array

abbrev pub security_share : List Place → ℕ → List ℕ → List ℕ
security_share places i security = span (security_start places i) (figures_at places i).security security

-- where the shares of a part end that begin at two places of the stores, cut at the stores' ends
abbrev pub share_ends : Geometry → ℕ → ℕ → ℕ → ℕ → Ends
share_ends g at from array security = record { array = least (at + g.array) array; security = least (from + g.security) security }

-- a byte sent is heard by a chip that takes bytes, and the first one after a Start by a busy chip too (request E8)
abbrev pub hears : Bool → Phase → Bool
hears first phase = is_taking phase || (first && is_busy phase)

-- that a chip is busy is heard where nothing was said before: an acknowledge is heard over it
abbrev pub unless_said : Said → Said → Said
unless_said Nothing said = said
unless_said Ack said = Ack
unless_said Occupied said = Occupied
unless_said (Byte byte) said = Byte byte

-- what the line carries when one chip and then another have spoken; a chip that says nothing leaves it
abbrev pub heard : Said → Said → Said
heard before Nothing = before
heard before Ack = Ack
heard before Occupied = unless_said before Occupied
heard before (Byte byte) = Byte byte

-- the chips and what they have said so far, beside the two stores
abbrev pub OnLine : Type 0
OnLine = WithStores Played

abbrev pub chips_of : OnLine → List Chip
chips_of line = line.0.chips

abbrev pub said_of : OnLine → Said
said_of line = line.0.said

-- chip i has taken the event: its next state, its word and its shares are in their places
abbrev pub landed : List Place → ℕ → OnLine → WithStores Stepped → OnLine
landed places i line stepped = (
  record { chips = set (chips_of line) i stepped.0.chip; said = heard (said_of line) stepped.0.said },
  patched (array_start places i) (array_of stepped) (array_of line),
  patched (security_start places i) (security_of stepped) (security_of line),
)

-- chip i takes the event, where it reaches it; each finds the values that the line has as the event comes
abbrev pub chip_takes : Addressed → List ℕ → List Place → ℕ → OnLine → OnLine
chip_takes addressed values places i line =
    cond (reaches addressed i)
    (landed places i line (step (chip_at (chips_of line) i) values (array_share places i (array_of line)) (security_share places i (security_of line)) (event_of addressed)))
    line

-- one chip after the other
unfoldable pub play : Addressed → ℕ → List Chip → List ℕ → List ℕ → List ℕ → OnLine
play addressed count chips values array security =
    up_to (chip_takes addressed values (places_of chips)) (placed count) (record { chips = chips; said = Nothing }, array, security)

-- the values that the line has then: at most one chip of a well-formed line takes data
abbrev pub chip_loads : Addressed → List Chip → ℕ → List ℕ → List ℕ
chip_loads addressed chips i values = cond (reaches addressed i) (chip.values_after (chip_at chips i) (event_of addressed) values) values

unfoldable pub values_after : Addressed → ℕ → List Chip → List ℕ → List ℕ
values_after addressed count chips values = up_to (chip_loads addressed chips) (placed count) values

-- both
abbrev pub play_with : Addressed → ℕ → List Chip → List ℕ → List ℕ → List ℕ → OnLine × List ℕ
play_with addressed count chips values array security = (play addressed count chips values array security, values_after addressed count chips values)

-- an event that leaves both stores, whatever they hold; and one that does so whatever the values
abbrev pub LeavesStores : Addressed → ℕ → List Chip → List ℕ → Played → Type 0
LeavesStores addressed count chips values played =
    (array security : List ℕ) → (played, array, security) ≡ play addressed count chips values array security

abbrev pub LeavesAll : Addressed → ℕ → List Chip → Played → Type 0
LeavesAll addressed count chips played = (values : List ℕ) → LeavesStores addressed count chips values played

-- a byte read leaves the stores that it is read from, whatever the values
abbrev pub ReadsFrom : Addressed → ℕ → List Chip → List ℕ → List ℕ → Played → Type 0
ReadsFrom addressed count chips array security played =
    (values : List ℕ) → (played, array, security) ≡ play addressed count chips values array security

-- the reply: where no chip speaks, FF to a byte read and 00 to every other event
abbrev pub unanswered : Event → ℕ
unanswered Start = 0x00
unanswered Stop = 0x00
unanswered (Sent first byte) = 0x00
unanswered (Read nack) = 0xFF
unanswered (Wp level) = 0x00
unanswered CycleOver = 0x00
unanswered PowerUp = 0x00

abbrev pub line_reply : Event → Said → ℕ
line_reply event said = reply_of (unanswered event) said
