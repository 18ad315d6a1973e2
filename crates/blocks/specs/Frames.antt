-- The lines of a text, of which line j is the five bytes from 5j on; when it has a malformed one; and what comes of it when the
-- event of each is played, one after the other (paper, "The transcript").
use Rattle.std.specs.Prelude.{ℕ, ◌+◌, ◌*◌, ◌≤◌, ◌<◌, true, false, List, [], ◌++◌, ◌⊎◌, ◌≡◌, length}
use Rattle.base.specs.Fold.{up_to}
use Rattle.base.specs.Store.{span}
use Rattle.refusal.specs.Refusal.{answer_word}
use Rattle.board.specs.Stores.{WithStores, array_of, security_of}
use Rattle.bus.specs.declared.Bus.{Bus}
use Rattle.bus.specs.declared.Stepped.{Stepped}
use Rattle.bus.specs.Step.{step}
use Rattle.transcript.specs.Frame.{frame_bytes, malformed, is_frame_at, event_at}
use Rattle.print.specs.Print.{printed_bytes, printed, closing}
use Rattle.conversation.specs.Talk.{unfinished, room_in, laid_on, Left}
use Rattle.conversation.specs.declared.Heard.{Heard}

-- a text begins with k lines
abbrev pub Frames : List ℕ → ℕ → Type 0
Frames text k = (j : ℕ) → j < k → is_frame_at text (j * frame_bytes) ≡ true

-- it begins with k lines, and what is left behind them is no line: a malformed one, or one without LF
pub record NoFrameAfter (text : List ℕ) (k : ℕ) : Type 0 where
  pub frames : Frames text k
  pub left : k * frame_bytes < length text
  pub none : is_frame_at text (k * frame_bytes) ≡ false

-- and it cannot become a line either, whatever comes behind the text (`malformed_exactly_when`)
pub record MalformedAfter (text : List ℕ) (k : ℕ) : Type 0 where
  pub no_frame : NoFrameAfter text k
  pub never : unfinished text (k * frame_bytes) ≡ false

-- a conversation is ended by a malformed line, where the buffer has room for its answer behind those of the lines before it
abbrev pub TalkEnds : List ℕ → List ℕ → Type 0
TalkEnds text buffer = (k : ℕ) × MalformedAfter text k × (k + 1 ≤ room_in buffer)

-- or lines are answered until the room is used up, or until nothing is left but what may still become a line
abbrev pub TalkPauses : List ℕ → List ℕ → Type 0
TalkPauses text buffer = (k : ℕ) × Frames text k × (k ≤ room_in buffer) × ((k ≡ room_in buffer) ⊎ (unfinished text (k * frame_bytes) ≡ true))

-- a whole transcript is ended by anything that is no line
abbrev pub WholeEnds : List ℕ → List ℕ → Type 0
WholeEnds text buffer = (k : ℕ) × NoFrameAfter text k × (k + 1 ≤ room_in buffer)

-- or lines are answered until the room is used up, or until nothing is left
abbrev pub WholePauses : List ℕ → List ℕ → Type 0
WholePauses text buffer = (k : ℕ) × Frames text k × (k ≤ room_in buffer) × ((k ≡ room_in buffer) ⊎ (k * frame_bytes ≡ length text))

-- the bus and both stores, and all that was answered
pub record Spoken : Type 0 where
  pub bus : Bus
  pub array : List ℕ
  pub security : List ℕ
  pub said : List ℕ

abbrev pub unplayed : Bus → List ℕ → List ℕ → Spoken
unplayed bus array security = record { bus = bus; array = array; security = security; said = [] }

-- what a step leaves, and its answer behind the others
abbrev pub step_spoken : ℕ → Spoken → WithStores Stepped → Spoken
step_spoken event spoken stepped =
    record { bus = stepped.0.bus; array = array_of stepped; security = security_of stepped; said = spoken.said ++ printed event (answer_word stepped.0.answer) }

abbrev pub event_spoken : ℕ → Spoken → Spoken
event_spoken event spoken = step_spoken event spoken (step spoken.bus spoken.array spoken.security event)

-- the events of the first k lines, one after the other
abbrev pub after_frames : List ℕ → ℕ → Spoken → Spoken
after_frames text k spoken = up_to (λ (j : ℕ). event_spoken (event_at text (j * frame_bytes))) k spoken

-- what a conversation leaves where k lines were answered, and it is not over
abbrev pub paused_after : ℕ → Spoken → List ℕ → Left
paused_after k spoken buffer =
    (record { used = k * frame_bytes; written = k * printed_bytes; over = false }, spoken.bus, spoken.array, spoken.security, laid_on buffer spoken.said)

-- and where FFFF0900 was said behind them: it is over, and the rest of the text is passed
abbrev pub ended_after : List ℕ → ℕ → Spoken → List ℕ → Left
ended_after text k spoken buffer =
    (record { used = length text; written = (k + 1) * printed_bytes; over = true }, spoken.bus, spoken.array, spoken.security, laid_on buffer (spoken.said ++ closing malformed))

-- a whole transcript leaves the same but for the bus, which serves for nothing else
abbrev pub WholeLeft : Type 0
WholeLeft = Heard × List ℕ × List ℕ × List ℕ

abbrev pub without_bus : Left → WholeLeft
without_bus left = (left.0, left.2, left.3, left.4)

-- FFFF0900 is among the lines that were said
abbrev pub SaysNine : Heard → List ℕ → Type 0
SaysNine heard buffer = (j : ℕ) × (j * printed_bytes + printed_bytes ≤ heard.written) × (span (j * printed_bytes) printed_bytes buffer ≡ closing malformed)
