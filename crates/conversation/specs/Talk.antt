-- A conversation over a transcript: each line is answered, one after the other, by the step of a single event; a malformed line ends the run
-- (paper, "The transcript").
use Rattle.std.specs.Prelude.{ℕ, ◌+◌, ◌-◌, ◌/◌, Bool, true, false, cond, ◌&&◌, List, [], ◌++◌, ltb, length, get_or, drop}
use Rattle.base.specs.Fold.{up_to, all_below}
use Rattle.refusal.specs.Refusal.{answer_word}
use Rattle.board.specs.Stores.{WithStores, array_of, security_of}
use Rattle.bus.specs.declared.Bus.{Bus}
use Rattle.bus.specs.declared.Stepped.{Stepped}
use Rattle.bus.specs.Step.{step}
use Rattle.transcript.specs.declared.frame.Frame.{Frame}
use Rattle.transcript.specs.declared.frame.Frame.TheVariants.{Event, Malformed, End}
use Rattle.transcript.specs.Digit.{is_digit}
use Rattle.transcript.specs.Frame.{frame_bytes, malformed, frame_at}
use Rattle.print.specs.Print.{printed_bytes, printed, closing}
use Rattle.conversation.specs.declared.Heard.{Heard}

-- the bus and both stores, the answers so far, the place in the text, and whether a malformed line has ended the run
pub record Talk : Type 0 where
  pub bus : Bus
  pub array : List ℕ
  pub security : List ℕ
  pub said : List ℕ
  pub at : ℕ
  pub over : Bool

-- nothing is read yet, and nothing said
abbrev pub opened : Bus → List ℕ → List ℕ → Talk
opened bus array security = record { bus = bus; array = array; security = security; said = []; at = 0; over = false }

-- a step's answer is said, and the place is after its line
abbrev pub answered : ℕ → ℕ → Talk → WithStores Stepped → Talk
answered event next talk stepped =
    record { bus = stepped.0.bus; array = array_of stepped; security = security_of stepped; said = talk.said ++ printed event (answer_word stepped.0.answer); at = next; over = talk.over }

-- what is left from a place on may still become a line: it is shorter than one, and all of it digits
abbrev pub unfinished : List ℕ → ℕ → Bool
unfinished text at = ltb (length text - at) frame_bytes && all_below (λ (i : ℕ). is_digit (get_or text (at + i) 0)) (length text - at)

-- FFFF0900, and nothing after it is heard
abbrev pub ended : List ℕ → Talk → Talk
ended text talk =
    record { bus = talk.bus; array = talk.array; security = talk.security; said = talk.said ++ closing malformed; at = length text; over = true }

abbrev pub by_frame : Frame → List ℕ → Talk → Talk
by_frame (Event event next) text talk = answered event next talk (step talk.bus talk.array talk.security event)
by_frame Malformed text talk = cond (unfinished text talk.at) talk (ended text talk)
by_frame End text talk = talk

-- what the reader says at the place is answered
unfoldable pub hear_frame : List ℕ → Talk → Talk
hear_frame text talk = by_frame (frame_at text talk.at) text talk

-- at most n lines are answered, one after the other
abbrev pub hear : List ℕ → ℕ → Talk → Talk
hear text n talk = up_to (λ (i : ℕ). hear_frame text) n talk

-- how many answers a buffer has room for
abbrev pub room_in : List ℕ → ℕ
room_in buffer = length buffer / printed_bytes

-- what a conversation tells: how much of the text is used, how much was said, whether it is over
abbrev pub heard_in : Talk → Heard
heard_in talk = record { used = talk.at; written = length talk.said; over = talk.over }

-- the answers stand at the start of the buffer, and the rest of it stays
abbrev pub laid_on : List ℕ → List ℕ → List ℕ
laid_on buffer said = said ++ drop (length said) buffer

-- all that a conversation leaves: what it tells, the bus, both stores, the buffer
abbrev pub Left : Type 0
Left = Heard × Bus × List ℕ × List ℕ × List ℕ

abbrev pub left_by : List ℕ → Talk → Left
left_by buffer talk = (heard_in talk, talk.bus, talk.array, talk.security, laid_on buffer talk.said)

-- a text is heard as far as the buffer has room for answers
unfoldable pub converse : List ℕ → Bus → List ℕ → List ℕ → List ℕ → Left
converse text bus array security buffer = left_by buffer (hear text (room_in buffer) (opened bus array security))
