-- What is pending in a conversation: the event that is to be played next, if there is one.
use Rattle.std.specs.Prelude.{ℕ, ◌+◌, Bool, true, false, cond, Some, None, List, leb, length}
use Rattle.base.specs.Store.{patched}
use Rattle.refusal.specs.Verdict.{Answer}
use Rattle.refusal.specs.Refusal.{answer_word}
use Rattle.transcript.specs.declared.frame.Frame.{Frame}
use Rattle.transcript.specs.declared.frame.Frame.TheVariants.{Event, Malformed, End}
use Rattle.transcript.specs.Frame.{malformed, frame_at}
use Rattle.print.specs.Print.{printed_bytes, printed, closing}
use Rattle.conversation.specs.declared.Heard.{Heard}
use Rattle.conversation.specs.declared.pending.Pending.{Pending}
use Rattle.conversation.specs.Talk.{unfinished}

-- an answer has room after what was written
abbrev pub has_room : List ℕ → ℕ → Bool
has_room buffer written = leb (written + printed_bytes) (length buffer)

-- no event is to be played: the text ends here, or its last line is unfinished, or there is no room
abbrev pub paused : ℕ → ℕ → Pending
paused at written = record { event = None; at = at; written = written; over = false }

-- an event, with the place after its line
abbrev pub to_play : ℕ → ℕ → ℕ → Pending
to_play event next written = record { event = Some event; at = next; written = written; over = false }

abbrev pub last_pending : List ℕ → ℕ → Pending
last_pending text written = record { event = None; at = length text; written = written + printed_bytes; over = true }

abbrev pub pending_by : Frame → List ℕ → ℕ → List ℕ → ℕ → Pending × List ℕ
pending_by (Event event next) text at buffer written = (to_play event next written, buffer)
pending_by Malformed text at buffer written =
    cond (unfinished text at) (paused at written, buffer) (last_pending text written, patched written (closing malformed) buffer)
pending_by End text at buffer written = (paused at written, buffer)

-- what is pending at a place of the text, and the buffer, which has FFFF0900 where a malformed line stands there
unfoldable pub pending_at : List ℕ → ℕ → List ℕ → ℕ → Pending × List ℕ
pending_at text at buffer written = cond (has_room buffer written) (pending_by (frame_at text at) text at buffer written) (paused at written, buffer)

-- an event was played: its answer is noted, and what stands at the place after it is pending
unfoldable pub next_pending : List ℕ → Pending → ℕ → Answer → List ℕ → Pending × List ℕ
next_pending text pending event answer buffer =
    cond (has_room buffer pending.written)
    (pending_at text pending.at (patched pending.written (printed event (answer_word answer)) buffer) (pending.written + printed_bytes))
    (paused pending.at pending.written, buffer)

abbrev pub heard_of : Pending → Heard
heard_of pending = record { used = pending.at; written = pending.written; over = pending.over }

-- the text has ended: what is left of it is no line
unfoldable pub finished : List ℕ → Heard → List ℕ → Heard × List ℕ
finished text heard buffer =
    cond (leb (length text) heard.used) (heard, buffer)
    (cond (has_room buffer heard.written)
    (heard_of (last_pending text heard.written), patched heard.written (closing malformed) buffer)
    (heard, buffer))
