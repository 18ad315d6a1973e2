-- `converse` asks what the entry checks say, makes a reader of the text on the tape, and asks what is pending at its first frame; it
-- plays the event and asks what is pending at the reader's next frame as long as there is one, and tells what the last says. So it
-- leaves what `Standing.antt` says: `begins` at the first, `goes` from one to the next, `ends` at the last. Its loop ends since
-- `rank_of` falls.
use Rattle.std.proofs.Common.{◌≡◌}
use Rattle.conversation.proofs.Standing.{rank_of, Stands}
use Rattle.conversation.proofs.converse.Given as goal

abbrev pub invariant-loop-pending : goal.invariant-loop-pending
invariant-loop-pending l =
    Stands l.text l.fn.bus l.fn.array l.fn.security l.fn.said l.entry l.pending l.reader.at l.bus l.array l.security l.said × (l.reader.text.now ≡ l.text)

abbrev pub decreases-loop-pending : goal.decreases-loop-pending
decreases-loop-pending l = rank_of l.fn.said l.pending
