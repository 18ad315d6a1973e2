-- The reader carries the transcript it was lent and its place in it (paper, "The transcript").
use Rattle.std.specs.Prelude.{ℕ, List, ◌≡◌}
use Rattle.std.specs.Borrow.{Bor}
use Rattle.transcript.specs.Frame.{frame_at, meaning}
use Rattle.transcript.specs.declared.frame.Frame.{Frame}
use Rattle.reader.specs.declared.Reader.{Reader}

abbrev pub from_start : Bor (List ℕ) → Reader
from_start text = record { text = text; at = 0 }

-- the line at the reader's place
abbrev pub frame_for : Reader → Frame
frame_for reader = frame_at reader.text.now reader.at

-- the same transcript, at the place after that line
abbrev pub moved_on : Reader → Reader
moved_on reader = record { text = reader.text; at = (meaning (frame_for reader) reader.at).place }

-- what the reader answers, and what it is afterwards
pub record Answered (reader : Reader) (frame : Frame) (after : Reader) : Type 0 where
  pub answer : frame ≡ frame_for reader
  pub moved : after ≡ moved_on reader
