-- Frames of hexadecimal, one frame a line: kind then value, four digits 0-9 A-F, then LF (paper, "The transcript").
use Rattle.std.specs.Prelude.{ℕ, ◌+◌, ◌*◌, Bool, cond, ◌&&◌, List, [], ◌∷◌, leb, eqb, length, get_or}
use Rattle.base.specs.Word.{word_of}
use Rattle.transcript.specs.Digit.{digit_of, is_digit}
use Rattle.transcript.specs.declared.frame.Frame.{Frame}
use Rattle.transcript.specs.declared.frame.Frame.TheVariants.{Event, Malformed, End}

abbrev pub lf : ℕ
lf = 10

-- the bytes of a line
abbrev pub frame_bytes : ℕ
frame_bytes = 5

-- the paper's number for a malformed line
abbrev pub malformed : ℕ
malformed = 9

-- a frame is four digits, then LF
abbrev pub is_frame : ℕ → ℕ → ℕ → ℕ → ℕ → Bool
is_frame a b c d last = is_digit a && is_digit b && is_digit c && is_digit d && eqb last lf

-- the byte that two digits stand for
abbrev pub byte_of : ℕ → ℕ → ℕ
byte_of a b = digit_of a * 16 + digit_of b

-- kind then value
abbrev pub event_word : ℕ → ℕ → ℕ → ℕ → ℕ
event_word a b c d = word_of (byte_of a b) (byte_of c d)

-- a line stands at a place: five bytes are left there, and they are a frame
abbrev pub is_frame_at : List ℕ → ℕ → Bool
is_frame_at text at =
    leb (at + frame_bytes) (length text)
    && is_frame (get_or text at 0) (get_or text (at + 1) 0) (get_or text (at + 2) 0) (get_or text (at + 3) 0) (get_or text (at + 4) 0)

abbrev pub event_at : List ℕ → ℕ → ℕ
event_at text at = event_word (get_or text at 0) (get_or text (at + 1) 0) (get_or text (at + 2) 0) (get_or text (at + 3) 0)

-- at or past the end is the end; a line is its event and the place after it; anything else is malformed
abbrev pub frame_at : List ℕ → ℕ → Frame
frame_at text at = cond (leb (length text) at) End (cond (is_frame_at text at) (Event (event_at text at) (at + frame_bytes)) Malformed)

-- the paper's number and values for an answer that was given at a place: the status, what was read, the place afterwards
pub record Meaning : Type 0 where
  pub status : ℕ
  pub events : List ℕ
  pub place : ℕ

abbrev pub meaning : Frame → ℕ → Meaning
meaning (Event event next) at = record { status = 0; events = event ∷ []; place = next }
meaning Malformed at = record { status = malformed; events = []; place = at }
meaning End at = record { status = 0; events = []; place = at }
