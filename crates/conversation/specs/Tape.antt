-- A tape: a buffer of text of which the first bytes are filled.
use Rattle.std.specs.Prelude.{ℕ, List, ◌++◌, ◌≡◌, length, take, drop}
use Rattle.std.specs.Borrow.{Bor}

-- the text on a tape
abbrev pub text_on : List ℕ → ℕ → List ℕ
text_on tape filled = take filled tape

-- the same as a part of the tape, and not a copy
pub record ShowsText (tape : Bor (List ℕ)) (filled : ℕ) (text : Bor (List ℕ)) : Type 0 where
  pub same_place : text.ref_ptr ≡ tape.ref_ptr
  pub shows : text.now ≡ text_on tape.now filled

-- what is left of the text after the part that was used
abbrev pub rest_of : List ℕ → ℕ → ℕ → List ℕ
rest_of tape filled used = drop used (text_on tape filled)

-- the rest stands at the start of a tape
abbrev pub at_start : List ℕ → List ℕ → List ℕ
at_start rest tape = rest ++ drop (length rest) tape

-- what is kept of a tape: how much that is, and the tape
abbrev pub keep_rest : List ℕ → ℕ → ℕ → ℕ × List ℕ
keep_rest tape filled used = (length (rest_of tape filled used), at_start (rest_of tape filled used) tape)
