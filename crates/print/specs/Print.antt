-- Kind, value, status, reply as eight digits and LF (paper, "The transcript").
use Rattle.std.specs.Prelude.{ℕ, ◌+◌, ◌/◌, ◌%◌, cond, List, [], ◌∷◌, ◌++◌, ltb}
use Rattle.base.specs.Word.{word_of, high_of, low_of}
use Rattle.transcript.specs.Frame.{lf}

-- the digit for a value below 16: '0' to '9', 'A' to 'F'
abbrev pub digit_text : ℕ → ℕ
digit_text value = cond (ltb value 10) (48 + value) (55 + value)

abbrev pub byte_text : ℕ → List ℕ
byte_text byte = digit_text (byte / 16) ∷ digit_text (byte % 16) ∷ []

abbrev pub word_text : ℕ → List ℕ
word_text word = byte_text (high_of word) ++ byte_text (low_of word)

-- the bytes of an event and its answer
abbrev pub printed_bytes : ℕ
printed_bytes = 9

abbrev pub printed : ℕ → ℕ → List ℕ
printed event answer = word_text event ++ (word_text answer ++ (lf ∷ []))

-- what stands for kind and value where no event was read
abbrev pub no_event : ℕ
no_event = 65535

-- the line that ends a run, FFFF0900 after a malformed line
abbrev pub closing : ℕ → List ℕ
closing number = printed no_event (word_of number 0)
