-- The paper's number for each refusal, and its words for what set-up, step and run answer (paper, "Events and replies"; 19 to 24: request
-- E1; 12: request E2). Number 9, a malformed line, is the transcript's.
use Rattle.std.specs.Prelude.{ℕ, Ok, Err}
use Rattle.base.specs.Word.{word_of}
use Rattle.refusal.specs.declared.Refusal.{Refusal}
use Rattle.refusal.specs.declared.Refusal.TheVariants.{WrongCount, UnknownPart, StrapOutside, SharedAddress, WrongLength, UnknownKind, WrongValue, Clash, NotWellFormed, ShortBuffer, ShortText, BadRecord, WrongSum, UnknownType, PastArray, NoEnd, NotBusy}
use Rattle.refusal.specs.Verdict.{Verdict, Answer}

abbrev pub number_of : Refusal → ℕ
number_of WrongCount = 1
number_of UnknownPart = 2
number_of StrapOutside = 3
number_of SharedAddress = 4
number_of WrongLength = 5
number_of UnknownKind = 6
number_of WrongValue = 7
number_of Clash = 8
number_of NotWellFormed = 10
number_of ShortBuffer = 11
number_of ShortText = 19
number_of BadRecord = 20
number_of WrongSum = 21
number_of UnknownType = 22
number_of PastArray = 23
number_of NoEnd = 24
number_of NotBusy = 12

-- what checks say, as a status: 00 is done
abbrev pub status_of : Verdict → ℕ
status_of (Ok done) = 0
status_of (Err refusal) = number_of refusal

-- and of an answer
abbrev pub status_in : Answer → ℕ
status_in (Ok reply) = 0
status_in (Err refusal) = number_of refusal

-- an answer is status times 256 plus reply; a refused event has reply 00
abbrev pub answer_word : Answer → ℕ
answer_word (Ok reply) = word_of 0 reply
answer_word (Err refusal) = word_of (number_of refusal) 0
