-- A file is read record by record, from upper address bits 0, up to the first record that is refused or the end record (request E1).
use Rattle.std.specs.Prelude.{ℕ, ◌+◌, Bool, true, false, cond, ◌&&◌, List, eqb, ltb, length, drop}
use Rattle.base.specs.Fold.{up_to}
use Rattle.refusal.specs.declared.Refusal.{Refusal}
use Rattle.refusal.specs.declared.Refusal.TheVariants.{NoEnd}
use Rattle.refusal.specs.Verdict.{Verdict}
use Rattle.std.specs.Prelude.{Ok, Err}
use Rattle.refusal.specs.Checks.{first_of}
use Rattle.hexline.specs.Fields.{end_kind, upper_kind, kind_in, upper_in, line_size}
use Rattle.hexline.specs.Checks.{record_checks}
use Rattle.image.specs.declared.loading.Progress.{Progress}
use Rattle.image.specs.declared.loading.Progress.TheVariants.{Open, Ended, Refused}
use Rattle.image.specs.declared.loading.Reading.{Reading}

-- none was the end, and none was refused
abbrev pub is_open : Progress → Bool
is_open Open = true
is_open Ended = false
is_open (Refused refusal) = false

-- the last was the end
abbrev pub has_ended : Progress → Bool
has_ended Open = false
has_ended Ended = true
has_ended (Refused refusal) = false

-- what is said of the records so far
abbrev pub said_by : Progress → Verdict
said_by Open = Ok tt
said_by Ended = Ok tt
said_by (Refused refusal) = Err refusal

-- nothing is read yet
abbrev pub begun : Reading
begun = record { at = 0; upper = 0; lines = 0; progress = Open }

-- there is a record to be read: none was refused, none was the end, and text is left
abbrev pub reads_on : List ℕ → Reading → Bool
reads_on text reading = is_open reading.progress && ltb reading.at (length text)

-- the text from the record on that is to be read
abbrev pub rest_at : List ℕ → Reading → List ℕ
rest_at text reading = drop reading.at text

-- upper address bits stand until a record of type 04 gives others
abbrev pub upper_after : List ℕ → ℕ → ℕ
upper_after rest upper = cond (eqb (kind_in rest) upper_kind) (upper_in rest) upper

-- past a record
abbrev pub past : List ℕ → Reading → Reading
past rest reading =
    record {
      at = reading.at + line_size rest;
      upper = upper_after rest reading.upper;
      lines = reading.lines + 1;
      progress = cond (eqb (kind_in rest) end_kind) Ended Open;
    }

-- or stopped at it
abbrev pub stopped : Refusal → Reading → Reading
stopped refusal reading =
    record { at = reading.at; upper = reading.upper; lines = reading.lines; progress = Refused refusal }

abbrev pub read_by : Verdict → List ℕ → Reading → Reading
read_by (Ok tt) rest reading = past rest reading
read_by (Err refusal) rest reading = stopped refusal reading

-- what the checks say of the record that is to be read, in an array of this size
abbrev pub verdict_at : ℕ → List ℕ → Reading → Verdict
verdict_at size text reading = first_of (record_checks size reading.upper (rest_at text reading))

unfoldable pub next_reading : ℕ → List ℕ → Reading → Reading
next_reading size text reading = read_by (verdict_at size text reading) (rest_at text reading) reading

-- one record more, where there is one to be read
unfoldable pub read_on : ℕ → List ℕ → Reading → Reading
read_on size text reading = cond (reads_on text reading) (next_reading size text reading) reading

-- n records on
abbrev pub reading_after : ℕ → List ℕ → ℕ → Reading
reading_after size text n = up_to (λ (i : ℕ). read_on size text) n begun

-- to the end: a text has fewer records than bytes
abbrev pub scanned : ℕ → List ℕ → Reading
scanned size text = reading_after size text (length text)

-- 24 comes last: no end record, or text after it
abbrev pub end_verdict : List ℕ → Reading → Verdict
end_verdict text reading = cond (has_ended reading.progress && eqb reading.at (length text)) (Ok tt) (Err NoEnd)

abbrev pub verdict_by : Verdict → List ℕ → Reading → Verdict
verdict_by (Ok tt) text reading = end_verdict text reading
verdict_by (Err refusal) text reading = Err refusal

abbrev pub verdict_of : List ℕ → Reading → Verdict
verdict_of text reading = verdict_by (said_by reading.progress) text reading

-- what is said of a whole text
abbrev pub text_verdict : ℕ → List ℕ → Verdict
text_verdict size text = verdict_of text (scanned size text)
