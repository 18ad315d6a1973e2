-- Saving: 10, 5, 7, then 19 where the text buffer is too short; bytes past the text stay (request E1).
use Rattle.std.specs.Prelude.{ℕ, ◌+◌, ◌/◌, Bool, List, [], ◌∷◌, ◌++◌, ltb, length, Result}
use Rattle.base.specs.Store.{patched}
use Rattle.refusal.specs.declared.Refusal.{Refusal}
use Rattle.refusal.specs.declared.Refusal.TheVariants.{ShortText}
use Rattle.refusal.specs.Verdict.{Verdict}
use Rattle.std.specs.Prelude.{Ok, Err}
use Rattle.refusal.specs.Checks.{first_of}
use Rattle.board.specs.declared.Place.{Place}
use Rattle.board.specs.Shares.{figures_at}
use Rattle.lineup.specs.Chips.{places_of}
use Rattle.line.specs.Line.{array_share}
use Rattle.bus.specs.declared.Bus.{Bus}
use Rattle.bus.specs.Step.{chip_checks}
use Rattle.image.specs.Rows.{row_bytes, row_text, rows_text, saved_text, saved_size}

-- what a save answers: how many bytes the text has, or why none is written
abbrev pub Saved : Type 0
Saved = Result ℕ Refusal

-- its verdict
abbrev pub save_verdict : Saved → Verdict
save_verdict (Ok written) = Ok tt
save_verdict (Err refusal) = Err refusal

abbrev pub short_text : List Place → ℕ → List ℕ → Bool
short_text places k buffer = ltb (length buffer) (saved_size (figures_at places k).array)

abbrev pub save_checks : Bus → List ℕ → List ℕ → ℕ → List ℕ → List (Bool × Refusal)
save_checks bus array security k buffer =
    chip_checks bus array security k ++ ((short_text (places_of bus.chips) k buffer, ShortText) ∷ [])

-- a row, and all rows, in their places of a buffer, with the place after them
abbrev pub put_row : List ℕ → ℕ → List ℕ → ℕ → ℕ × List ℕ
put_row share row buffer at = (at + length (row_text share row), patched at (row_text share row) buffer)

abbrev pub put_rows : List ℕ → List ℕ → ℕ × List ℕ
put_rows share buffer =
    let text = rows_text share (length share / row_bytes) in
    (length text, patched 0 text buffer)

-- the text stands at the buffer's start
abbrev pub put_text : List ℕ → List ℕ → ℕ × List ℕ
put_text share buffer = (length (saved_text share), patched 0 (saved_text share) buffer)

abbrev pub save_share : List ℕ → List ℕ → Saved × List ℕ
save_share share buffer = (Ok (length (saved_text share)), patched 0 (saved_text share) buffer)

abbrev pub save_by : Verdict → List Place → List ℕ → ℕ → List ℕ → Saved × List ℕ
save_by (Ok tt) places array k buffer = save_share (array_share places k array) buffer
save_by (Err refusal) places array k buffer = (Err refusal, buffer)

-- what is answered, and the text buffer afterwards
unfoldable pub save : Bus → List ℕ → List ℕ → ℕ → List ℕ → Saved × List ℕ
save bus array security k buffer = save_by (first_of (save_checks bus array security k buffer)) (places_of bus.chips) array k buffer
