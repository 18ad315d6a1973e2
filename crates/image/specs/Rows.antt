-- An array as text: 16 data bytes a record, a record of type 04 wherever the upper 16 address bits change, 0 at the start (request E1).
use Rattle.std.specs.Prelude.{ℕ, ◌+◌, ◌*◌, ◌-◌, ◌/◌, ◌%◌, Bool, cond, not, List, [], ◌∷◌, ◌++◌, eqb, length}
use Rattle.base.specs.Fold.{up_to}
use Rattle.base.specs.Store.{span}
use Rattle.base.specs.Word.{high_of, low_of}
use Rattle.hexline.specs.Fields.{data_kind, end_kind, upper_kind}
use Rattle.hexline.specs.Writing.{record_text}

abbrev pub row_bytes : ℕ
row_bytes = 16

-- where a row starts, and its upper address bits
abbrev pub row_start : ℕ → ℕ
row_start row = row * row_bytes

abbrev pub upper_of : ℕ → ℕ
upper_of row = row_start row / 65536

-- the upper address bits are not those of the row before; the first row has none before it, and 0
abbrev pub upper_changes : ℕ → Bool
upper_changes row = not (eqb (upper_of row) (upper_of (row - 1)))

abbrev pub upper_text : ℕ → List ℕ
upper_text upper = record_text upper_kind 0 (high_of upper ∷ low_of upper ∷ [])

abbrev pub bare_row : List ℕ → ℕ → List ℕ
bare_row share row = record_text data_kind (row_start row % 65536) (span (row_start row) row_bytes share)

unfoldable pub row_text : List ℕ → ℕ → List ℕ
row_text share row = cond (upper_changes row) (upper_text (upper_of row)) [] ++ bare_row share row

abbrev pub rows_text : List ℕ → ℕ → List ℕ
rows_text share rows = up_to (λ (row : ℕ) (text : List ℕ). text ++ row_text share row) rows []

abbrev pub end_text : List ℕ
end_text = record_text end_kind 0 []

unfoldable pub saved_text : List ℕ → List ℕ
saved_text share = rows_text share (length share / row_bytes) ++ end_text

-- how long that is for an array of this size: 44 bytes a row, 16 for a record of type 04, 12 for the end
abbrev pub saved_size : ℕ → ℕ
saved_size size = size / row_bytes * 44 + (size - 1) / 65536 * 16 + 12
