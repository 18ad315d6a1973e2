-- A row's text has 44 bytes, and 16 more where the upper address bits change, which they do by one: so the text of the rows so far has a
-- length that is known, and a buffer that takes the whole text takes it.
use Prim.Native.Nat.{ℕ, zero, suc, ◌+◌, ◌*◌, ◌-◌, ◌/◌, ◌%◌, ◌<◌, ◌≤◌}
use native.Mathlib.Numerals.{add-one}
use native.Mathlib.Omega.{arith}
use mathlib.Core.Bool.{Bool, true, false}
use mathlib.Core.List.{List, [], ◌∷◌, ◌++◌}
use mathlib.Core.Path.{◌≡◌, ◌∙◌, refl, sym, ap}
use lib.ListN.{length, length-append}
use borrow.Author.Tests.{le-leb, ltb-false, eqb-true, eqb-false, not-false, not-true}
use Rattle.base.specs.Fold.{up_to}
use Rattle.base.specs.Store.{span, patched}
use Rattle.base.specs.Word.{high_of, low_of}
use Rattle.base.proofs.Store.{span_length, patched_none, patched_length, patched_next}
use Rattle.refusal.specs.declared.Refusal.{Refusal}
use Rattle.refusal.specs.declared.Refusal.TheVariants.{ShortText}
use Rattle.std.specs.Prelude.{Ok}
use Rattle.refusal.specs.Refusal.{status_of}
use Rattle.refusal.specs.Checks.{first_of}
use Rattle.refusal.proofs.Checks.{passed_exactly_when, passed_first, passed_before}
use Rattle.board.specs.Shares.{figures_at}
use Rattle.lineup.specs.Chips.{places_of}
use Rattle.line.specs.Line.{array_share}
use Rattle.bus.specs.declared.Bus.{Bus}
use Rattle.bus.specs.Step.{chip_checks}
use Rattle.bus.proofs.Entry.{Named, named}
use Rattle.hexline.specs.Fields.{data_kind, end_kind, upper_kind}
use Rattle.hexline.specs.Writing.{record_text, record_size, put_record}
use Rattle.hexline.proofs.Back.{record_length}
use Rattle.image.specs.Rows.{row_start, upper_of, upper_changes, upper_text, bare_row, row_text, rows_text, end_text, saved_text, saved_size}
use Rattle.image.specs.Save.{short_text, save_checks, put_row, put_rows, put_text, save_share, save}

-- a record that has room is written
pub put_fits : (kind address : ℕ) (content text : List ℕ) (at : ℕ) → length content ≤ 255 → at + record_size (length content) ≤ length text
    → put_record kind address content text at ≡ patched at (record_text kind address content) text
unfolding put_record
put_fits kind address content text at few room = rw (le-leb _ _ few, le-leb _ _ room)

upper_length : (upper : ℕ) → length (upper_text upper) ≡ 16
upper_length upper = record_length upper_kind 0 (high_of upper ∷ low_of upper ∷ [])

abbrev first_of_lem : ℕ × List ℕ → ℕ
first_of_lem p = p.0

abbrev second_of : ℕ × List ℕ → List ℕ
second_of p = p.1

both : {n m : ℕ} {xs ys : List ℕ} → n ≡ m → xs ≡ ys → ◌≡◌ {A = ℕ × List ℕ} (n, xs) (m, ys)
both {n} {m} {xs} is-n is_xs = ap (λ (k : ℕ). (k, xs)) is-n ∙ ap (λ (zs : List ℕ). (m, zs)) is_xs

-- so many rows in a buffer, with the place after them
abbrev pub rows_put : List ℕ → ℕ → List ℕ → ℕ × List ℕ
rows_put share rows buffer = (length (rows_text share rows), patched 0 (rows_text share rows) buffer)

module _ (share : List ℕ) where
  -- a row's text, with a record of type 04 and without; and the text of one row more
  pub row_new : (i : ℕ) → upper_changes i ≡ true → row_text share i ≡ upper_text (upper_of i) ++ bare_row share i
  unfolding row_text
  row_new i new = rw new

  pub row_same : (i : ℕ) → upper_changes i ≡ false → row_text share i ≡ bare_row share i
  unfolding row_text
  row_same i same = rw same

  rows_none : rows_text share 0 ≡ []
  unfolding up_to
  rows_none = refl

  pub rows_next : (i : ℕ) → rows_text share (i + 1) ≡ rows_text share i ++ row_text share i
  unfolding up_to
  rows_next i = rw add-one

  pub saved_is : saved_text share ≡ rows_text share (length share / 16) ++ end_text
  unfolding saved_text
  saved_is = refl

  -- how long each is
  bare_length : (i : ℕ) → i * 16 + 16 ≤ length share → length (bare_row share i) ≡ 44
  bare_length i fits =
      omega (arith, record_length data_kind (row_start i % 65536) (span (row_start i) 16 share), span_length (row_start i) 16 share fits)

  pub row_new_length : (i : ℕ) → i * 16 + 16 ≤ length share → upper_changes i ≡ true → length (row_text share i) ≡ 60
  row_new_length i fits new =
      omega (
        arith,
        ap length (row_new i new),
        length-append (upper_text (upper_of i)) (bare_row share i),
        upper_length (upper_of i),
        bare_length i fits,
      )

  pub row_same_length : (i : ℕ) → i * 16 + 16 ≤ length share → upper_changes i ≡ false → length (row_text share i) ≡ 44
  row_same_length i fits same = ap length (row_same i same) ∙ bare_length i fits

  row_length : (i : ℕ) → i * 16 + 16 ≤ length share → length (row_text share i) + upper_of (i - 1) * 16 ≡ 44 + upper_of i * 16
  row_length i fits = go (upper_changes i) refl
    where
      go : (changes : Bool) → upper_changes i ≡ changes → length (row_text share i) + upper_of (i - 1) * 16 ≡ 44 + upper_of i * 16
      go true new =
          let differ : upper_of i ≡ upper_of (i - 1) → ⊥ = eqb-false _ _ (not-true _ new) in
          let next : upper_of i ≡ upper_of (i - 1) + 1 = omega (arith, differ) in
          omega (arith, row_new_length i fits new)
      go false same =
          let equal : upper_of i ≡ upper_of (i - 1) = eqb-true _ _ (not-false _ same) in
          omega (arith, row_same_length i fits same)

  pub rows_length : (rows : ℕ) → rows * 16 ≤ length share → length (rows_text share rows) ≡ rows * 44 + upper_of (rows - 1) * 16
  unfolding up_to
  rows_length zero fits = refl
  rows_length (suc i) fits =
      omega (arith, rows_length i (omega arith), row_length i (omega arith), length-append (rows_text share i) (row_text share i))

  -- the rows so far, and the end record, have room where the whole text has
  pub rows_fit : (rows : ℕ) → rows ≤ length share / 16 → length (rows_text share rows) + 12 ≤ saved_size (length share)
  rows_fit rows most = omega (arith, rows_length rows (omega arith))

  -- what is written of a row is its text: two records, or one
  module _ (i at : ℕ) (text : List ℕ) (inside : i * 16 + 16 ≤ length share) (room : at + length (row_text share i) ≤ length text) where
    pub new_written : {first second : List ℕ} → upper_changes i ≡ true
        → first ≡ patched at (upper_text (upper_of i)) text
        → second ≡ patched (at + 16) (bare_row share i) first
        → (at + 16 + 44, second) ≡ put_row share i text at
    new_written new is_first is_second =
        let upper = upper_length (upper_of i) in
        let fits : at + length (upper_text (upper_of i)) + length (bare_row share i) ≤ length text = omega (arith, row_new_length i inside new, bare_length i inside) in
        both (omega (arith, row_new_length i inside new))
        (patched_next at (at + 16) (upper_text (upper_of i)) (bare_row share i) text fits is_first is_second (omega arith)
        ∙ ap (λ (row : List ℕ). patched at row text) (sym (row_new i new)))

    pub same_written : {first : List ℕ} → upper_changes i ≡ false → first ≡ patched at (bare_row share i) text → (at + 44, first) ≡ put_row share i text at
    same_written same is =
        both (omega (arith, row_same_length i inside same)) (is ∙ ap (λ (row : List ℕ). patched at row text) (sym (row_same i same)))

  -- no row is written yet; one row more behind those that were; and the end record behind them all
  pub rows_start : (buffer : List ℕ) → (0, buffer) ≡ rows_put share 0 buffer
  rows_start buffer = rw rows_none (both refl (sym (patched_none 0 buffer)))

  module _ (buffer : List ℕ) (room : saved_size (length share) ≤ length buffer) where
    pub row_room : (rows : ℕ) → rows < length share / 16 → length (rows_text share rows) + length (row_text share rows) + 12 ≤ length buffer
    row_room rows more =
        omega (arith, rows_fit (rows + 1) (omega arith), ap length (rows_next rows), length-append (rows_text share rows) (row_text share rows))

    pub row_more : (rows : ℕ) {at next : ℕ} {text after : List ℕ} → rows < length share / 16
        → (at, text) ≡ rows_put share rows buffer
        → (next, after) ≡ put_row share rows text at
        → (next, after) ≡ rows_put share (rows + 1) buffer
    row_more rows {at} {next} {text} {after} more so_far is =
        let place : at ≡ length (rows_text share rows) = ap first_of_lem so_far in
        let long : next ≡ length (rows_text share rows ++ row_text share rows) =
        omega (arith, ap first_of_lem is, length-append (rows_text share rows) (row_text share rows))
        in
        let written : after ≡ patched 0 (rows_text share rows ++ row_text share rows) buffer =
        patched_next 0 at (rows_text share rows) (row_text share rows) buffer (omega (arith, row_room rows more)) (ap second_of so_far) (ap second_of is) (omega arith)
        in
        rw (rows_next rows) (both long written)

    pub end_more : {at : ℕ} {text after : List ℕ} → (at, text) ≡ put_rows share buffer → after ≡ put_record end_kind 0 [] text at
        → (at + 12, after) ≡ put_text share buffer
    end_more {at} {text} {after} so_far is =
        let rows = rows_text share (length share / 16) in
        let place : at ≡ length rows = ap first_of_lem so_far in
        let fits = rows_fit (length share / 16) (omega arith) in
        let end : length end_text ≡ 12 = record_length end_kind 0 [] in
        let kept : length text ≡ length buffer = ap (λ (p : ℕ × List ℕ). length p.1) so_far ∙ patched_length 0 rows buffer (omega arith) in
        let put : after ≡ patched at end_text text = is ∙ put_fits end_kind 0 [] text at (omega arith) (omega arith) in
        let long : at + 12 ≡ length (rows ++ end_text) = omega (arith, length-append rows end_text) in
        let written : after ≡ patched 0 (rows ++ end_text) buffer = patched_next 0 at rows end_text buffer (omega arith) (ap second_of so_far) put (omega arith) in
        rw saved_is (both long written)

  -- the whole text is as long as saving says
  pub saved_length : length share / 16 * 16 ≡ length share → length (saved_text share) ≡ saved_size (length share)
  saved_length whole =
      omega (
        arith,
        whole,
        ap length saved_is,
        length-append (rows_text share (length share / 16)) end_text,
        rows_length (length share / 16) (omega arith),
        record_length end_kind 0 [],
      )

-- a chip that passes the checks of saving has its share in the array store, and the buffer takes the text of that
module _ (bus : Bus) (array security : List ℕ) (k : ℕ) where
  module _ (buffer : List ℕ) (passes : first_of (save_checks bus array security k buffer) ≡ Ok tt) where
    abbrev last : List (Bool × Refusal)
    last = (short_text (places_of bus.chips) k buffer, ShortText) ∷ []

    chip_passes : first_of (chip_checks bus array security k) ≡ Ok tt
    chip_passes = passed_before (chip_checks bus array security k) last passes

    pub save_named : Named bus array security k
    save_named = named bus array security k chip_passes

    pub save_room : saved_size (figures_at (places_of bus.chips) k).array ≤ length buffer
    save_room =
        ltb-false _ _ ((passed_exactly_when last).0 (ap status_of (sym (passed_first (chip_checks bus array security k) last chip_passes) ∙ passes))).0

    pub saved_share : save bus array security k buffer ≡ save_share (array_share (places_of bus.chips) k array) buffer
    unfolding save
    saved_share = rw passes
