-- What is saved loads back: the text of an array, read into any array of the same size, gives the first array. Record by record: the
-- text so far is read, the upper address bits are those of the last row, and the share begins with the rows so far.
use Prim.Native.Nat.{ℕ, zero, suc, ◌+◌, ◌*◌, ◌-◌, ◌/◌, ◌%◌, ◌<◌, ◌≤◌, ◌^◌}
use native.Mathlib.Decide.{dec_lt}
use native.Mathlib.Nat.{zero-add}
use native.Mathlib.Numerals.{add-one}
use native.Mathlib.Omega.{arith}
use mathlib.Core.Bool.{Bool, true, false, cond, and_comm}
use mathlib.Core.List.{List, [], ◌∷◌, ◌++◌, append_assoc, append-nil}
use mathlib.Core.Path.{◌≡◌, ◌∙◌, refl, sym, ap, subst}
use lib.Dec.{eqb, ltb}
use lib.ListN.{length, take, length-append, drop_of_length-le}
use lib.Seq.{drop-append_seam, length-take-le, take-add, take_all}
use borrow.Author.Tests.{lt-ltb, le-ltb, eqb-true, eq-eqb, not-false}
use Rattle.base.specs.Fold.{up_to}
use Rattle.base.specs.Every.{FitsByte, AllBytes}
use Rattle.base.specs.Store.{span, patched}
use Rattle.base.specs.Word.{high_of, low_of}
use Rattle.base.proofs.Store.{span_length, patched_length, patched_on}
use Rattle.base.proofs.Every.{every_span}
use Rattle.std.specs.Prelude.{Ok}
use Rattle.hexline.specs.Fields.{data_kind, end_kind, upper_kind, upper_in, first_address, put_data}
use Rattle.hexline.specs.Checks.{bad_length, unknown_type, past_array}
use Rattle.hexline.specs.Writing.{record_text, record_size}
use Rattle.hexline.proofs.fields.Laws.{put_data_patched}
use Rattle.hexline.proofs.Back.{ReadsBack, record_length, reads_back}
use Rattle.image.specs.declared.loading.Progress.TheVariants.{Open, Ended}
use Rattle.image.specs.declared.loading.Reading.{Reading}
use Rattle.image.specs.Reading.{reads_on, rest_at, verdict_at, next_reading, scanned}
use Rattle.image.specs.Storing.{Storing, next_storing, store_on, storing_after, stored}
use Rattle.image.specs.Load.{loaded, load_share}
use Rattle.image.specs.Rows.{row_start, upper_of, upper_changes, upper_text, bare_row, row_text, rows_text, end_text, saved_text}
use Rattle.image.proofs.loading.Laws.{reads_alike, stored_is, scanned_is}
use Rattle.image.proofs.saving.Laws.{row_new, row_same, rows_next, saved_is}

-- a reading that goes on, at a place
abbrev reading : ℕ → ℕ → ℕ → Reading
reading at upper lines = record { at = at; upper = upper; lines = lines; progress = Open }

-- the text behind a row
pub behind_row : (share : List ℕ) (n i : ℕ) (after : List ℕ) → i < n → (tail : List ℕ) × (rows_text share n ++ after ≡ rows_text share i ++ (row_text share i ++ tail))
unfolding up_to
behind_row share zero i after below = absurd (omega arith)
behind_row share (suc n) i after below = go (dec_lt i n) (behind_row share n i (row_text share n ++ after))
  where
    go : Dec (i < n) → (i < n → (tail : List ℕ) × (rows_text share n ++ (row_text share n ++ after) ≡ rows_text share i ++ (row_text share i ++ tail)))
        → (tail : List ℕ) × ((rows_text share n ++ row_text share n) ++ after ≡ rows_text share i ++ (row_text share i ++ tail))
    go (yes p) earlier = let (tail, is) = earlier p in (tail, append_assoc (rows_text share n) (row_text share n) after ∙ is)
    go (no p) earlier =
        let last : n ≡ i = omega arith in
        subst (λ (j : ℕ). (tail : List ℕ) × ((rows_text share n ++ row_text share n) ++ after ≡ rows_text share j ++ (row_text share j ++ tail))) last (after, append_assoc (rows_text share n) (row_text share n) after)

-- behind a record that passes: it is read, and stored if it is one of data
abbrev behind : (before content after : List ℕ) (kind address upper lines : ℕ) (share : List ℕ) → Storing
behind before content after kind address upper lines share =
    let rest = record_text kind address content ++ after in (
      record {
        at = length before + record_size (length content);
        upper = cond (eqb kind upper_kind) (upper_in rest) upper;
        lines = lines + 1;
        progress = cond (eqb kind end_kind) Ended Open;
      },
      cond (eqb kind data_kind) (put_data upper rest share) share,
    )

-- a record of a text
module _ (size : ℕ) (before content after : List ℕ) (kind address upper lines : ℕ) (back : ReadsBack kind address content (record_text kind address content ++ after)) where
  abbrev rest : List ℕ
  rest = record_text kind address content ++ after

  abbrev here : Reading
  here = reading (length before) upper lines

  rest_is : rest_at (before ++ rest) here ≡ rest
  rest_is = drop-append_seam before rest

  reads_here : reads_on (before ++ rest) here ≡ true
  reads_here =
      let inside : length before < length (before ++ rest) = omega (arith, length-append before rest, length-append (record_text kind address content) after, record_length kind address content) in
      lt-ltb _ _ inside

  -- it passes where its type is one that is read, with the length that this type has, and it names no address past the array
  passes_here : bad_length rest ≡ false → unknown_type rest ≡ false → past_array size upper rest ≡ false → verdict_at size (before ++ rest) here ≡ Ok tt
  passes_here long known inside = rw (rest_is, back.framed, long, eq-eqb _ _ back.sums, known, inside)

  step_here : verdict_at size (before ++ rest) here ≡ Ok tt → (share : List ℕ)
      → next_storing size (before ++ rest) (here, share) ≡ behind before content after kind address upper lines share
  unfolding next_storing next_reading
  step_here passes share = rw (passes, rest_is, back.kinds, back.sizes)

-- what the walk over a text comes to
abbrev Reached : List ℕ → List ℕ → Storing → Type 0
Reached text share storing = (n : ℕ) × (storing_after text share n ≡ storing)

reached_more : (text share : List ℕ) {storing : Storing} → reads_on text storing.0 ≡ true → Reached text share storing → Reached text share (next_storing (length share) text storing)
unfolding up_to store_on
reached_more text share goes (n, is) = (suc n, rw (is, goes))

-- one record more, wherever it stands in a text
module _ (text share before content after : List ℕ) (kind address upper lines : ℕ) (is : text ≡ before ++ (record_text kind address content ++ after)) (back : ReadsBack kind address content (record_text kind address content ++ after)) where
  one_more : bad_length (record_text kind address content ++ after) ≡ false → unknown_type (record_text kind address content ++ after) ≡ false
      → past_array (length share) upper (record_text kind address content ++ after) ≡ false → (so_far : List ℕ)
      → Reached text share (reading (length before) upper lines, so_far)
      → Reached text share (behind before content after kind address upper lines so_far)
  one_more long known inside so_far =
      subst (λ (t : List ℕ). Reached t share (reading (length before) upper lines, so_far) → Reached t share (behind before content after kind address upper lines so_far)) (sym is)
      (λ reached.
      let size = length share in
      let (n, more) = reached_more (before ++ (record_text kind address content ++ after)) share (reads_here size before content after kind address upper lines back) reached in
      (n, more ∙ step_here size before content after kind address upper lines back (passes_here size before content after kind address upper lines back long known inside) so_far))

-- the three types that are written
upper_more : (text share before after : List ℕ) (upper lines new : ℕ) → text ≡ before ++ (upper_text new ++ after) → new < 65536 → (so_far : List ℕ)
    → Reached text share (reading (length before) upper lines, so_far)
    → Reached text share (reading (length before + 16) new (lines + 1), so_far)
upper_more text share before after upper lines new is fits so_far reached =
    let high : high_of new < 256 = omega arith in
    let low : low_of new < 256 = omega arith in
    let back = reads_back upper_kind 0 (high_of new ∷ low_of new ∷ []) after (omega arith) (omega arith) (omega arith) (high, (low, tt)) in
    let rest = upper_text new ++ after in
    let given : upper_in rest ≡ new = omega (arith, back.contents 0 (omega arith), back.contents 1 (omega arith)) in
    rw given at
    (one_more text share before (high_of new ∷ low_of new ∷ []) after upper_kind 0 upper lines is back (rw (back.kinds, back.counts)) (rw back.kinds) (rw back.kinds) so_far reached)

end_more : (text share before : List ℕ) (upper lines : ℕ) → text ≡ before ++ end_text → (so_far : List ℕ)
    → Reached text share (reading (length before) upper lines, so_far)
    → Reached text share (record { at = length before + 12; upper = upper; lines = lines + 1; progress = Ended }, so_far)
end_more text share before upper lines is so_far reached =
    let back = reads_back end_kind 0 [] [] (omega arith) (omega arith) (omega arith) tt in
    one_more text share before [] [] end_kind 0 upper lines (is ∙ ap (λ (end : List ℕ). before ++ end) (sym (append-nil end_text))) back (rw (back.kinds, back.counts)) (rw back.kinds) (rw back.kinds) so_far reached

data_more : (text share before content after : List ℕ) (address upper lines : ℕ) → text ≡ before ++ (record_text data_kind address content ++ after)
    → address < 65536
    → length content ≤ 255
    → AllBytes content → (so_far : List ℕ)
    → length so_far ≡ length share
    → upper * 65536 + address + length content ≤ length share
    → Reached text share (reading (length before) upper lines, so_far)
    → Reached text share (reading (length before + record_size (length content)) upper (lines + 1), patched (upper * 65536 + address) content so_far)
data_more text share before content after address upper lines is fits few bytes so_far long inside reached =
    let back = reads_back data_kind address content after (omega arith) fits few bytes in
    let rest = record_text data_kind address content ++ after in
    let first : first_address upper rest ≡ upper * 65536 + address = ap (λ (a : ℕ). upper * 65536 + a) back.addresses in
    let stored_here : put_data upper rest so_far ≡ patched (upper * 65536 + address) content so_far =
    put_data_patched upper rest content so_far back.counts back.contents (omega (arith, first)) ∙ ap (λ (at : ℕ). patched at content so_far) first
    in
    rw stored_here at
    (one_more text share before content after data_kind address upper lines is back (rw back.kinds) (rw back.kinds) (rw (back.kinds, back.counts, back.addresses, le-ltb _ _ inside) (and_comm (ltb 0 (length content)) false)) so_far reached)

-- the rows of an array, read into another array of the same size
module _ (share other : List ℕ) (alike : length other ≡ length share) (whole : length share / 16 * 16 ≡ length share) (small : length share ≤ 2 ^ 24) (bytes : AllBytes share) where
  abbrev rows : ℕ
  rows = length share / 16

  -- the other array with the first rows of this
  abbrev with_rows : ℕ → List ℕ
  with_rows i = patched 0 (take (i * 16) share) other

  -- the walk comes to a row: the upper address bits are those of the row before
  abbrev AtRow : ℕ → Type 0
  AtRow i = (lines : ℕ) × Reached (saved_text share) other (reading (length (rows_text share i)) (upper_of (i - 1)) lines, with_rows i)

  -- and to its data record, behind one of type 04 where there is one
  pub record AtData (i : ℕ) (tail : List ℕ) : Type 0 where
    pub before : List ℕ
    pub lines : ℕ
    pub text_is : saved_text share ≡ before ++ (bare_row share i ++ tail)
    pub next_row : rows_text share (i + 1) ≡ before ++ bare_row share i
    pub reached : Reached (saved_text share) other (reading (length before) (upper_of i) lines, with_rows i)

  in_row : (i : ℕ) → i < rows → i * 16 + 16 ≤ length share
  in_row i below = omega arith

  upper_small : (i : ℕ) → i < rows → upper_of i < 65536
  upper_small i below = omega (arith, in_row i below)

  at_data : (i : ℕ) → i < rows → (tail : List ℕ) → saved_text share ≡ rows_text share i ++ (row_text share i ++ tail) → AtRow i → AtData i tail
  at_data i below tail is (lines, reached) = go (upper_changes i) refl
    where
      go : (changes : Bool) → upper_changes i ≡ changes → AtData i tail
      go true new =
          let row : row_text share i ++ tail ≡ upper_text (upper_of i) ++ (bare_row share i ++ tail) =
          ap (λ (row : List ℕ). row ++ tail) (row_new share i new) ∙ append_assoc (upper_text (upper_of i)) (bare_row share i) tail
          in
          let text_is : saved_text share ≡ rows_text share i ++ (upper_text (upper_of i) ++ (bare_row share i ++ tail)) =
          is ∙ ap (λ (rest : List ℕ). rows_text share i ++ rest) row
          in
          let long : length (rows_text share i) + 16 ≡ length (rows_text share i ++ upper_text (upper_of i)) =
          omega (arith, length-append (rows_text share i) (upper_text (upper_of i)), record_length upper_kind 0 (high_of (upper_of i) ∷ low_of (upper_of i) ∷ []))
          in
          record {
            before = rows_text share i ++ upper_text (upper_of i);
            lines = lines + 1;
            text_is = text_is ∙ sym (append_assoc (rows_text share i) (upper_text (upper_of i)) (bare_row share i ++ tail));
            next_row = rows_next share i ∙ ap (λ (row : List ℕ). rows_text share i ++ row) (row_new share i new) ∙ sym (append_assoc (rows_text share i) (upper_text (upper_of i)) (bare_row share i));
            reached = rw long at (upper_more (saved_text share) other (rows_text share i) (bare_row share i ++ tail) (upper_of (i - 1)) lines (upper_of i) text_is (upper_small i below) (with_rows i) reached);
          }
      go false same =
          let uppers : upper_of (i - 1) ≡ upper_of i = sym (eqb-true _ _ (not-false _ same)) in
          record {
            before = rows_text share i;
            lines = lines;
            text_is = is ∙ ap (λ (row : List ℕ). rows_text share i ++ (row ++ tail)) (row_same share i same);
            next_row = rows_next share i ∙ ap (λ (row : List ℕ). rows_text share i ++ row) (row_same share i same);
            reached = subst (λ (upper : ℕ). Reached (saved_text share) other (reading (length (rows_text share i)) upper lines, with_rows i)) uppers reached;
          }

  row_length : (i : ℕ) → i < rows → length (span (i * 16) 16 share) ≡ 16
  row_length i below = span_length (i * 16) 16 share (in_row i below)

  -- a row more
  rows_more : (i : ℕ) → i < rows → with_rows (i + 1) ≡ patched (i * 16) (span (i * 16) 16 share) (with_rows i)
  rows_more i below =
      let first : length (take (i * 16) share) ≡ i * 16 = length-take-le (i * 16) share (omega (arith, in_row i below)) in
      let sum : (i + 1) * 16 ≡ i * 16 + 16 = omega arith in
      ap (λ (n : ℕ). patched 0 (take n share) other) sum
      ∙ ap (λ (front : List ℕ). patched 0 front other) (take-add (i * 16) 16 share)
      ∙ sym (patched_on 0 (take (i * 16) share) (span (i * 16) 16 share) other (omega (arith, first, row_length i below, in_row i below, alike)))
      ∙ ap (λ (at : ℕ). patched at (span (i * 16) 16 share) (with_rows i)) (zero-add (length (take (i * 16) share)) ∙ first)

  with_rows_length : (i : ℕ) → i ≤ rows → length (with_rows i) ≡ length other
  with_rows_length i most = patched_length 0 (take (i * 16) share) other (omega (arith, length-take-le (i * 16) share (omega (arith, most, whole)), alike))

  past_row : (i : ℕ) → i < rows → (tail : List ℕ) → AtData i tail → AtRow (i + 1)
  past_row i below tail found =
      let content = span (i * 16) 16 share in
      let lies : upper_of i * 65536 + row_start i % 65536 ≡ i * 16 = omega arith in
      let fits : upper_of i * 65536 + row_start i % 65536 + length content ≤ length other = omega (arith, row_length i below, in_row i below, alike) in
      let low : row_start i % 65536 < 65536 = omega arith in
      let few : length content ≤ 255 = omega (arith, row_length i below) in
      let long : length found.before + record_size (length content) ≡ length (rows_text share (i + 1)) =
      omega (arith, ap length found.next_row, length-append found.before (bare_row share i), record_length data_kind (row_start i % 65536) content)
      in
      let upper : i + 1 - 1 ≡ i = omega arith in
      let (n, is) =
      data_more (saved_text share) other found.before content tail (row_start i % 65536) (upper_of i) found.lines found.text_is low few
      (every_span FitsByte (i * 16) 16 share bytes) (with_rows i) (with_rows_length i (omega arith)) fits found.reached
      in (
        found.lines + 1,
        (
          n,
          is
              ∙ ap (λ (at : ℕ). (reading (length found.before + record_size (length content)) (upper_of i) (found.lines + 1), patched at content (with_rows i))) lies
              ∙ ap (λ (at : ℕ). (reading at (upper_of i) (found.lines + 1), patched (i * 16) content (with_rows i))) long
              ∙ ap (λ (row : ℕ). (reading (length (rows_text share (i + 1))) (upper_of row) (found.lines + 1), patched (i * 16) content (with_rows i))) (sym upper)
              ∙ ap (λ (so_far : List ℕ). (reading (length (rows_text share (i + 1))) (upper_of (i + 1 - 1)) (found.lines + 1), so_far)) (sym (rows_more i below)),
        ),
      )

  row_more : (i : ℕ) → i < rows → AtRow i → AtRow (i + 1)
  row_more i below at = let (tail, is) = behind_row share rows i end_text below in past_row i below tail (at_data i below tail (saved_is share ∙ is) at)

  -- all rows
  at_rows : (i : ℕ) → i ≤ rows → AtRow i
  unfolding up_to
  at_rows zero most = (0, (0, refl))
  at_rows (suc i) most = rw add-one at (row_more i (omega arith) (at_rows i (omega arith)))

  -- and the end record
  at_end : (lines : ℕ) × Reached (saved_text share) other (record { at = length (saved_text share); upper = upper_of (rows - 1); lines = lines; progress = Ended }, share)
  at_end =
      let (lines, reached) = at_rows rows (omega arith) in
      let (n, is) = end_more (saved_text share) other (rows_text share rows) (upper_of (rows - 1)) lines (saved_is share) (with_rows rows) reached in
      let long : length (rows_text share rows) + 12 ≡ length (saved_text share) = omega (arith, ap length (saved_is share), length-append (rows_text share rows) end_text, record_length end_kind 0 []) in
      let none : length other ≤ length share = omega arith in
      let all : with_rows rows ≡ share =
      ap (λ (front : List ℕ). patched 0 front other) (take_all (rows * 16) share (omega arith))
      ∙ ap (λ (rest : List ℕ). share ++ rest) (drop_of_length-le other none)
      ∙ append-nil share
      in (
        lines + 1,
        (
          n,
          is
              ∙ ap (λ (at : ℕ). (record { at = at; upper = upper_of (rows - 1); lines = lines + 1; progress = Ended }, with_rows rows)) long
              ∙ ap (λ (so_far : List ℕ). (record { at = length (saved_text share); upper = upper_of (rows - 1); lines = lines + 1; progress = Ended }, so_far)) all,
        ),
      )

  -- so the text passes, and what it stores is the first array
  pub share_back : load_share (saved_text share) other ≡ (loaded, share)
  unfolding load_share
  share_back =
      let (lines, (n, is)) = at_end in
      let stops : reads_on (saved_text share) (storing_after (saved_text share) other n).0 ≡ false = rw is in
      let Alike-read = reads_alike (saved_text share) other n in
      let read : scanned (length other) (saved_text share) ≡ record { at = length (saved_text share); upper = upper_of (rows - 1); lines = lines; progress = Ended } =
      sym (scanned_is (length other) (saved_text share) n (rw (← Alike-read) stops)) ∙ sym Alike-read ∙ ap (λ (s : Storing). s.0) is
      in
      let kept : stored (saved_text share) other ≡ share = sym (stored_is (saved_text share) other n stops) ∙ ap (λ (s : Storing). s.1) is in
      rw (read, eq-eqb (length (saved_text share)) (length (saved_text share)) refl, kept)
