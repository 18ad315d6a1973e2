-- Reading goes on only past a record that passes, which is framed, so each turn moves the place on inside the text: it stops before the text
-- has been read as often as it is long. A reading that has stopped stays, so whichever stopped reading is reached is the last one.
use Prim.Native.Nat.{ℕ, zero, suc, ◌+◌, ◌-◌, ◌≤◌, ◌<◌}
use native.Mathlib.Decide.{dec_le}
use native.Mathlib.Omega.{arith}
use mathlib.Core.Bool.{Bool, true, false, cond, not, false≢true, true≢false}
use mathlib.Core.List.{List, ◌++◌}
use mathlib.Core.Path.{◌≡◌, ◌∙◌, refl, sym, ap, subst}
use lib.Dec.{eqb}
use lib.ListN.{length, take, drop, length-drop}
use borrow.Author.Tests.{ltb-true, not-false}
use Rattle.base.specs.Fold.{up_to}
use Rattle.base.specs.Store.{patched}
use Rattle.base.proofs.Fold.{up_none, up_keeps, up_more}
use Rattle.base.proofs.logic.Laws.{and_right, or_none, either}
use Rattle.refusal.specs.declared.Refusal.{Refusal}
use Rattle.refusal.specs.Verdict.{Verdict}
use Rattle.std.specs.Prelude.{Ok, Err}
use Rattle.refusal.specs.Refusal.{status_of}
use Rattle.refusal.specs.Checks.{first_of}
use Rattle.std.specs.Result.{is_ok}
use Rattle.refusal.proofs.Checks.{passed_exactly_when}
use Rattle.board.specs.declared.Place.{Place}
use Rattle.board.specs.Shares.{array_start}
use Rattle.hexline.specs.Fields.{end_kind, kind_in, is_framed, line_size}
use Rattle.hexline.specs.Checks.{record_checks, bad_length}
use Rattle.hexline.proofs.fields.Laws.{framed_fits, put_data_length}
use Rattle.image.specs.declared.loading.Progress.TheVariants.{Open, Ended}
use Rattle.image.specs.declared.loading.Reading.{Reading}
use Rattle.image.specs.Reading.{is_open, said_by, begun, reads_on, rest_at, past, read_by, verdict_at, next_reading, read_on, reading_after, scanned}
use Rattle.image.specs.Load.{Loaded, in_place}
use Rattle.image.specs.Storing.{Storing, is_stored, next_storing, store_on, storing_after, stored}

-- the same step again and again: once it changes nothing, it never does
module _ {A : Type 0} (f : A → A) (a : A) where
  abbrev times : ℕ → A
  times n = up_to (λ (i : ℕ). f) n a

  again_same : (n m : ℕ) → f (times n) ≡ times n → n ≤ m → times m ≡ times n
  unfolding up_to
  again_same n zero idle most = let none : zero ≡ n = omega arith in ap times none
  again_same n (suc m) idle most = go (dec_le n m) (again_same n m idle)
    where
      go : Dec (n ≤ m) → (n ≤ m → times m ≡ times n) → f (times m) ≡ times n
      go (yes p) earlier = ap f (earlier p) ∙ idle
      go (no p) earlier = let last : suc m ≡ n = omega arith in ap times last

  -- so there is one end, however often it is reached
  again_ends : (n m : ℕ) → f (times n) ≡ times n → f (times m) ≡ times m → times n ≡ times m
  again_ends n m idle_n idle_m = go (dec_le n m)
    where
      go : Dec (n ≤ m) → times n ≡ times m
      go (yes p) = sym (again_same n m idle_n p)
      go (no p) = again_same m n idle_m (omega arith)

-- a record that passes is framed
passed_framed : (size upper : ℕ) (rest : List ℕ) → first_of (record_checks size upper rest) ≡ Ok tt → is_framed rest ≡ true
passed_framed size upper rest passes =
    not-false _ (or_none (not (is_framed rest)) (bad_length rest) ((passed_exactly_when (record_checks size upper rest)).0 (ap status_of passes)).0).0

-- what is not done is refused
pub refused : (verdict : Verdict) → is_ok verdict ≡ false → (refusal : Refusal) × (verdict ≡ Err refusal)
refused (Ok tt) is = absurd (true≢false is)
refused (Err refusal) is = (refusal, refl)

-- past a record that passes a reading goes on unless that was the end, and nothing is said against it
pub open_by : (end : Bool) → is_open (cond end Ended Open) ≡ not end
open_by true = refl
open_by false = refl

pub passes_by : (end : Bool) → said_by (cond end Ended Open) ≡ Ok tt
passes_by true = refl
passes_by false = refl

-- the place lies in the text, and no record is shorter than a byte
pub record Sane (text : List ℕ) (reading : Reading) : Type 0 where
  pub inside : reading.at ≤ length text
  pub fewer : reading.lines ≤ reading.at

module _ (text : List ℕ) (reading : Reading) where
  -- where it goes on, text is left
  pub reads_inside : reads_on text reading ≡ true → reading.at < length text
  reads_inside on = ltb-true _ _ (and_right (is_open reading.progress) _ on)

module _ (size : ℕ) (text : List ℕ) where
  pub read_idle : (reading : Reading) → reads_on text reading ≡ false → read_on size text reading ≡ reading
  unfolding read_on
  read_idle reading off = rw off

  -- a record that passes ends in the text
  pub past_fits : (reading : Reading) → verdict_at size text reading ≡ Ok tt → reading.at ≤ length text
      → reading.at + line_size (rest_at text reading) ≤ length text
  past_fits reading passes inside =
      omega (arith, framed_fits (rest_at text reading) (passed_framed size reading.upper (rest_at text reading) passes), length-drop reading.at text)

  -- a reading goes on from a record that passes, and says what was said of one that does not
  pub next_passes : (reading : Reading) → is_ok (said_by (next_reading size text reading).progress) ≡ is_ok (verdict_at size text reading)
  unfolding next_reading
  next_passes reading = go (verdict_at size text reading)
    where
      go : (verdict : Verdict) → is_ok (said_by (read_by verdict (rest_at text reading) reading).progress) ≡ is_ok verdict
      go (Ok tt) = ap is_ok (passes_by (eqb (kind_in (rest_at text reading)) end_kind))
      go (Err refusal) = refl

  pub next_sane : (reading : Reading) → Sane text reading → Sane text (next_reading size text reading)
  unfolding next_reading
  next_sane reading sane = go (verdict_at size text reading) refl
    where
      go : (verdict : Verdict) → verdict_at size text reading ≡ verdict → Sane text (read_by verdict (rest_at text reading) reading)
      go (Ok tt) passes = record { inside = past_fits reading passes sane.inside; fewer = omega (arith, sane.fewer) }
      go (Err refusal) refused = record { inside = sane.inside; fewer = sane.fewer }

  read_sane : (reading : Reading) → Sane text reading → Sane text (read_on size text reading)
  unfolding read_on
  read_sane reading sane =
      either (Sane text) (reads_on text reading) (next_reading size text reading) reading (next_sane reading sane) sane

  pub after_sane : (n : ℕ) → Sane text (reading_after size text n)
  after_sane n =
      up_keeps (λ (i : ℕ). read_on size text) (Sane text) (λ i reading. read_sane reading) n begun
      (record { inside = omega arith; fewer = omega arith })

  -- a reading that still goes on has read a record each time
  read_line : (reading : Reading) → reads_on text (read_on size text reading) ≡ true
      → (reads_on text reading ≡ true) × ((read_on size text reading).lines ≡ reading.lines + 1)
  unfolding read_on next_reading
  read_line reading = go (reads_on text reading) refl (verdict_at size text reading)
    where
      go : (was : Bool) → reads_on text reading ≡ was → (verdict : Verdict) → reads_on text (cond was (read_by verdict (rest_at text reading) reading) reading) ≡ true
          → (was ≡ true) × ((cond was (read_by verdict (rest_at text reading) reading) reading).lines ≡ reading.lines + 1)
      go true is (Ok tt) on = (refl, refl)
      go true is (Err refusal) on = absurd (false≢true on)
      go false is verdict on = absurd (false≢true (sym is ∙ on))

  pub lines_read : (n : ℕ) → reads_on text (reading_after size text n) ≡ true → (reading_after size text n).lines ≡ n
  unfolding up_to
  lines_read zero on = refl
  lines_read (suc n) on =
      let (was, more) = read_line (reading_after size text n) on in
      omega (arith, more, lines_read n was)

  -- so it stops in time
  pub scanned_stops : reads_on text (scanned size text) ≡ false
  scanned_stops = go (reads_on text (scanned size text)) refl
    where
      go : (on : Bool) → reads_on text (scanned size text) ≡ on → on ≡ false
      go true on =
          absurd (omega (arith, lines_read (length text) on, (after_sane (length text)).fewer, reads_inside text (scanned size text) on))
      go false off = refl

  pub scanned_is : (n : ℕ) → reads_on text (reading_after size text n) ≡ false → reading_after size text n ≡ scanned size text
  scanned_is n off = again_ends (read_on size text) begun n (length text) (read_idle _ off) (read_idle _ scanned_stops)

-- for the loop that scans: a reading that it comes to
abbrev pub Reached : ℕ → List ℕ → Reading → Type 0
Reached size text reading = (n : ℕ) × (reading ≡ reading_after size text n)

-- how much of the text it may still read
abbrev pub left : List ℕ → Reading → ℕ
left text reading = cond (reads_on text reading) (length text - reading.at) 0

module _ (size : ℕ) (text : List ℕ) where
  pub begun_reached : Reached size text begun
  begun_reached = (0, up_none (λ (i : ℕ). read_on size text) begun)

  pub next_reached : {reading next : Reading} → Reached size text reading → reads_on text reading ≡ true → next ≡ next_reading size text reading
      → Reached size text next
  unfolding read_on
  next_reached (n, so_far) on is = (n + 1, up_more (λ (i : ℕ). read_on size text) n begun so_far (rw on is))

  pub reached_sane : {reading : Reading} → Reached size text reading → Sane text reading
  reached_sane (n, so_far) = subst (Sane text) (sym so_far) (after_sane size text n)

  left_next : (reading : Reading) → reading.at < length text → left text (next_reading size text reading) < length text - reading.at
  unfolding next_reading
  left_next reading inside = go (verdict_at size text reading)
    where
      go : (verdict : Verdict) → left text (read_by verdict (rest_at text reading) reading) < length text - reading.at
      go (Ok tt) =
          either (λ (m : ℕ). m < length text - reading.at) (reads_on text (past (rest_at text reading) reading))
          (length text - (reading.at + line_size (rest_at text reading))) 0 (omega arith) (omega arith)
      go (Err refusal) = omega arith

  pub next_less : (reading : Reading) {next : Reading} → reads_on text reading ≡ true → next ≡ next_reading size text reading
      → left text next < left text reading
  next_less reading on is = rw (is, on) (left_next reading (reads_inside text reading on))

  pub reached_end : {reading : Reading} → Reached size text reading → reads_on text reading ≡ false → reading ≡ scanned size text
  reached_end (n, so_far) off = so_far ∙ scanned_is size text n (rw so_far at off)

-- the second walk
module _ (size : ℕ) (text : List ℕ) (storing : Storing) where
  pub store_idle : reads_on text storing.0 ≡ false → store_on size text storing ≡ storing
  unfolding store_on
  store_idle off = rw off

  -- reads as the first does
  store_reads : (store_on size text storing).0 ≡ read_on size text storing.0
  unfolding store_on next_storing read_on
  store_reads = go (reads_on text storing.0)
    where
      go : (on : Bool) → (cond on (next_storing size text storing) storing).0 ≡ cond on (next_reading size text storing.0) storing.0
      go true = refl
      go false = refl

  pub next_stored_less : {next : Storing} → reads_on text storing.0 ≡ true → next ≡ next_storing size text storing
      → left text next.0 < left text storing.0
  unfolding next_storing
  next_stored_less on is = next_less size text storing.0 on (ap (λ (now : Storing). now.0) is)

  -- and keeps the share's length
  next_length : length (next_storing size text storing).1 ≡ length storing.1
  unfolding next_storing
  next_length =
      either (λ (share : List ℕ). length share ≡ length storing.1) (is_stored size text storing.0) _ storing.1
      (put_data_length storing.0.upper (rest_at text storing.0) storing.1) refl

  store_length : length (store_on size text storing).1 ≡ length storing.1
  unfolding store_on
  store_length =
      either (λ (now : Storing). length now.1 ≡ length storing.1) (reads_on text storing.0) (next_storing size text storing) storing next_length refl

module _ (text share : List ℕ) where
  abbrev again : ℕ → Storing → Storing
  again i = store_on (length share) text

  pub reads_alike : (n : ℕ) → (storing_after text share n).0 ≡ reading_after (length share) text n
  unfolding up_to
  reads_alike zero = refl
  reads_alike (suc n) = store_reads (length share) text (storing_after text share n) ∙ ap (read_on (length share) text) (reads_alike n)

  pub storing_length : (n : ℕ) → length (storing_after text share n).1 ≡ length share
  storing_length n =
      up_keeps again (λ (now : Storing). length now.1 ≡ length share)
      (λ i now kept. store_length (length share) text now ∙ kept) n (begun, share) refl

  pub stored_length : length (stored text share) ≡ length share
  unfolding stored
  stored_length = storing_length (length text)

  pub stored_is : (n : ℕ) → reads_on text (storing_after text share n).0 ≡ false → (storing_after text share n).1 ≡ stored text share
  unfolding stored
  stored_is n off =
      ap (λ (storing : Storing). storing.1)
      (again_ends (store_on (length share) text) (begun, share) n (length text)
      (store_idle (length share) text (storing_after text share n) off)
      (store_idle (length share) text (storing_after text share (length text)) (rw (reads_alike (length text)) (scanned_stops (length share) text))))

-- for the loop that stores: a reading and a share that it comes to
abbrev pub StoredTo : List ℕ → List ℕ → Storing → Type 0
StoredTo text share₀ storing = (n : ℕ) × (storing ≡ storing_after text share₀ n)

module _ (text share₀ : List ℕ) where
  pub begun_stored : StoredTo text share₀ (begun, share₀)
  begun_stored = (0, up_none (again text share₀) (begun, share₀))

  pub stored_to_length : {storing : Storing} → StoredTo text share₀ storing → length storing.1 ≡ length share₀
  stored_to_length (n, so_far) = rw so_far (storing_length text share₀ n)

  -- the code takes the size from the share as it is by then
  pub next_stored : {storing next : Storing} → StoredTo text share₀ storing → reads_on text storing.0 ≡ true
      → next ≡ next_storing (length storing.1) text storing → StoredTo text share₀ next
  unfolding store_on
  next_stored {storing} (n, so_far) on is =
      let same : length storing.1 ≡ length share₀ = stored_to_length (n, so_far) in
      (n + 1, up_more (again text share₀) n (begun, share₀) so_far (rw on (is ∙ ap (λ (size : ℕ). next_storing size text storing) same)))

  pub stored_to_reached : {storing : Storing} → StoredTo text share₀ storing → Reached (length share₀) text storing.0
  stored_to_reached (n, so_far) = (n, ap (λ (now : Storing). now.0) so_far ∙ reads_alike text share₀ n)

  pub stored_to_end : {storing : Storing} → StoredTo text share₀ storing → reads_on text storing.0 ≡ false → storing.1 ≡ stored text share₀
  stored_to_end (n, so_far) off = ap (λ (now : Storing). now.1) so_far ∙ stored_is text share₀ n (rw so_far at off)

-- a share that was lent out comes back in its place
pub back_in_place : (places : List Place) (k : ℕ) (array : List ℕ) (start end : ℕ) {said : Loaded} {share : List ℕ} {made : Loaded × List ℕ} → start ≡ array_start places k
    → length share ≡ end - start
    → (said, share) ≡ made
    → (said, take start array ++ (share ++ drop (end - start) (drop start array))) ≡ in_place places k array made
back_in_place places k array start end {said} {share} starts long is =
    ap (λ (n : ℕ). (said, take start array ++ (share ++ drop n (drop start array)))) (sym long)
    ∙ ap (λ (from : ℕ). (said, patched from share array)) starts
    ∙ ap (in_place places k array) is
