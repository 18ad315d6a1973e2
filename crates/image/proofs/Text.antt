-- Reading stops at the first record that is refused and stays there, so that record's number is the text's. Each data record in its turn sets
-- the bytes that it names, so the last one that names an address decides. (Record i is the one that is read after `reading_after size text i`.)
use Prim.Native.Nat.{ℕ, zero, suc, ◌+◌, ◌≤◌, ◌<◌}
use native.Mathlib.Decide.{dec_le}
use native.Mathlib.Omega.{arith}
use mathlib.Core.Bool.{Bool, true, false, cond, ◌&&◌, false≢true, true≢false}
use mathlib.Core.List.{List}
use mathlib.Core.Logic.{◌↔◌}
use mathlib.Core.Path.{◌≡◌, ◌∙◌, refl, sym, ap}
use lib.Dec.{eqb, ltb, leb}
use lib.ListN.{length, get_or}
use borrow.Author.Tests.{eqb-true, eqb-false, eq-eqb, ne_eqb, not-true, le-leb, lt-ltb, leb-true, ltb-true, ltb-false}
use Rattle.base.specs.Fold.{up_to}
use Rattle.base.proofs.logic.Laws.{and_left, and_right, and_both}
use Rattle.refusal.specs.declared.Refusal.{Refusal}
use Rattle.refusal.specs.declared.Refusal.TheVariants.{NoEnd}
use Rattle.refusal.specs.Verdict.{Verdict}
use Rattle.std.specs.Prelude.{Ok, Err}
use Rattle.refusal.specs.Refusal.{number_of, status_of}
use Rattle.std.specs.Result.{is_ok}
use Rattle.refusal.proofs.Checks.{Checks, Given, NoneHolds, given_exactly_when, passed_exactly_when, status_passed}
use Rattle.bus.proofs.Entry.{passed}
use Rattle.hexline.specs.Fields.{data_kind, end_kind, count_in, kind_in, line_size, first_address, put_data}
use Rattle.hexline.specs.Checks.{record_checks}
use Rattle.hexline.proofs.fields.Laws.{put_data_named, put_data_unnamed}
use Rattle.image.specs.declared.loading.Reading.{Reading}
use Rattle.image.specs.Reading.{is_open, has_ended, said_by, reads_on, rest_at, past, stopped, read_by, verdict_at, next_reading, read_on, reading_after, scanned, verdict_by, text_verdict}
use Rattle.image.specs.Storing.{Storing, is_stored, next_storing, store_on, storing_after, stored, names, stores_at, byte_for}
use Rattle.image.proofs.loading.Laws.{open_by, passes_by, reads_inside, after_sane, lines_read, scanned_is, reads_alike, storing_length}

-- the checks of the record that is to be read
abbrev pub checks_at : ℕ → List ℕ → Reading → Checks
checks_at size text reading = record_checks size reading.upper (rest_at text reading)

-- no record that is read is refused
abbrev pub NoneRefused : ℕ → List ℕ → Type 0
NoneRefused size text = (i : ℕ) → reads_on text (reading_after size text i) ≡ true → NoneHolds (checks_at size text (reading_after size text i))

-- the end record came, and nothing stands behind it
abbrev pub Complete : ℕ → List ℕ → Type 0
Complete size text = (has_ended (scanned size text).progress ≡ true) × ((scanned size text).at ≡ length text)

-- a verdict with a number other than 0 is that refusal
refused_by : (verdict : Verdict) (n : ℕ) → 0 < n → status_of verdict ≡ n → (refusal : Refusal) × (verdict ≡ Err refusal) × (number_of refusal ≡ n)
refused_by (Ok tt) n some is = absurd (omega (arith, is))
refused_by (Err refusal) n some is = (refusal, refl, is)

abbrev verdict_of_lem : Reading → Verdict
verdict_of_lem reading = said_by reading.progress

module _ (size : ℕ) (text : List ℕ) where
  abbrev at : ℕ → Reading
  at i = reading_after size text i

  -- record 0 is read where there is any text; a later one where the one before it is read, passes and is not the end, and text is left
  pub first_read_exactly_when : (reads_on text (reading_after size text 0) ≡ true) ↔ (0 < length text)
  unfolding up_to
  first_read_exactly_when = (λ on. ltb-true _ _ on, λ some. lt-ltb _ _ some)

  pub next_read_exactly_when : (i : ℕ)
      → (reads_on text (reading_after size text (suc i)) ≡ true)
      ↔ ((reads_on text (reading_after size text i) ≡ true)
      × NoneHolds (checks_at size text (reading_after size text i))
      × (kind_in (rest_at text (reading_after size text i)) ≡ end_kind → ⊥)
      × ((reading_after size text i).at + line_size (rest_at text (reading_after size text i)) < length text))
  unfolding up_to read_on next_reading
  next_read_exactly_when i = (to (reads_on text (at i)) refl (verdict_at size text (at i)) refl, from)
    where
      to : (on : Bool) → reads_on text (at i) ≡ on → (verdict : Verdict) → verdict_at size text (at i) ≡ verdict
          → reads_on text (cond on (read_by verdict (rest_at text (at i)) (at i)) (at i)) ≡ true
          → (reads_on text (at i) ≡ true) × NoneHolds (checks_at size text (at i)) × (kind_in (rest_at text (at i)) ≡ end_kind → ⊥)
          × ((at i).at + line_size (rest_at text (at i)) < length text)
      to true on (Ok tt) said next = (
        on,
        (passed_exactly_when (checks_at size text (at i))).0 (ap status_of said),
        eqb-false _ _ (not-true _ (sym (open_by (eqb (kind_in (rest_at text (at i))) end_kind)) ∙ and_left (is_open (past (rest_at text (at i)) (at i)).progress) _ next)),
        ltb-true _ _ (and_right (is_open (past (rest_at text (at i)) (at i)).progress) _ next),
      )
      to true on (Err refusal) said next = absurd (false≢true next)
      to false off verdict said next = absurd (false≢true (sym off ∙ next))

      from : (reads_on text (at i) ≡ true) × NoneHolds (checks_at size text (at i)) × (kind_in (rest_at text (at i)) ≡ end_kind → ⊥)
          × ((at i).at + line_size (rest_at text (at i)) < length text)
          → reads_on text (at (suc i)) ≡ true
      from (on, none, other, left) =
          let passes = status_passed (verdict_at size text (at i)) ((passed_exactly_when (checks_at size text (at i))).1 none) in
          rw (on, passes, ne_eqb _ _ other, lt-ltb _ _ left)

  given_refused : (reading : Reading) (n : ℕ) → 0 < n → Given (checks_at size text reading) n
      → (refusal : Refusal) × (verdict_at size text reading ≡ Err refusal) × (number_of refusal ≡ n)
  given_refused reading n some given =
      refused_by (verdict_at size text reading) n some ((given_exactly_when (checks_at size text reading) refl n some).1 given)

  -- a reading that was refused was refused at some record
  refused_at_lem : (n : ℕ) (refusal : Refusal) → said_by (at n).progress ≡ Err refusal
      → (i : ℕ) × (reads_on text (at i) ≡ true) × (verdict_at size text (at i) ≡ Err refusal)
  unfolding up_to read_on next_reading
  refused_at_lem zero refusal is = absurd (true≢false (ap is_ok is))
  refused_at_lem (suc n) refusal is = go (reads_on text (at n)) refl (verdict_at size text (at n)) refl is (refused_at_lem n refusal)
    where
      go : (on : Bool) → reads_on text (at n) ≡ on → (verdict : Verdict) → verdict_at size text (at n) ≡ verdict
          → said_by (cond on (read_by verdict (rest_at text (at n)) (at n)) (at n)).progress ≡ Err refusal
          → (said_by (at n).progress ≡ Err refusal → (i : ℕ) × (reads_on text (at i) ≡ true) × (verdict_at size text (at i) ≡ Err refusal))
          → (i : ℕ) × (reads_on text (at i) ≡ true) × (verdict_at size text (at i) ≡ Err refusal)
      go true on (Ok tt) said now earlier =
          absurd (true≢false (ap is_ok (sym (passes_by (eqb (kind_in (rest_at text (at n))) end_kind)) ∙ now)))
      go true on (Err other) said now earlier = (n, on, said ∙ now)
      go false off verdict said now earlier = earlier now

  -- and reading ends there
  refused_ends : (i : ℕ) (refusal : Refusal) → reads_on text (at i) ≡ true → verdict_at size text (at i) ≡ Err refusal
      → scanned size text ≡ stopped refusal (at i)
  unfolding up_to read_on next_reading
  refused_ends i refusal on said =
      let next : at (suc i) ≡ stopped refusal (at i) = rw (on, said) in
      sym (scanned_is size text (suc i) (rw next)) ∙ next

  -- the records that are read pass exactly where reading did
  passed_none : said_by (scanned size text).progress ≡ Ok tt → NoneRefused size text
  passed_none passes i on = go (verdict_at size text (at i)) refl
    where
      go : (verdict : Verdict) → verdict_at size text (at i) ≡ verdict → NoneHolds (checks_at size text (at i))
      go (Ok tt) said = (passed_exactly_when (checks_at size text (at i))).0 (ap status_of said)
      go (Err refusal) said = absurd (true≢false (ap is_ok (sym passes ∙ ap verdict_of_lem (refused_ends i refusal on said))))

  none_passed : NoneRefused size text → said_by (scanned size text).progress ≡ Ok tt
  none_passed none = go (said_by (scanned size text).progress) refl
    where
      go : (verdict : Verdict) → said_by (scanned size text).progress ≡ verdict → verdict ≡ Ok tt
      go (Ok tt) said = refl
      go (Err refusal) said =
          let (i, on, refused) = refused_at_lem (length text) refusal said in
          let passes = status_passed (verdict_at size text (at i)) ((passed_exactly_when (checks_at size text (at i))).1 (none i on)) in
          absurd (true≢false (ap is_ok (sym passes ∙ refused)))

  -- the test of the end
  abbrev ends : Bool
  ends = has_ended (scanned size text).progress && eqb (scanned size text).at (length text)

  ends_complete : ends ≡ true → Complete size text
  ends_complete is = (and_left (has_ended (scanned size text).progress) _ is, eqb-true _ _ (and_right (has_ended (scanned size text).progress) _ is))

  complete_ends : Complete size text → ends ≡ true
  complete_ends (ended, all) = and_both (has_ended (scanned size text).progress) _ ended (eq-eqb _ _ all)

  abbrev said_by_lem : Verdict → ℕ
  said_by_lem verdict = status_of (verdict_by verdict text (scanned size text))

  -- 20 to 23: a record that is read is refused with that number
  pub text_exactly_when : (n : ℕ) → 0 < n → (n ≡ 24 → ⊥)
      → (status_of (text_verdict size text) ≡ n) ↔ ((i : ℕ) × (reads_on text (reading_after size text i) ≡ true) × Given (checks_at size text (reading_after size text i)) n)
  text_exactly_when n some other = (to (said_by (scanned size text).progress) refl, from)
    where
      by_end : (test : Bool) → status_of (cond test (Ok tt) (Err NoEnd)) ≡ n → ⊥
      by_end true is = omega (arith, is)
      by_end false is = other (sym is)

      to : (verdict : Verdict) → said_by (scanned size text).progress ≡ verdict → said_by_lem verdict ≡ n
          → (i : ℕ) × (reads_on text (at i) ≡ true) × Given (checks_at size text (at i)) n
      to (Ok tt) said is = absurd (by_end ends is)
      to (Err refusal) said is =
          let (i, on, refused) = refused_at_lem (length text) refusal said in
          (i, on, (given_exactly_when (checks_at size text (at i)) refl n some).0 (ap status_of refused ∙ is))

      from : (i : ℕ) × (reads_on text (at i) ≡ true) × Given (checks_at size text (at i)) n → status_of (text_verdict size text) ≡ n
      from (i, on, given) =
          let (refusal, refused, number) = given_refused (at i) n some given in
          ap said_by_lem (ap verdict_of_lem (refused_ends i refusal on refused)) ∙ number

  -- and as many lines stand before it as were read
  pub line_at_fault : (i n : ℕ) → 0 < n → reads_on text (reading_after size text i) ≡ true → Given (checks_at size text (reading_after size text i)) n
      → (scanned size text).lines ≡ i
  line_at_fault i n some on given =
      let (refusal, refused, number) = given_refused (at i) n some given in
      ap (λ (reading : Reading). reading.lines) (refused_ends i refusal on refused) ∙ lines_read size text i on

  -- 24: no record is refused, but there is no end record, or text stands behind it
  pub no_end_exactly_when : (status_of (text_verdict size text) ≡ 24) ↔ (NoneRefused size text × (Complete size text → ⊥))
  no_end_exactly_when = (to (said_by (scanned size text).progress) refl, from)
    where
      to : (verdict : Verdict) → said_by (scanned size text).progress ≡ verdict → said_by_lem verdict ≡ 24 → NoneRefused size text × (Complete size text → ⊥)
      to (Ok tt) said is = (passed_none said, λ complete. omega (arith, rw (complete_ends complete) at is))
      to (Err refusal) said is =
          let (i, on, refused) = refused_at_lem (length text) refusal said in
          let given = (given_exactly_when (checks_at size text (at i)) refl 24 (omega arith)).0 (ap status_of refused ∙ is) in
          absurd given.1.1.1.1

      by_end : (test : Bool) → (test ≡ true → ⊥) → status_of (cond test (Ok tt) (Err NoEnd)) ≡ 24
      by_end true bad = absurd (bad refl)
      by_end false bad = refl

      from : NoneRefused size text × (Complete size text → ⊥) → status_of (text_verdict size text) ≡ 24
      from (none, bad) = ap said_by_lem (none_passed none) ∙ by_end ends (λ is. bad (ends_complete is))

  -- 0: no record is refused, the end record came, and nothing stands behind it
  pub text_passes_exactly_when : (status_of (text_verdict size text) ≡ 0) ↔ (NoneRefused size text × Complete size text)
  text_passes_exactly_when = (to (said_by (scanned size text).progress) refl, from)
    where
      by_end : (test : Bool) → status_of (cond test (Ok tt) (Err NoEnd)) ≡ 0 → test ≡ true
      by_end true is = refl
      by_end false is = absurd (omega (arith, is))

      to : (verdict : Verdict) → said_by (scanned size text).progress ≡ verdict → said_by_lem verdict ≡ 0 → NoneRefused size text × Complete size text
      to (Ok tt) said is = (passed_none said, ends_complete (by_end ends is))
      to (Err refusal) said is = absurd (true≢false (ap is_ok (sym (status_passed (Err refusal) is))))

      from : NoneRefused size text × Complete size text → status_of (text_verdict size text) ≡ 0
      from (none, complete) = ap said_by_lem (none_passed none) ∙ rw (complete_ends complete)

-- a record that is stored names no address past the array
module _ (size : ℕ) (text : List ℕ) (reading : Reading) (j : ℕ) (stores : stores_at size text reading j ≡ true) where
  abbrev rest : List ℕ
  rest = rest_at text reading

  abbrev first : ℕ
  first = first_address reading.upper rest

  is_read_lem : reads_on text reading ≡ true
  is_read_lem = and_left (reads_on text reading) _ stores

  is_stored_lem : is_stored size text reading ≡ true
  is_stored_lem = and_left (is_stored size text reading) _ (and_right (reads_on text reading) _ stores)

  is_named_lem : names reading.upper rest j ≡ true
  is_named_lem = and_right (is_stored size text reading) _ (and_right (reads_on text reading) _ stores)

  from_first : first ≤ j
  from_first = leb-true _ _ (and_left (leb first j) _ is_named_lem)

  below_last : j < first + count_in rest
  below_last = ltb-true _ _ (and_right (leb first j) _ is_named_lem)

  stored_inside : j < size
  stored_inside = go (ltb size (first + count_in rest)) refl
    where
      passes : verdict_at size text reading ≡ Ok tt
      passes = passed (verdict_at size text reading) (and_left (is_ok (verdict_at size text reading)) _ is_stored_lem)

      is_data : eqb (kind_in rest) data_kind ≡ true
      is_data = and_right (is_ok (verdict_at size text reading)) _ is_stored_lem

      go : (past : Bool) → ltb size (first + count_in rest) ≡ past → j < size
      go true past =
          let none = ((passed_exactly_when (checks_at size text reading)).0 (ap status_of passes)).1.1.1.0 in
          let some : ltb 0 (count_in rest) ≡ true = lt-ltb 0 (count_in rest) (omega (arith, from_first, below_last)) in
          absurd (true≢false (sym (and_both (eqb (kind_in rest) data_kind) _ is_data (and_both (ltb 0 (count_in rest)) _ some past)) ∙ none))
      go false past = omega (arith, ltb-false size (first + count_in rest) past, below_last)

-- what reading one record does to a share
abbrev stored_by : ℕ → List ℕ → Reading → List ℕ → List ℕ
stored_by size text reading share =
    cond (reads_on text reading) (cond (is_stored size text reading) (put_data reading.upper (rest_at text reading) share) share) share

store_share : (size : ℕ) (text : List ℕ) (storing : Storing) → (store_on size text storing).1 ≡ stored_by size text storing.0 storing.1
unfolding store_on next_storing
store_share size text storing = go (reads_on text storing.0)
  where
    go : (on : Bool) → (cond on (next_storing size text storing) storing).1 ≡ cond on (next_storing size text storing).1 storing.1
    go true = refl
    go false = refl

module _ (size : ℕ) (text : List ℕ) (reading : Reading) (share : List ℕ) (j d : ℕ) where
  by_unnamed : stores_at size text reading j ≡ false → get_or (stored_by size text reading share) j d ≡ get_or share j d
  by_unnamed none = go (reads_on text reading) (is_stored size text reading) none
    where
      go : (on stores : Bool) → (on && (stores && names reading.upper (rest_at text reading) j)) ≡ false
          → get_or (cond on (cond stores (put_data reading.upper (rest_at text reading) share) share) share) j d ≡ get_or share j d
      go true true off =
          put_data_unnamed reading.upper (rest_at text reading) share j d
          (λ from below. true≢false (sym (and_both _ _ (le-leb _ _ from) (lt-ltb _ _ below)) ∙ off))
      go true false off = refl
      go false stores off = refl

  by_named : (stores : stores_at size text reading j ≡ true) → length share ≡ size → get_or (stored_by size text reading share) j d ≡ byte_for text reading j
  by_named stores long =
      rw (is_read_lem size text reading j stores, is_stored_lem size text reading j stores)
      (put_data_named reading.upper (rest_at text reading) share j d (from_first size text reading j stores) (below_last size text reading j stores)
      (omega (arith, stored_inside size text reading j stores)))

module _ (text share : List ℕ) (j d : ℕ) where
  abbrev reads : ℕ → Reading
  reads n = reading_after (length share) text n

  abbrev so_far : ℕ → List ℕ
  so_far n = (storing_after text share n).1

  -- one record more
  share_more : (n : ℕ) → so_far (suc n) ≡ stored_by (length share) text (reads n) (so_far n)
  unfolding up_to
  share_more n =
      store_share (length share) text (storing_after text share n)
      ∙ ap (λ (reading : Reading). stored_by (length share) text reading (so_far n)) (reads_alike text share n)

  -- records that do not name the address
  stays : (n m : ℕ) → n ≤ m → ((k : ℕ) → n ≤ k → stores_at (length share) text (reads k) j ≡ false) → get_or (so_far m) j d ≡ get_or (so_far n) j d
  stays n zero most none = let same : zero ≡ n = omega arith in ap (λ (k : ℕ). get_or (so_far k) j d) same
  stays n (suc m) most none = go (dec_le n m) (λ p. stays n m p none)
    where
      go : Dec (n ≤ m) → (n ≤ m → get_or (so_far m) j d ≡ get_or (so_far n) j d) → get_or (so_far (suc m)) j d ≡ get_or (so_far n) j d
      go (yes p) earlier = ap (λ (xs : List ℕ). get_or xs j d) (share_more m) ∙ by_unnamed (length share) text (reads m) (so_far m) j d (none m p) ∙ earlier p
      go (no p) earlier = let last : suc m ≡ n = omega arith in ap (λ (k : ℕ). get_or (so_far k) j d) last

  -- an address that no record names
  pub unnamed_bytes_stay : ((i : ℕ) → stores_at (length share) text (reading_after (length share) text i) j ≡ false) → get_or (stored text share) j d ≡ get_or share j d
  unfolding stored up_to
  unnamed_bytes_stay none = stays 0 (length text) (omega arith) (λ k from. none k)

  -- an address that record i names, and none behind it
  pub later_record_wins : (i : ℕ) → stores_at (length share) text (reading_after (length share) text i) j ≡ true
      → ((k : ℕ) → i < k → stores_at (length share) text (reading_after (length share) text k) j ≡ false)
      → get_or (stored text share) j d ≡ byte_for text (reading_after (length share) text i) j
  unfolding stored
  later_record_wins i here none =
      let on = and_left (reads_on text (reads i)) _ here in
      stays (suc i) (length text)
      (omega (arith, lines_read (length share) text i on, (after_sane (length share) text i).fewer, reads_inside text (reads i) on)) none
      ∙ ap (λ (xs : List ℕ). get_or xs j d) (share_more i) ∙ by_named (length share) text (reads i) (so_far i) j d here (storing_length text share i)
