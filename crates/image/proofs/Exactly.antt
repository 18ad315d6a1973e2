-- Each number is given exactly when the request says. Saving asks 10, 5, 7, 19. Loading asks 10, 5, 7, and then its text: 20 to 23 are those
-- of the first record that fails, and 24 comes last. The line that is answered is that record's, 1 for the first. (Which records are read:
-- `first_read_exactly_when`, `next_read_exactly_when` in Text.)
use Prim.Native.Nat.{ℕ, ◌+◌, ◌<◌}
use native.Mathlib.Omega.{arith}
use mathlib.Core.Bool.{true, false≢true}
use mathlib.Core.List.{List}
use mathlib.Core.Logic.{◌↔◌, ◌⊎◌, inl, inr, ⊎_elim}
use mathlib.Core.Path.{◌≡◌, ◌∙◌, refl, sym, ap}
use Rattle.refusal.specs.declared.Refusal.{Refusal}
use Rattle.refusal.specs.Verdict.{Verdict}
use Rattle.std.specs.Prelude.{Ok, Err}
use Rattle.refusal.specs.Refusal.{status_of}
use Rattle.refusal.specs.Checks.{first_of}
use Rattle.std.specs.Result.{is_ok}
use Rattle.refusal.proofs.Checks.{Checks, distinct, Given, NoneHolds, given_exactly_when, passed_exactly_when, status_passed}
use Rattle.lineup.specs.Chips.{places_of}
use Rattle.bus.specs.declared.Bus.{Bus}
use Rattle.bus.specs.Step.{chip_checks}
use Rattle.image.specs.Reading.{reads_on, reading_after, scanned, text_verdict}
use Rattle.image.specs.Load.{Loaded, load_verdict, line_of, load_by, load}
use Rattle.image.specs.Save.{save_verdict, save_checks, save}
use Rattle.image.proofs.Loads.{array_size, Outcome, NotReached, NotTaken, Stored, outcome}
use Rattle.image.proofs.Saved.{says}
use Rattle.image.proofs.Text.{checks_at, NoneRefused, Complete, text_exactly_when, line_at_fault, no_end_exactly_when, text_passes_exactly_when}

module _ (bus : Bus) (array security : List ℕ) (k : ℕ) (buffer : List ℕ) where
  save_says : save_verdict (save bus array security k buffer).0 ≡ first_of (save_checks bus array security k buffer)
  unfolding save
  save_says = says (first_of (save_checks bus array security k buffer)) (places_of bus.chips) array k buffer

  pub save_exactly_when : (n : ℕ) → 0 < n
      → (status_of (save_verdict (save bus array security k buffer).0) ≡ n) ↔ Given (save_checks bus array security k buffer) n
  save_exactly_when n some = rw save_says (given_exactly_when (save_checks bus array security k buffer) refl n some)

  pub save_passes_exactly_when : (status_of (save_verdict (save bus array security k buffer).0) ≡ 0) ↔ NoneHolds (save_checks bus array security k buffer)
  save_passes_exactly_when = rw save_says (passed_exactly_when (save_checks bus array security k buffer))

-- checks of which none holds give no number, and of those that refuse some holds
none_given : (checks : Checks) → distinct checks ≡ true → (n : ℕ) → 0 < n → NoneHolds checks → Given checks n → ⊥
none_given checks apart n some none given = omega (arith, (given_exactly_when checks apart n some).1 given, (passed_exactly_when checks).1 none)

refused_some : (checks : Checks) (refusal : Refusal) → first_of checks ≡ Err refusal → NoneHolds checks → ⊥
refused_some checks refusal said none = false≢true (ap is_ok (sym said ∙ status_passed (first_of checks) ((passed_exactly_when checks).1 none)))

-- some record that is read gives a number, by its own first check that fails
abbrev pub SomeFails : ℕ → List ℕ → ℕ → Type 0
SomeFails size text n = (i : ℕ) × (reads_on text (reading_after size text i) ≡ true) × Given (checks_at size text (reading_after size text i)) n

module _ (bus : Bus) (array security : List ℕ) (k : ℕ) (text : List ℕ) where
  abbrev checks : Checks
  checks = chip_checks bus array security k

  abbrev size : ℕ
  size = array_size bus k

  abbrev answer : Loaded
  answer = (load bus array security k text).0

  -- what the first checks say, where they refuse; else what is said of the text
  chip_says : (refusal : Refusal) → first_of checks ≡ Err refusal → load_verdict answer ≡ Err refusal
  unfolding load
  chip_says refusal said = ap (λ (verdict : Verdict). load_verdict (load_by verdict (places_of bus.chips) array k text).0) said

  text_says : first_of checks ≡ Ok tt → load_verdict answer ≡ text_verdict size text
  text_says passes = go (outcome bus array security k text)
    where
      go : Outcome bus array security k text → load_verdict answer ≡ text_verdict size text
      go (NotReached refusal refused is) = absurd (false≢true (ap is_ok (sym refused ∙ passes)))
      go (NotTaken refusal passed said is) = ap (λ (end : Loaded × List ℕ). load_verdict end.0) is ∙ sym said
      go (Stored passed said is) = ap (λ (end : Loaded × List ℕ). load_verdict end.0) is ∙ sym said

  by_either : (n : ℕ) → 0 < n → (status_of (load_verdict answer) ≡ n) ↔ (Given checks n ⊎ (NoneHolds checks × (status_of (text_verdict size text) ≡ n)))
  by_either n some = go (first_of checks) refl
    where
      go : (verdict : Verdict) → first_of checks ≡ verdict
          → (status_of (load_verdict answer) ≡ n) ↔ (Given checks n ⊎ (NoneHolds checks × (status_of (text_verdict size text) ≡ n)))
      go (Ok tt) passes =
          let none = (passed_exactly_when checks).0 (ap status_of passes) in (
            λ gives. inr (none, sym (ap status_of (text_says passes)) ∙ gives),
            ⊎_elim (λ given. absurd (none_given checks refl n some none given)) (λ both. ap status_of (text_says passes) ∙ both.1),
          )
      go (Err refusal) said = (
        λ gives. inl ((given_exactly_when checks refl n some).0 (ap status_of said ∙ sym (ap status_of (chip_says refusal said)) ∙ gives)),
        ⊎_elim
            (λ given. ap status_of (chip_says refusal said) ∙ sym (ap status_of said) ∙ (given_exactly_when checks refl n some).1 given)
            (λ both. absurd (refused_some checks refusal said both.0)),
      )

  -- every number but 24: 10, 5 or 7 is given by the bus and the stores; or none of them is, and a record that is read fails
  pub load_exactly_when : (n : ℕ) → 0 < n → (n ≡ 24 → ⊥)
      → (status_of (load_verdict (load bus array security k text).0) ≡ n)
      ↔ (Given (chip_checks bus array security k) n ⊎ (NoneHolds (chip_checks bus array security k) × SomeFails (array_size bus k) text n))
  load_exactly_when n some other =
      let fails = text_exactly_when size text n some other in (
        λ gives. ⊎_elim inl (λ both. inr (both.0, fails.0 both.1)) ((by_either n some).0 gives),
        λ holds. (by_either n some).1 (⊎_elim inl (λ both. inr (both.0, fails.1 both.1)) holds),
      )

  -- 24: none of 10, 5 and 7, no record that is read fails, but there is no end record, or text stands behind it
  pub load_no_end_exactly_when : (status_of (load_verdict (load bus array security k text).0) ≡ 24)
      ↔ (NoneHolds (chip_checks bus array security k) × NoneRefused (array_size bus k) text × (Complete (array_size bus k) text → ⊥))
  load_no_end_exactly_when =
      let ends = no_end_exactly_when size text in (
        λ gives.
            ⊎_elim (λ given. absurd given.1.1.1) (λ both. let (none, bad) = ends.0 both.1 in (both.0, none, bad)) ((by_either 24 (omega arith)).0 gives),
        λ (first, none, bad). (by_either 24 (omega arith)).1 (inr (first, ends.1 (none, bad))),
      )

  -- 0: none of all these
  pub load_passes_exactly_when : (status_of (load_verdict (load bus array security k text).0) ≡ 0)
      ↔ (NoneHolds (chip_checks bus array security k) × NoneRefused (array_size bus k) text × Complete (array_size bus k) text)
  load_passes_exactly_when = (to (first_of checks) refl, from)
    where
      to : (verdict : Verdict) → first_of checks ≡ verdict → status_of (load_verdict answer) ≡ 0 → NoneHolds checks × NoneRefused size text × Complete size text
      to (Ok tt) passes gives =
          let (none, complete) = (text_passes_exactly_when size text).0 (sym (ap status_of (text_says passes)) ∙ gives) in
          ((passed_exactly_when checks).0 (ap status_of passes), none, complete)
      to (Err refusal) said gives = absurd (false≢true (ap is_ok (sym (chip_says refusal said) ∙ status_passed (load_verdict answer) gives)))

      from : NoneHolds checks × NoneRefused size text × Complete size text → status_of (load_verdict answer) ≡ 0
      from (first, none, complete) =
          let passes = status_passed (first_of checks) ((passed_exactly_when checks).1 first) in
          ap status_of (text_says passes) ∙ (text_passes_exactly_when size text).1 (none, complete)

-- the line that is answered: 0 where nothing of the text is at fault, else that of the record that fails, 1 for the first; and where the end
-- is missing or text stands behind it, the one after the last that was read
pub record LineOf (bus : Bus) (array security : List ℕ) (k : ℕ) (text : List ℕ) (line : ℕ) : Type 0 where
  pub passes : status_of (load_verdict (load bus array security k text).0) ≡ 0 → line ≡ 0
  pub before : (n : ℕ) → 0 < n → Given (chip_checks bus array security k) n → line ≡ 0
  pub fails : (n i : ℕ) → 0 < n → NoneHolds (chip_checks bus array security k)
      → reads_on text (reading_after (array_size bus k) text i) ≡ true
      → Given (checks_at (array_size bus k) text (reading_after (array_size bus k) text i)) n
      → line ≡ i + 1
  pub behind : status_of (load_verdict (load bus array security k text).0) ≡ 24 → line ≡ (scanned (array_size bus k) text).lines + 1

module _ (bus : Bus) (array security : List ℕ) (k : ℕ) (text : List ℕ) where
  pub load_line : LineOf bus array security k text (line_of (load bus array security k text).0)
  load_line = go (outcome bus array security k text)
    where
      go : Outcome bus array security k text → LineOf bus array security k text (line_of (load bus array security k text).0)
      go (NotReached refusal said is) =
          let none = ap (λ (end : Loaded × List ℕ). line_of end.0) is in
          record {
            passes = λ gives. none;
            before = λ n some given. none;
            fails = λ n i some first on given. absurd (refused_some (chip_checks bus array security k) refusal said first);
            behind = λ gives. absurd (refused_some (chip_checks bus array security k) refusal said ((load_no_end_exactly_when bus array security k text).0 gives).0);
          }
      go (NotTaken refusal passed said is) =
          let last = ap (λ (end : Loaded × List ℕ). line_of end.0) is in
          let verdict = ap (λ (end : Loaded × List ℕ). load_verdict end.0) is in
          let first = (passed_exactly_when (chip_checks bus array security k)).0 (ap status_of passed) in
          record {
            passes = λ gives. absurd (false≢true (ap is_ok (sym verdict ∙ status_passed (load_verdict (load bus array security k text).0) gives)));
            before = λ n some given. absurd (none_given (chip_checks bus array security k) refl n some first given);
            fails = λ n i some none on given. last ∙ ap (λ (lines : ℕ). lines + 1) (line_at_fault (array_size bus k) text i n some on given);
            behind = λ gives. last;
          }
      go (Stored passed said is) =
          let none = ap (λ (end : Loaded × List ℕ). line_of end.0) is in
          let pass = ((text_passes_exactly_when (array_size bus k) text).0 (ap status_of said)).0 in
          record {
            passes = λ gives. none;
            before = λ n some given. none;
            fails = λ n i some first on given.
                absurd (none_given (checks_at (array_size bus k) text (reading_after (array_size bus k) text i)) refl n some (pass i on) given);
            behind = λ gives. absurd (omega (arith, gives, ap (λ (end : Loaded × List ℕ). status_of (load_verdict end.0)) is));
          }
