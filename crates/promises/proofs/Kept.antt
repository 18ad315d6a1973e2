-- Every event keeps a well-formed bus well formed, and a value of its type: each chip keeps its place and stays well formed by
-- itself, and two chips stay side by side, since an event reaches both, or it names one and moves it into no chip's way.
use Prim.Native.Nat.{ℕ, ◌<◌}
use native.Mathlib.Decide.{dec_lt}
use native.Mathlib.Omega.{arith}
use mathlib.Core.Bool.{Bool, true, false, false≢true}
use mathlib.Core.List.{List}
use mathlib.Core.Path.{◌≡◌, ◌∙◌, refl, sym, ap, subst}
use lib.Dec.{eqb}
use lib.ListN.{length, set, replicate}
use Rattle.base.proofs.logic.Laws.{either}
use Rattle.base.proofs.Fold.{up_same, up_keeps, any_none}
use Rattle.base.proofs.Every.{every_of}
use Rattle.chip.specs.declared.Chip.{Chip}
use Rattle.chip.specs.declared.Stepped.{Stepped}
use Rattle.chip.specs.declared.event.Event.{Event}
use Rattle.chip.specs.declared.event.Event.TheVariants.{Start, Stop, Sent, Read, Wp, CycleOver, PowerUp}
use Rattle.chip.proofs.Typed.{ChipTyped}
use Rattle.wellformed.specs.Wellformed.{heeds_start}
use Rattle.wellformed.specs.Wellformed as alone
use Rattle.wellformed.specs.Beside.{side_by_side}
use Rattle.promises.proofs.Keeping.Wellformed.{kept}
use Rattle.promises.proofs.Keeping.Heeding.{heeds_kept}
use Rattle.promises.proofs.Keeping.Registers.{part_kept, strap_kept}
use Rattle.promises.proofs.Keeping.Typed.{chip_typed_kept, values_long_kept}
use Rattle.promises.proofs.Keeping.Beside.{names_a_chip, named_kept, side_by_side_kept, beside_sym}
use Rattle.refusal.specs.Verdict.{Verdict}
use Rattle.std.specs.Prelude.{Ok, Err}
use Rattle.refusal.specs.Checks.{first_of}
use Rattle.board.specs.Place.{nowhere, placed}
use Rattle.board.specs.Shares.{array_start, security_start}
use Rattle.decode.specs.declared.Addressed.{Addressed}
use Rattle.decode.specs.declared.Addressed.TheVariants.{ToAll, ToOne}
use Rattle.decode.specs.Decode.{kind_of, addressed_of, reaches, event_of}
use Rattle.decode.specs.Hearing.{clashes_with}
use Rattle.lineup.specs.Chips.{no_chip, chip_at, control_at, place_of, places_of}
use Rattle.line.specs.declared.Played.{Played}
use Rattle.line.specs.Line.{clash, play, chip_loads, values_after}
use Rattle.bus.specs.declared.Bus.{Bus}
use Rattle.bus.specs.Step.{entry_checks, event_checks, bus_with, remembers, step_by, played, event}
use Rattle.bus.proofs.Typed.{OfItsType, count_fits, has_four, values_typed, bus_typed, chip_typed}
use Rattle.promises.specs.Own.{own}
use Rattle.promises.specs.Playing.{Made}
use Rattle.promises.proofs.Bytes.{Brings, brings_a_byte, values_bytes}
use Rattle.promises.proofs.Chips.{each_chip_takes_its_own, the_rest_stays, stores_keep_their_length, chips_stay_four}
use Rattle.promises.proofs.Formed.{none_holds, Formed, formed_of, of_formed, unshared, EntryHolds, entry_of, of_entry}

-- checks of the line that pass find no chip that clashes
no_clash : (addressed : Addressed) (bus : Bus) (word : ℕ) → addressed ≡ addressed_of bus.started word → first_of (event_checks bus word) ≡ Ok tt → clash (event_of addressed) bus.count bus.chips ≡ false
no_clash addressed bus word is passes = rw is (none_holds (event_checks bus word) passes).1.1.1.0

-- an event that names a chip keeps the Start that is remembered
pub named_remembers : (e : Event) (started : Bool) → names_a_chip e ≡ true → remembers e started ≡ started
named_remembers Start started named = absurd (false≢true named)
named_remembers Stop started named = absurd (false≢true named)
named_remembers (Sent first byte) started named = absurd (false≢true named)
named_remembers (Read nack) started named = absurd (false≢true named)
named_remembers (Wp level) started named = refl
named_remembers CycleOver started named = refl
named_remembers PowerUp started named = absurd (false≢true named)

-- an event that names one chip is of a kind that moves it into no chip's way
abbrev Fair : Addressed → Type 0
Fair (ToAll e) = Unit {0}
Fair (ToOne k e) = names_a_chip e ≡ true

addressed_fair : (started : Bool) (word : ℕ) → Fair (addressed_of started word)
unfolding addressed_of
addressed_fair started word =
    either Fair (eqb (kind_of word) 1) _ _ tt
    (either Fair (eqb (kind_of word) 2) _ _ tt
    (either Fair (eqb (kind_of word) 3) _ _ tt
    (either Fair (eqb (kind_of word) 4) _ _ tt
    (either Fair (eqb (kind_of word) 5) _ _ refl
    (either Fair (eqb (kind_of word) 6) _ _ refl
    (either Fair (eqb (kind_of word) 7) _ _ refl tt))))))

module _ (addressed : Addressed) (count : ℕ) (chips : List Chip) (values array security : List ℕ) (four : length chips ≡ 4) (array_fits : length array ≡ array_start (places_of chips) (placed count)) (security_fits : length security ≡ security_start (places_of chips) (placed count)) where
  abbrev world : Played × List ℕ × List ℕ
  world = play addressed count chips values array security

  abbrev after : List Chip
  after = world.0.chips

  abbrev mine : Addressed → ℕ → Chip
  mine o i = (own o chips values array security i).0.chip

  takes : (i : ℕ) → i < placed count → chip_at after i ≡ mine addressed i
  takes i below = (each_chip_takes_its_own addressed count chips values array security four array_fits security_fits i below).0

  -- no chip changes its part or its strap, and those past the count stay
  own_place : (i : ℕ) → place_of (mine addressed i).control ≡ place_of (control_at chips i)
  own_place i =
      either (λ (x : Stepped × List ℕ × List ℕ). place_of x.0.chip.control ≡ place_of (control_at chips i)) (reaches addressed i) _ _
      (rw (part_kept (chip_at chips i) _ _ _ (event_of addressed), strap_kept (chip_at chips i) _ _ _ (event_of addressed)))
      refl

  place_kept : (i : ℕ) → Dec (i < placed count) → place_of (control_at after i) ≡ place_of (control_at chips i)
  place_kept i (yes p) = ap (λ (c : Chip). place_of c.control) (takes i p) ∙ own_place i
  place_kept i (no p) =
      ap (λ (c : Chip). place_of c.control) (the_rest_stays addressed count chips values array security four array_fits security_fits i (omega arith))

  pub places_stay : places_of after ≡ places_of chips
  unfolding places_of
  places_stay = up_same _ _ 4 (λ i places below. ap (set places i) (place_kept i (dec_lt i (placed count)))) (replicate 4 nowhere)

  -- an event that names a chip keeps every chip beside any other, whether it reaches it or not
  one_kept : (k : ℕ) (e : Event) → names_a_chip e ≡ true → (i : ℕ) (d : Chip) → side_by_side (control_at chips i) d.control ≡ true
      → side_by_side (mine (ToOne k e) i).control d.control ≡ true
  one_kept k e named i d test =
      either (λ (x : Stepped × List ℕ × List ℕ). side_by_side x.0.chip.control d.control ≡ true) (eqb i k) _ _
      (named_kept (chip_at chips i) d _ _ _ e named test)
      test

  calm_at : (e : Event) → clash e count chips ≡ false → (i : ℕ) → i < placed count → clashes_with e (control_at chips i).phase ≡ false
  calm_at e calm i below = any_none (λ (i : ℕ). clashes_with e (control_at chips i).phase) (placed count) i calm below

  module _ (started : Bool) (formed : Formed count started chips) where
    fit_now : (i : ℕ) → i < placed count → alone.well_formed (mine addressed i) ≡ true
    fit_now i below =
        either (λ (x : Stepped × List ℕ × List ℕ). alone.well_formed x.0.chip ≡ true) (reaches addressed i) _ _
        (kept (chip_at chips i) _ _ _ (event_of addressed) (formed.fit i below))
        (formed.fit i below)

    -- an event to all moves both chips at once; one that names a chip moves them one after the other
    apart_now : (o : Addressed) → Fair o → (i j : ℕ) → i < placed count → j < i → side_by_side (mine o i).control (mine o j).control ≡ true
    apart_now (ToAll e) fair i j below before =
        side_by_side_kept (chip_at chips i) (chip_at chips j) _ _ _ _ _ _ e (formed.fit i below) (formed.fit j (omega arith))
        (unshared formed i j below before)
        (formed.apart i j below before)
    apart_now (ToOne k e) fair i j below before =
        let c = mine (ToOne k e) i in
        beside_sym (mine (ToOne k e) j).control c.control
        (one_kept k e fair j c
        (beside_sym c.control (control_at chips j) (one_kept k e fair i (chip_at chips j) (formed.apart i j below before))))

    -- where no chip clashes with the event, each keeps step with what the line remembers; a chip that is not named stays, and so does the Start
    heed_now : (o : Addressed) → Fair o → clash (event_of o) count chips ≡ false → (i : ℕ) → i < placed count → heeds_start (remembers (event_of o) started) (mine o i).control.phase ≡ true
    heed_now (ToAll e) fair calm i below = heeds_kept (chip_at chips i) _ _ _ started (formed.heed i below) e (calm_at e calm i below)
    heed_now (ToOne k e) fair calm i below =
        either (λ (x : Stepped × List ℕ × List ℕ). heeds_start (remembers e started) x.0.chip.control.phase ≡ true) (eqb i k) _ _
        (heeds_kept (chip_at chips i) _ _ _ started (formed.heed i below) e (calm_at e calm i below))
        (rw (named_remembers e started fair) (formed.heed i below))

    -- an event that is not refused
    formed_kept : Fair addressed → clash (event_of addressed) count chips ≡ false → Formed count (remembers (event_of addressed) started) after
    formed_kept fair calm =
        record {
          set_up_lem = rw places_stay formed.set_up_lem;
          fit = λ i below. rw (takes i below) (fit_now i below);
          apart = λ i j below before. rw (control_at, takes i below, takes j (omega arith)) (apart_now addressed fair i j below before);
          heed = λ i below. rw (control_at, takes i below) (heed_now addressed fair calm i below);
        }

    entry_holds_still : Fair addressed → clash (event_of addressed) count chips ≡ false
        → EntryHolds (bus_with count (remembers (event_of addressed) started) after (values_after addressed count chips values)) world.1 world.2
    entry_holds_still fair calm =
        let (array_long, security_long) = stores_keep_their_length addressed count chips values array security four array_fits security_fits in
        (of_formed count _ after (formed_kept fair calm), rw places_stay (array_long ∙ array_fits), rw places_stay (security_long ∙ security_fits))

    -- and a value of its type, where it was one
    typed_now : Brings addressed → ((i : ℕ) → i < 4 → ChipTyped (chip_at chips i)) → (i : ℕ) → i < 4 → ChipTyped (chip_at after i)
    typed_now brought typed i below = go (dec_lt i (placed count))
      where
        go : Dec (i < placed count) → ChipTyped (chip_at after i)
        go (yes p) =
            subst ChipTyped (sym (takes i p))
            (either (λ (x : Stepped × List ℕ × List ℕ). ChipTyped x.0.chip) (reaches addressed i) _ _
            (chip_typed_kept (chip_at chips i) _ _ _ (event_of addressed) brought (formed.fit i p) (typed i below))
            (typed i below))
        go (no p) = subst ChipTyped (sym (the_rest_stays addressed count chips values array security four array_fits security_fits i (omega arith))) (typed i below)

-- and so do the values of the line
values_long_still : (addressed : Addressed) (count : ℕ) (chips : List Chip) (values : List ℕ) → length values ≡ 256 → length (values_after addressed count chips values) ≡ 256
unfolding values_after
values_long_still addressed count chips values =
    up_keeps (chip_loads addressed chips) (λ (now : List ℕ). length now ≡ 256)
    (λ i now long. either (λ (next : List ℕ). length next ≡ 256) (reaches addressed i) _ now (values_long_kept (chip_at chips i) now (event_of addressed) long) long)
    (placed count) values

-- what an event leaves: a bus that passes the checks at entry, of its type, with the same places and as many chips
pub record Kept (bus : Bus) (next : Made) : Type 0 where
  pub enters : first_of (entry_checks next.0.bus next.1 next.2) ≡ Ok tt
  pub typed : OfItsType next.0.bus
  pub places : places_of next.0.bus.chips ≡ places_of bus.chips
  pub count : next.0.bus.count ≡ bus.count

-- one that is played keeps all of it, and one that is refused leaves everything
pub event_keeps : (bus : Bus) (array security : List ℕ) (word : ℕ) → OfItsType bus → first_of (entry_checks bus array security) ≡ Ok tt → Kept bus (event bus array security word)
unfolding event played
event_keeps bus array security word typed passed = go (first_of (event_checks bus word)) refl
  where
    go : (verdict : Verdict) → first_of (event_checks bus word) ≡ verdict → Kept bus (step_by verdict bus array security word)
    go (Ok tt) passes =
        let (formed, array_fits, security_fits) = entry_of bus array security passed in
        let addressed = addressed_of bus.started word in
        let next = played addressed bus array security in
        let four = has_four typed in
        let clauses = formed_of bus.count bus.started bus.chips formed in
        let ready = entry_holds_still addressed bus.count bus.chips bus.values array security four array_fits security_fits bus.started clauses (addressed_fair bus.started word) (no_clash addressed bus word refl passes) in
        let stays_four = chips_stay_four addressed bus.count bus.chips bus.values array security four array_fits security_fits in
        let each = typed_now addressed bus.count bus.chips bus.values array security four array_fits security_fits bus.started clauses (brings_a_byte bus.started word) (chip_typed typed) in
        record {
          enters = of_entry next.0.bus next.1 next.2 ready;
          typed = bus_typed bus.count next.0.bus.started next.0.bus.chips next.0.bus.values (count_fits typed) stays_four
              (every_of ChipTyped next.0.bus.chips no_chip (λ i below. each i (omega (arith, below, stays_four))))
              (record {
                long = values_long_still addressed bus.count bus.chips bus.values (values_typed typed).long;
                bytes = values_bytes addressed bus.count bus.chips bus.values (brings_a_byte bus.started word) (values_typed typed).bytes;
              });
          places = places_stay addressed bus.count bus.chips bus.values array security four array_fits security_fits;
          count = refl;
        }
    go (Err refusal) is = record { enters = passed; typed = typed; places = refl; count = refl }
