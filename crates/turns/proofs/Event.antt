-- One event of chip k's turn, on the line and renamed on a line of k alone. Where no other chip clashes with it, it is refused on both,
-- with the same number, or on neither; k takes it alike; and where no other chip says anything, the answers are the same.
use Prim.Native.Nat.{ℕ, zero, suc, ◌<◌}
use native.Mathlib.Decide.{dec_lt}
use native.Mathlib.Omega.{arith}
use mathlib.Core.Bool.{Bool, true, false, cond, ◌||◌, or-false}
use mathlib.Core.List.{List, [], ◌∷◌}
use mathlib.Core.Path.{◌≡◌, ◌∙◌, refl, sym, ap}
use borrow.Author.Tests.{eqb-true, not-true, not-false}
use Rattle.base.specs.Fold.{up_to}
use Rattle.base.specs.Word.{word_of}
use Rattle.base.proofs.Fold.{any_one, up_keeps_below}
use Rattle.load.specs.Load.{no_values}
use Rattle.control.specs.declared.Said.{Said}
use Rattle.control.specs.declared.Said.TheVariants.{Nothing}
use Rattle.chip.specs.declared.Chip.{Chip}
use Rattle.chip.specs.declared.Stepped as chips_own
use Rattle.chip.specs.Chip as chip
use Rattle.chip.specs.declared.event.Event.{Event}
use Rattle.refusal.specs.declared.Refusal.{Refusal}
use Rattle.refusal.specs.declared.Refusal.TheVariants.{NotBusy, Clash}
use Rattle.refusal.specs.Verdict.{Verdict}
use Rattle.std.specs.Prelude.{Ok, Err}
use Rattle.refusal.specs.Refusal.{answer_word}
use Rattle.refusal.specs.Checks.{first_of}
use Rattle.board.specs.Place.{placed}
use Rattle.decode.specs.declared.Addressed.{Addressed}
use Rattle.decode.specs.declared.Addressed.TheVariants.{ToAll, ToOne}
use Rattle.decode.specs.Decode.{reaches, event_of}
use Rattle.decode.specs.Hearing.{lacks_cycle, clashes_with}
use Rattle.lineup.specs.Chips.{chip_at, control_at}
use Rattle.line.specs.Line.{not_busy, clash, play, chip_loads, values_after, line_reply}
use Rattle.bus.specs.Step.{bus_with, remembers, refused, played, step}
use Rattle.bus.proofs.Entry.{Entered, entered}
use Rattle.bus.proofs.Typed.{has_four}
use Rattle.promises.specs.Own.{own}
use Rattle.promises.specs.Playing.{World, Made, stepped, led_to, after_one, answer_to}
use Rattle.promises.proofs.Chips.{answer_is_gathered}
use Rattle.promises.proofs.Replies.{after_silence, one_speaks}
use Rattle.promises.proofs.Keeping.Values.{load_begins}
use Rattle.turns.specs.Idle.{is_loading}
use Rattle.turns.specs.Seen.{seen}
use Rattle.turns.specs.Alone.{alone, renamed, only_chips}
use Rattle.turns.proofs.Asked.{only, Asked}
use Rattle.turns.proofs.Alone.{alone_plays, held_same, alone_seen, shares_fit, alone_enters}
use Rattle.turns.proofs.Typed.{alone_typed}
use Rattle.turns.proofs.Entering.{Entering}
use Rattle.turns.proofs.Stepping.{line_verdict, to_all_passes, step_refused, step_plays, each_moves}

event_only : (addressed : Addressed) → event_of (only addressed) ≡ event_of addressed
event_only (ToAll event) = refl
event_only (ToOne named event) = refl

reaches_only : (addressed : Addressed) → reaches (only addressed) 0 ≡ true
reaches_only (ToAll event) = refl
reaches_only (ToOne named event) = refl

-- a loop of which every iteration but one does nothing
one_iterates : {A : Type 0} (f : ℕ → A → A) (n k : ℕ) → k < n → ((j : ℕ) → j < n → (j ≡ k → ⊥) → (x : A) → f j x ≡ x) → (a : A) → up_to f n a ≡ f k a
unfolding up_to
one_iterates f zero k below others a = absurd (omega arith)
one_iterates f (suc n) k below others a = go (dec_lt k n) (λ (p : k < n). one_iterates f n k p (λ j before. others j (omega arith)) a)
  where
    go : Dec (k < n) → (k < n → up_to f n a ≡ f k a) → f n (up_to f n a) ≡ f k a
    go (yes p) earlier = others n (omega arith) (λ (is : n ≡ k). absurd (omega arith)) _ ∙ earlier p
    go (no p) earlier =
        let last : n ≡ k = omega arith in
        ap (f n) (up_keeps_below f (λ x. x ≡ a) n (λ j x before same. others j (omega arith) (λ (is : j ≡ k). absurd (omega arith)) x ∙ same) a refl)
        ∙ ap (λ (i : ℕ). f i a) last

-- alone, an event to all is refused only where it clashes with the chip
pub calm_alone : (k : ℕ) (world : World) (event : Event) → clashes_with event (control_at world.0.chips k).phase ≡ false → line_verdict (ToAll event) (alone k world) ≡ Ok tt
unfolding up_to
calm_alone k world event calm = to_all_passes (alone k world) event (or-false _ ∙ calm)

module _ (world : World) (e : Entering world) (k : ℕ) (below : k < world.0.count) (word : ℕ) (addressed : Addressed) (asked : Asked world.0.started world.0.count word addressed) (reached : reaches addressed k ≡ true) (unclashing : (j : ℕ) → j < world.0.count → (j ≡ k → ⊥) → clashes_with (event_of addressed) (control_at world.0.chips j).phase ≡ false) where
  abbrev count : ℕ
  count = world.0.count

  abbrev chips : List Chip
  chips = world.0.chips

  abbrev c : Chip
  c = chip_at chips k

  abbrev taken : chips_own.Stepped × List ℕ × List ℕ
  taken = chip.step c world.0.values (alone k world).1 (alone k world).2 (event_of addressed)

  entry : Entered world.0 world.1 world.2
  entry = entered world.0 world.1 world.2 e.enters

  pub by_itself : Entering (alone k world)
  by_itself = record { typed = alone_typed world k (omega (arith, below, entry.chips_most)) e.typed; enters = alone_enters world e.enters k below }

  -- refusal 12 is that of the chip named, which is k
  not_busy_alone : not_busy (only addressed) (only_chips c) ≡ not_busy addressed chips
  not_busy_alone = go addressed reached
    where
      go : (a : Addressed) → reaches a k ≡ true → not_busy (only a) (only_chips c) ≡ not_busy a chips
      go (ToAll event) is = refl
      go (ToOne named event) is = ap (λ (i : ℕ). lacks_cycle event (control_at chips i).phase) (eqb-true k named is)

  -- refusal 8 is k's, since no other clashes
  clash_is_its_own : clash (event_of addressed) count chips ≡ clashes_with (event_of addressed) (control_at chips k).phase
  clash_is_its_own =
      any_one (λ (i : ℕ). clashes_with (event_of addressed) (control_at chips i).phase) (placed count) k (omega (arith, entry.all_placed))
      (λ j before. unclashing j (omega (arith, entry.all_placed)))

  clash_alone : clash (event_of (only addressed)) 1 (only_chips c) ≡ clash (event_of addressed) count chips
  unfolding up_to
  clash_alone = rw (event_only addressed) (or-false _ ∙ sym clash_is_its_own)

  -- so the line says of it what it says of k alone
  pub verdict_is_its_own : line_verdict addressed world ≡ line_verdict (only addressed) (alone k world)
  verdict_is_its_own =
      ap (λ (free : Bool). first_of ((free, NotBusy) ∷ (clash (event_of addressed) count chips, Clash) ∷ [])) (sym not_busy_alone)
      ∙ ap (λ (clashes : Bool). first_of ((not_busy (only addressed) (only_chips c), NotBusy) ∷ (clashes, Clash) ∷ [])) (sym clash_alone)

  -- and what is the same of both refused, and of both played, is the same of both
  both_step : {A : Type 0} (f g : Made → A)
      → ((refusal : Refusal) → f (refused refusal world.0 world.1 world.2) ≡ g (refused refusal (alone k world).0 (alone k world).1 (alone k world).2))
      → (line_verdict addressed world ≡ Ok tt
      → f (played addressed world.0 world.1 world.2) ≡ g (played (only addressed) (alone k world).0 (alone k world).1 (alone k world).2))
      → f (stepped step world word) ≡ g (stepped step (alone k world) (renamed word))
  both_step {A} f g refusing playing = go (line_verdict addressed world) refl
    where
      go : (v : Verdict) → line_verdict addressed world ≡ v → f (stepped step world word) ≡ g (stepped step (alone k world) (renamed word))
      go (Err refusal) is =
          ap f (step_refused world word addressed e asked.0 refusal is)
          ∙ refusing refusal
          ∙ sym (ap g (step_refused (alone k world) (renamed word) (only addressed) by_itself asked.1 refusal (sym verdict_is_its_own ∙ is)))
      go (Ok tt) is =
          ap f (step_plays world word addressed e asked.0 is)
          ∙ playing is
          ∙ sym (ap g (step_plays (alone k world) (renamed word) (only addressed) by_itself asked.1 (sym verdict_is_its_own ∙ is)))

  -- the values that k has alone
  abbrev held : List ℕ
  held = (alone k world).0.values

  -- played alone, k has made its own step
  alone_played : play (only addressed) 1 (only_chips c) held (alone k world).1 (alone k world).2 ≡ (record { chips = only_chips taken.0.chip; said = taken.0.said }, taken.1, taken.2)
  alone_played =
      alone_plays (only addressed) c held (alone k world).1 (alone k world).2 (shares_fit world e.enters k below) (reaches_only addressed)
      ∙ rw (event_only addressed, held_same c world.0.values (alone k world).1 (alone k world).2 (event_of addressed), after_silence taken.0.said)

  -- where no other chip loads anything, k's load is its own
  module _ (unloading : (j : ℕ) → j < world.0.count → (j ≡ k → ⊥) → (values : List ℕ) → chip_loads addressed world.0.chips j values ≡ values) where
    loads_alone : values_after addressed count chips world.0.values ≡ chip.values_after c (event_of addressed) world.0.values
    unfolding values_after
    loads_alone =
        one_iterates (chip_loads addressed chips) (placed count) k (omega (arith, entry.all_placed)) (λ j before differ. unloading j (omega (arith, entry.all_placed)) differ) world.0.values
        ∙ rw reached

    own_load : (loading : Bool) → is_loading taken.0.chip ≡ loading
        → cond loading (values_after addressed count chips world.0.values) no_values ≡ cond (loading || false) (values_after (only addressed) 1 (only_chips c) held) no_values
    unfolding values_after up_to
    own_load true is = loads_alone ∙ go (is_loading c) refl ∙ rw (reaches_only addressed, event_only addressed)
      where
        go : (loading : Bool) → is_loading c ≡ loading → chip.values_after c (event_of addressed) world.0.values ≡ chip.values_after c (event_of addressed) (cond loading world.0.values no_values)
        go true was = refl
        go false was = load_begins c world.0.values no_values (alone k world).1 (alone k world).2 (event_of addressed) (not-false _ was) (not-true _ is)
    own_load false is = refl

    pub alone_moves : alone k (after_one step world word) ≡ seen (after_one step (alone k world) (renamed word))
    unfolding played up_to
    alone_moves =
        both_step (λ next. alone k (led_to next)) (λ next. seen (led_to next)) (λ refusal. sym (alone_seen k world)) λ is.
        sym (ap (λ next. alone k (led_to next)) (step_plays world word addressed e asked.0 is))
        ∙ each_moves world word addressed e asked.0 is k below
        ∙ rw (reached, alone_played, event_only addressed) (ap (λ (values : List ℕ). (bus_with 1 (remembers (event_of addressed) world.0.started) (only_chips taken.0.chip) values, taken.1, taken.2)) (own_load (is_loading taken.0.chip) refl))

  -- where no other chip says anything, k is heard
  pub answers_alike : ((j : ℕ) → j < world.0.count → (j ≡ k → ⊥) → (own addressed world.0.chips world.0.values world.1 world.2 j).0.said ≡ Nothing)
      → answer_to step world word ≡ answer_to step (alone k world) (renamed word)
  unfolding played
  answers_alike silent =
      both_step (λ next. answer_word next.0.answer) (λ next. answer_word next.0.answer) (λ refusal. refl) λ is.
      ap (λ (said : Said). word_of 0 (line_reply (event_of addressed) said)) heard_alone ∙ rw (event_only addressed, alone_played)
    where
      heard_alone : (play addressed count chips world.0.values world.1 world.2).0.said ≡ taken.0.said
      heard_alone =
          answer_is_gathered addressed count chips world.0.values world.1 world.2 (has_four e.typed) entry.array_fits entry.security_fits
          ∙ one_speaks (λ (i : ℕ). (own addressed chips world.0.values world.1 world.2 i).0.said) (placed count) k (omega (arith, entry.all_placed))
          (λ j before differ. silent j (omega (arith, entry.all_placed)) differ)
          ∙ rw reached
