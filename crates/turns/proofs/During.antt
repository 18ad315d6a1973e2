-- A turn of chip k in progress. The other chips are as they were when it began, but that they hear a Start and F8h and await the byte that
-- follows at once; an event of the turn moves k as it moves it alone on the line. A Start is remembered until that byte has come.
use Prim.Native.Nat.{ℕ, zero, suc, ◌<◌, ◌≤◌}
use native.Mathlib.Omega.{arith}
use mathlib.Core.Bool.{Bool, true, false, cond, ◌&&◌, true≢false}
use mathlib.Core.List.{List, [], ◌∷◌, map}
use mathlib.Core.Path.{◌≡◌, ◌∙◌, refl, sym, ap, subst}
use lib.ListN.{get_or}
use borrow.Author.Tests.{not-false}
use Rattle.load.specs.Span.{is_empty}
use Rattle.load.specs.Load.{no_values}
use Rattle.control.specs.declared.Said.{Said}
use Rattle.control.specs.declared.Said.TheVariants.{Nothing}
use Rattle.control.specs.declared.phase.Phase.{Phase}
use Rattle.control.specs.Phase.{is_sending}
use Rattle.chip.specs.declared.Chip.{Chip}
use Rattle.chip.specs.declared.Stepped.{Stepped}
use Rattle.chip.specs.Chip.{quiet}
use Rattle.chip.specs.Chip as chip
use Rattle.refusal.specs.declared.Refusal.{Refusal}
use Rattle.refusal.specs.Verdict.{Verdict}
use Rattle.std.specs.Prelude.{Ok, Err}
use Rattle.std.specs.Result.{is_ok}
use Rattle.decode.specs.declared.Addressed.{Addressed}
use Rattle.decode.specs.Decode.{reaches, event_of}
use Rattle.decode.specs.Hearing.{clashes_with}
use Rattle.lineup.specs.Chips.{chip_at, control_at, places_of}
use Rattle.line.specs.Line.{chip_loads, values_after}
use Rattle.bus.specs.declared.Bus.{Bus}
use Rattle.bus.specs.Step.{remembers, step}
use Rattle.promises.specs.Own.{own}
use Rattle.promises.specs.Playing.{World, led_to, after_one, answer_to, after, answers_to}
use Rattle.promises.proofs.Keeping.Values.{unloaded_blind, no_load_no_values}
use Rattle.turns.specs.Idle.{is_loading, is_at_rest}
use Rattle.turns.specs.Seen.{seen}
use Rattle.turns.specs.Turn.{is_start, is_f8, Next, Anything, AddressByte, ChoiceByte}
use Rattle.turns.specs.Shuffle.{is_excepted}
use Rattle.turns.specs.Alone.{alone, renamed, only_bus}
use Rattle.turns.proofs.Asked.{only, Asked}
use Rattle.turns.proofs.Entering.{Entering, entering_kept}
use Rattle.turns.proofs.Seen.{never_seen}
use Rattle.turns.proofs.Alone.{held_same, only_unloaded, alone_seen}
use Rattle.turns.proofs.Stepping.{line_verdict, step_refused, count_kept, board_kept, rest_kept, each_moves}
use Rattle.turns.proofs.Event.{by_itself, verdict_is_its_own, alone_moves, answers_alike}
use Rattle.turns.proofs.Bystander.{while_anothers_turn}
use Rattle.turns.proofs.Resting.{is_heeding}

-- where a byte must follow at once, chip k does not send
abbrev pub Heeds : Next → Phase → Type 0
Heeds Anything phase = Unit {0}
Heeds AddressByte phase = is_heeding phase ≡ true
Heeds ChoiceByte phase = is_sending phase ≡ false

-- a Start is remembered where the byte that follows it at once has not come yet
abbrev pub started_at : Next → Bool
started_at Anything = false
started_at AddressByte = true
started_at ChoiceByte = false

pub record During (k : ℕ) (next : Next) (began now : World) : Type 0 where
  pub entering : Entering now
  pub count : now.0.count ≡ began.0.count
  pub board : places_of now.0.chips ≡ places_of began.0.chips
  pub rest : (i : ℕ) → began.0.count ≤ i → chip_at now.0.chips i ≡ chip_at began.0.chips i
  pub started : now.0.started ≡ started_at next
  pub heeds : Heeds next (control_at now.0.chips k).phase
  pub others : (j : ℕ) → j < began.0.count → (j ≡ k → ⊥)
      → alone j now ≡ (only_bus (started_at next) (while_anothers_turn next (chip_at began.0.chips j)) no_values, (alone j began).1, (alone j began).2)

-- which answer to the rest of a turn is excepted; `started` says whether a Start has come just before
abbrev pub excepted : Bool → List ℕ → ℕ → Bool
excepted started events zero = started && is_f8 (get_or events 0 0)
excepted started events (suc i) = is_excepted events (suc i)

-- where the rest of a turn leads, from where it is now
pub record Went (k : ℕ) (started : Bool) (events : List ℕ) (began now : World) : Type 0 where
  pub ended : During k Anything began (after step now events)
  pub rests : is_at_rest (chip_at (after step now events).0.chips k) ≡ true
  pub moves : alone k (after step now events) ≡ seen (after step (alone k now) (map renamed events))
  pub answers : (i : ℕ) → excepted started events i ≡ false
      → get_or (answers_to step now events) i 0 ≡ get_or (answers_to step (alone k now) (map renamed events)) i 0

-- one event, and the rest
went_on : (k : ℕ) (started : Bool) (word : ℕ) (more : List ℕ) (began now : World) → Entering (alone k now)
    → alone k (after_one step now word) ≡ seen (after_one step (alone k now) (renamed word))
    → ((started && is_f8 word) ≡ false → answer_to step now word ≡ answer_to step (alone k now) (renamed word))
    → Went k (is_start word) more began (after_one step now word)
    → Went k started (word ∷ more) began now
unfolding after answers_to
went_on k started word more began now by_itself moves answer later =
    record {
      ended = later.ended;
      rests = later.rests;
      moves = later.moves ∙ ap (λ (w : World). seen (after step w (map renamed more))) moves ∙ unseen.1;
      answers = answers;
    }
  where
    -- k alone goes on as if it had no other values
    unseen : let next = after_one step (alone k now) (renamed word) in
        (answers_to step (seen next) (map renamed more) ≡ answers_to step next (map renamed more))
        × (seen (after step (seen next) (map renamed more)) ≡ seen (after step next (map renamed more)))
    unseen = never_seen (map renamed more) (after_one step (alone k now) (renamed word)) (entering_kept (alone k now) (renamed word) by_itself)

    moved : (i : ℕ) → excepted (is_start word) more i ≡ false
        → get_or (answers_to step (after_one step now word) more) i 0 ≡ get_or (answers_to step (after_one step (alone k now) (renamed word)) (map renamed more)) i 0
    moved i usual =
        later.answers i usual
        ∙ ap (λ (w : World). get_or (answers_to step w (map renamed more)) i 0) moves
        ∙ ap (λ (answers : List ℕ). get_or answers i 0) unseen.0

    answers : (i : ℕ) → excepted started (word ∷ more) i ≡ false
        → get_or (answers_to step now (word ∷ more)) i 0 ≡ get_or (answers_to step (alone k now) (map renamed (word ∷ more))) i 0
    answers zero usual = answer usual
    answers (suc zero) usual = moved zero usual
    answers (suc (suc i)) usual = moved (suc i) usual

-- what chip j makes of an event, of its own world
abbrev pub takes : Addressed → ℕ → World → Stepped × List ℕ × List ℕ
takes addressed j world =
    cond (reaches addressed j) (chip.step (chip_at world.0.chips 0) world.0.values world.1 world.2 (event_of addressed)) (quiet (chip_at world.0.chips 0), world.1, world.2)

-- another chip sits through an event of the turn
abbrev pub SitsThrough : Addressed → Next → Next → (Chip → Said) → ℕ → World → Type 0
SitsThrough addressed next next' says j began =
    let c = chip_at began.0.chips j in
    (clashes_with (event_of addressed) (while_anothers_turn next c).control.phase ≡ false)
    × (takes addressed j (only_bus (started_at next) (while_anothers_turn next c) no_values, (alone j began).1, (alone j began).2) ≡ (record { chip = while_anothers_turn next' c; said = says c }, (alone j began).1, (alone j began).2))
    × ((n : Next) → is_loading (while_anothers_turn n c) ≡ false)

-- an event of the turn, which the others sit through, and after which a Start is remembered or not as what must come next has it
module _ (k : ℕ) (next next' : Next) (began now : World) (below : k < began.0.count) (d : During k next began now) (word : ℕ) (addressed : Addressed) (asked : Asked (started_at next) now.0.count word addressed) (reached : reaches addressed k ≡ true) (remembered : remembers (event_of addressed) (started_at next) ≡ started_at next') (says : Chip → Said)
    (sit : (j : ℕ) → j < began.0.count → (j ≡ k → ⊥) → SitsThrough addressed next next' says j began) where
  abbrev chips : List Chip
  chips = now.0.chips

  -- what refuses it is k's own
  abbrev own_verdict : Verdict
  own_verdict = line_verdict (only addressed) (alone k now)

  abbrev taken : Stepped × List ℕ × List ℕ
  taken = chip.step (chip_at chips k) now.0.values (alone k now).1 (alone k now).2 (event_of addressed)

  below_now : k < now.0.count
  below_now = omega (arith, below, d.count)

  asked_now : Asked now.0.started now.0.count word addressed
  asked_now = rw d.started asked

  remembered_now : remembers (event_of addressed) now.0.started ≡ started_at next'
  remembered_now = ap (remembers (event_of addressed)) d.started ∙ remembered

  unclashing : (j : ℕ) → j < now.0.count → (j ≡ k → ⊥) → clashes_with (event_of addressed) (control_at chips j).phase ≡ false
  unclashing j before differ =
      let there : j < began.0.count = omega (arith, before, d.count) in
      ap (λ (w : World). clashes_with (event_of addressed) (control_at w.0.chips 0).phase) (d.others j there differ) ∙ (sit j there differ).0

  -- what another chip has made of it
  sat : (j : ℕ) → j < began.0.count → (j ≡ k → ⊥)
      → own addressed chips now.0.values now.1 now.2 j ≡ (record { chip = while_anothers_turn next' (chip_at began.0.chips j); said = says (chip_at began.0.chips j) }, (alone j began).1, (alone j began).2)
  sat j before differ =
      ap (λ (next : Stepped × List ℕ × List ℕ). cond (reaches addressed j) next (quiet (chip_at chips j), (alone j now).1, (alone j now).2))
      (sym (held_same (chip_at chips j) now.0.values (alone j now).1 (alone j now).2 (event_of addressed)))
      ∙ ap (takes addressed j) (d.others j before differ)
      ∙ (sit j before differ).1

  -- and it has loaded nothing
  unloading : (j : ℕ) → j < now.0.count → (j ≡ k → ⊥) → (values : List ℕ) → chip_loads addressed now.0.chips j values ≡ values
  unloading j before differ values = go (reaches addressed j) (ap (λ (x : Stepped × List ℕ × List ℕ). is_loading x.0.chip) (sat j there differ) ∙ (sit j there differ).2 next')
    where
      there : j < began.0.count
      there = omega (arith, before, d.count)

      empty : is_empty (chip_at chips j).span ≡ true
      empty = not-false _ (ap (λ (w : World). is_loading (chip_at w.0.chips 0)) (d.others j there differ) ∙ (sit j there differ).2 next)

      go : (reached : Bool) → is_loading (cond reached (chip.step (chip_at chips j) now.0.values (alone j now).1 (alone j now).2 (event_of addressed)) (quiet (chip_at chips j), (alone j now).1, (alone j now).2)).0.chip ≡ false
          → cond reached (chip.values_after (chip_at chips j) (event_of addressed) values) values ≡ values
      go true is =
          no_load_no_values (chip_at chips j) values (alone j now).1 (alone j now).2 (event_of addressed) empty
          (rw (unloaded_blind (chip_at chips j) values now.0.values (alone j now).1 (alone j now).2 (event_of addressed) empty) (not-false _ is))
      go false is = refl

  turn_verdict : line_verdict addressed now ≡ own_verdict
  turn_verdict = verdict_is_its_own now d.entering k below_now word addressed asked_now reached unclashing

  stays_as_it_is : (refusal : Refusal) → line_verdict addressed now ≡ Err refusal → after_one step now word ≡ now
  stays_as_it_is refusal is = ap led_to (step_refused now word addressed d.entering asked_now.0 refusal is)

  -- k itself has made its own step
  turn_taken : line_verdict addressed now ≡ Ok tt → chip_at (after_one step now word).0.chips k ≡ taken.0.chip
  turn_taken is =
      ap (λ (w : World). chip_at w.0.chips 0) (each_moves now word addressed d.entering asked_now.0 is k below_now) ∙ rw reached

  -- it may be refused only where the next event may be anything
  turn_goes_on : ((refusal : Refusal) → own_verdict ≡ Err refusal → next ≡ next') → Heeds next' taken.0.chip.control.phase → During k next' began (after_one step now word)
  turn_goes_on refusable heeding = go (line_verdict addressed now) refl
    where
      go : (v : Verdict) → line_verdict addressed now ≡ v → During k next' began (after_one step now word)
      go (Err refusal) is =
          subst (λ (n : Next). During k n began (after_one step now word)) (refusable refusal (sym turn_verdict ∙ is))
          (subst (λ (w : World). During k next began w) (sym (stays_as_it_is refusal is)) d)
      go (Ok tt) is =
          record {
            entering = entering_kept now word d.entering;
            count = count_kept now word addressed d.entering asked_now.0 ∙ d.count;
            board = board_kept now word addressed d.entering asked_now.0 ∙ d.board;
            rest = λ i past. rest_kept now word addressed d.entering asked_now.0 i (omega (arith, past, d.count)) ∙ d.rest i past;
            started = ap (λ (w : World). w.0.started) (each_moves now word addressed d.entering asked_now.0 is k below_now) ∙ remembered_now;
            heeds = subst (λ (c : Chip). Heeds next' c.control.phase) (sym (turn_taken is)) heeding;
            others = λ j before differ.
                each_moves now word addressed d.entering asked_now.0 is j (omega (arith, before, d.count))
                ∙ ap (λ (x : Stepped × List ℕ × List ℕ). (only_bus (remembers (event_of addressed) now.0.started) x.0.chip (values_after addressed now.0.count now.0.chips now.0.values), x.1, x.2)) (sat j before differ)
                ∙ ap (λ (bus : Bus). (bus, (alone j began).1, (alone j began).2)) (only_unloaded _ _ _ ((sit j before differ).2 next'))
                ∙ ap (λ (started : Bool). (only_bus started (while_anothers_turn next' (chip_at began.0.chips j)) no_values, (alone j began).1, (alone j began).2)) remembered_now;
          }

  -- k is at rest where it was so and the event is refused, or its own step leaves it so
  turn_rests : ((refusal : Refusal) → own_verdict ≡ Err refusal → is_at_rest (chip_at chips k) ≡ true) → is_at_rest taken.0.chip ≡ true → is_at_rest (chip_at (after_one step now word).0.chips k) ≡ true
  turn_rests stays moves = go (line_verdict addressed now) refl
    where
      go : (v : Verdict) → line_verdict addressed now ≡ v → is_at_rest (chip_at (after_one step now word).0.chips k) ≡ true
      go (Err refusal) is = subst (λ (w : World). is_at_rest (chip_at w.0.chips k) ≡ true) (sym (stays_as_it_is refusal is)) (stays refusal (sym turn_verdict ∙ is))
      go (Ok tt) is = subst (λ (c : Chip). is_at_rest c ≡ true) (sym (turn_taken is)) moves

  module _ (started : Bool) (usual : (started && is_f8 word) ≡ false → (c : Chip) → says c ≡ Nothing) where
    pub event_goes : (more : List ℕ)
        → (During k next' began (after_one step now word) → Went k (is_start word) more began (after_one step now word))
        → ((refusal : Refusal) → line_verdict (only addressed) (alone k now) ≡ Err refusal → next ≡ next')
        → Heeds next' (chip.step (chip_at now.0.chips k) now.0.values (alone k now).1 (alone k now).2 (event_of addressed)).0.chip.control.phase
        → Went k started (word ∷ more) began now
    event_goes more later refusable heeding =
        went_on k started word more began now
        (by_itself now d.entering k below_now word addressed asked_now reached unclashing)
        (alone_moves now d.entering k below_now word addressed asked_now reached unclashing unloading)
        (λ none. answers_alike now d.entering k below_now word addressed asked_now reached unclashing λ j before differ.
        ap (λ (x : Stepped × List ℕ × List ℕ). x.0.said) (sat j (omega (arith, before, d.count)) differ) ∙ usual none _)
        (later (turn_goes_on refusable heeding))

    -- one that k does not refuse
    pub calm_goes : (more : List ℕ)
        → (During k next' began (after_one step now word) → Went k (is_start word) more began (after_one step now word))
        → line_verdict (only addressed) (alone k now) ≡ Ok tt
        → Heeds next' (chip.step (chip_at now.0.chips k) now.0.values (alone k now).1 (alone k now).2 (event_of addressed)).0.chip.control.phase
        → Went k started (word ∷ more) began now
    calm_goes more later calm = event_goes more later (λ refusal is. absurd (true≢false (ap is_ok (sym calm ∙ is))))

    -- the last one, which leaves k at rest
    pub last_goes : Anything ≡ next'
        → ((refusal : Refusal) → line_verdict (only addressed) (alone k now) ≡ Err refusal → (next ≡ next') × (is_at_rest (chip_at now.0.chips k) ≡ true))
        → is_at_rest (chip.step (chip_at now.0.chips k) now.0.values (alone k now).1 (alone k now).2 (event_of addressed)).0.chip ≡ true
        → Went k started (word ∷ []) began now
    unfolding after answers_to
    last_goes free refusable rests =
        event_goes [] (λ ended.
        record {
          ended = subst (λ (n : Next). During k n began (after_one step now word)) (sym free) ended;
          rests = turn_rests (λ refusal is. (refusable refusal is).1) rests;
          moves = sym (alone_seen k (after_one step now word));
          answers = λ i plain. refl;
        })
        (λ refusal is. (refusable refusal is).0)
        (subst (λ (n : Next). Heeds n taken.0.chip.control.phase) free tt)
