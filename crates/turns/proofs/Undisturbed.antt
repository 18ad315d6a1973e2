-- Demand 3: chips do not disturb each other. Whatever the order, each chip ends as it does by itself, and worlds that are the same at every
-- chip and hold no load show the same. First from a bus that remembers no Start, then from any (Remembering).
use Prim.Native.Nat.{ℕ, ◌+◌, ◌<◌, ◌≤◌}
use native.Mathlib.Decide.{dec_lt}
use native.Mathlib.Omega.{arith}
use mathlib.Core.Bool.{Bool, true, false, cond, not, ◌&&◌}
use mathlib.Core.List.{List, [], ◌∷◌, map}
use mathlib.Core.Path.{◌≡◌, ◌∙◌, refl, sym, ap, subst}
use lib.ListN.{length, get_or, drop}
use borrow.Author.Tests.{ltb-true, ne_eqb, not-true}
use Rattle.base.proofs.logic.Laws.{and_left, and_right}
use Rattle.base.proofs.Fold.{all_at, none_any}
use Rattle.control.specs.Phase.{is_sending, is_taking}
use Rattle.board.specs.declared.Place.{Place}
use Rattle.board.specs.Place.{placed}
use Rattle.lineup.specs.Chips.{chip_at, places_of}
use Rattle.bus.specs.Step.{step}
use Rattle.bus.proofs.Entry.{entered}
use Rattle.bus.proofs.Typed.{OfItsType, has_four}
use Rattle.promises.specs.Playing.{World, after, answers_to}
use Rattle.turns.specs.Idle.{is_loading, is_at_rest, is_idle}
use Rattle.turns.specs.Seen.{any_loading, seen}
use Rattle.turns.specs.Turn.{Turn, is_turn}
use Rattle.turns.specs.Shuffle.{began_at, are_turns, events_of, Shuffle, turn_of, answers_of, answer_of, is_excepted}
use Rattle.turns.specs.Alone.{alone, with_start, forgetting, own_turn, own_turns}
use Rattle.turns.specs.Remembering.{has_start, remembered, AsWithout}
use Rattle.turns.specs.Playing.{ending}
use Rattle.turns.specs.Benches.{our_bench}
use Rattle.turns.specs.Undisturbed.{Ready, Turns, Alike, AsAlone, Undisturbed}
use Rattle.turns.proofs.Entering.{Idling, idle_whatever_is_remembered, ready_of}
use Rattle.turns.proofs.Lists.{answer_at, excepted_inside, excepted_at, shuffle_turns}
use Rattle.turns.proofs.OneTurn.{alone_idles}
use Rattle.turns.proofs.Renamed.{own_turns_are_turns}
use Rattle.turns.proofs.Remembering.{idle_enters, turns_alike, shuffle_exchanges}
use Rattle.turns.proofs.Same.{same_world}
use Rattle.turns.proofs.Turns.{turns_pass, ends_alone, answers_alone}
use Rattle.turns.proofs.Acknowledged.{f8_acknowledged}

-- a chip past the count has no turn
no_answers : (count : ℕ) (places : List Place) (k : ℕ) (turns : List Turn) (answers : List ℕ) → are_turns count places turns ≡ true → count ≤ k → answers_of k turns answers ≡ []
unfolding are_turns answers_of
no_answers count places k [] answers are past = refl
no_answers count places k (turn ∷ rest) answers are past =
    let below : turn.chip < count = ltb-true _ _ (and_left _ _ (and_left _ _ are)) in
    rw (ne_eqb turn.chip k (λ same. omega (arith, same)))
    (no_answers count places k rest (drop (length turn.events) answers) (and_right (is_turn count places turn) _ are) past)

-- where turns may begin no chip holds a load
none_loads : {world : World} → Idling world → any_loading world.0 ≡ false
unfolding is_idle
none_loads {world} waits =
    none_any (λ (i : ℕ). is_loading (chip_at world.0.chips i)) (placed world.0.count)
    (λ i below.
    let c = chip_at world.0.chips i in
    let rest = all_at (λ (i : ℕ). is_at_rest (chip_at world.0.chips i)) (placed world.0.count) i waits.idle below in
    not-true _ (and_left _ _ (and_right (not (is_sending c.control.phase) && not (is_taking c.control.phase)) _ rest)))

-- from a bus that remembers no Start
module _ (world : World) (turns others : List Turn) (waits : Idling world) (are : Turns world turns) (shuffle : Shuffle turns others) where
  are_too : Turns world others
  are_too = shuffle_turns world.0.count (places_of world.0.chips) turns others are shuffle

  own_same : (k : ℕ) → own_turns k turns ≡ own_turns k others
  own_same k = ap (map own_turn) (shuffle k)

  ends_same : seen (after step world (events_of turns)) ≡ seen (after step world (events_of others))
  ends_same =
      let one = turns_pass turns world waits are in
      let other = turns_pass others world waits are_too in
      same_world _ _ (has_four one.waits.entering.typed) (has_four other.waits.entering.typed) (one.count ∙ sym other.count) one.waits.entering.enters other.waits.entering.enters
      (λ i past. one.rest i (omega (arith, past, one.count)) ∙ sym (other.rest i (omega (arith, past, one.count))))
      (λ k below.
      let there : k < world.0.count = omega (arith, below, one.count) in
      ends_alone turns world waits are k there
      ∙ ap (λ (own : List Turn). seen (after step (alone k world) (events_of own))) (own_same k)
      ∙ sym (ends_alone others world waits are_too k there))
      (none_loads one.waits)
      (none_loads other.waits)

  answers_same : (k j i : ℕ) → is_excepted (turn_of k turns j) i ≡ false
      → answer_of k turns (answers_to step world (events_of turns)) j i ≡ answer_of k others (answers_to step world (events_of others)) j i
  answers_same k j i usual = go (dec_lt k world.0.count)
    where
      go : Dec (k < world.0.count) → answer_of k turns (answers_to step world (events_of turns)) j i ≡ answer_of k others (answers_to step world (events_of others)) j i
      go (yes p) =
          answers_alone k turns world waits are p j i usual
          ∙ ap (λ (own : List Turn). answer_of 0 own (answers_to step (alone k world) (events_of own)) j i) (own_same k)
          ∙ sym (answers_alone k others world waits are_too p j i (ap (λ (own : List (List ℕ)). is_excepted (get_or own j []) i) (sym (shuffle k)) ∙ usual))
      go (no p) =
          rw (
            no_answers world.0.count (places_of world.0.chips) k turns (answers_to step world (events_of turns)) are (omega arith),
            no_answers world.0.count (places_of world.0.chips) k others (answers_to step world (events_of others)) are_too (omega arith),
          )

-- from any bus: what it remembers is of no account (Remembering)
module _ (world : World) (turns : List Turn) (typed : OfItsType world.0) (ready : Ready world) (are : Turns world turns) where
  abbrev started : Bool
  started = world.0.started

  waits : Idling (forgetting world)
  waits = record { entering = idle_enters false world typed ready; idle = idle_whatever_is_remembered false world ∙ ready.idle; forgot = refl }

  alike : AsWithout started (events_of turns) (forgetting world)
  alike = let (typed, ready) = ready_of waits in turns_alike started (forgetting world) typed ready turns are

  pub turns_end_ready : let ends = after step world (events_of turns) in OfItsType ends.0 × Ready ends
  turns_end_ready =
      let ends = after step (forgetting world) (events_of turns) in
      let (typed_then, ready_then) = ready_of (turns_pass turns (forgetting world) waits are).waits in
      let now = remembered started (events_of turns) ends in
      let entering = idle_enters now ends typed_then ready_then in
      subst (λ (w : World). OfItsType w.0 × Ready w) (sym alike.ends) (entering.typed, record { enters = entering.enters; idle = idle_whatever_is_remembered now ends ∙ ready_then.idle })

  own_by_itself : (k : ℕ) → k < world.0.count → AsAlone k turns (ending step world turns) (ending step (alone k world) (own_turns k turns))
  own_by_itself k below =
      record {
        ends = ap (λ (w : World). forgetting (alone k w)) alike.ends ∙ ap forgetting (ends_alone turns (forgetting world) waits are k below) ∙ sym (ap (λ (w : World). forgetting (seen w)) own.ends);
        answers = λ j i usual.
            ap (λ (answers : List ℕ). answer_of k turns answers j i) alike.answers ∙ answers_alone k turns (forgetting world) waits are below j i usual ∙ sym (ap (λ (answers : List ℕ). answer_of 0 (own_turns k turns) answers j i) own.answers);
      }
    where
      own : AsWithout started (events_of (own_turns k turns)) (alone k (forgetting world))
      own =
          let (typed_own, ready_own) = ready_of (alone_idles (forgetting world) waits k below) in
          turns_alike started (alone k (forgetting world)) typed_own ready_own (own_turns k turns)
          (own_turns_are_turns (forgetting world) turns are k (omega (arith, below, (entered world.0 world.1 world.2 ready.enters).chips_most)))

module _ (world : World) (turns others : List Turn) (typed : OfItsType world.0) (ready : Ready world) (are : Turns world turns) (shuffle : Shuffle turns others) where
  abbrev end_of : List Turn → World
  end_of list = after step (forgetting world) (events_of list)

  -- what is shown of an end, by whether some turn is an exchange
  abbrev shown_as : Bool → World → World
  shown_as exchange ends = with_start (cond exchange ends.0.started world.0.started) ends

  any_shuffled : Alike turns others (ending step world turns) (ending step world others)
  any_shuffled =
      let idles = waits world turns typed ready are in
      let one = alike world turns typed ready are in
      let other = alike world others typed ready (are_too (forgetting world) turns others idles are shuffle) in
      let same = ends_same (forgetting world) turns others idles are shuffle in
      record {
        ends =
            ap seen one.ends
            ∙ ap (shown_as (has_start (events_of turns))) same
            ∙ ap (λ (exchange : Bool). shown_as exchange (seen (end_of others))) (shuffle_exchanges turns others shuffle)
            ∙ sym (ap seen other.ends);
        answers = λ k j i usual.
            ap (λ (answers : List ℕ). answer_of k turns answers j i) one.answers
            ∙ answers_same (forgetting world) turns others idles are shuffle k j i usual
            ∙ sym (ap (λ (answers : List ℕ). answer_of k others answers j i) other.answers);
      }

pub undisturbed : Undisturbed our_bench
undisturbed =
    record {
      shuffled = any_shuffled;
      by_itself = own_by_itself;
      excepted = λ world turns typed ready are k j i is.
          answer_at k turns (answers_to step world (events_of turns)) j i (excepted_inside (turn_of k turns j) i is)
          ∙ f8_acknowledged (events_of turns) world (record { typed = typed; enters = ready.enters }) (began_at k turns j + i) (excepted_at k turns j i is);
    }
