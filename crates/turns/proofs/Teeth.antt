-- Demand 3 rules out what it must: one counter for the line, and F8h answered for one chip. And its one exception is needed: without it
-- the demand is false of our bench. Each by an example, computed.
use Prim.Native.Nat.{ℕ, zero, suc, ◌<◌}
use native.Mathlib.Omega.{arith}
use mathlib.Core.Bool.{true}
use mathlib.Core.List.{List, [], ◌∷◌, map}
use mathlib.Core.Path.{◌≡◌, ◌∙◌, refl, sym, ap}
use borrow.Author.Tests.{eqb-false, ne_eqb}
use Rattle.base.proofs.logic.Laws.{either}
use Rattle.wellformed.specs.Wellformed as one_chip
use Rattle.board.specs.Board.{board_verdict}
use Rattle.lineup.specs.Chips.{control_at}
use Rattle.lineup.specs.Wellformed.{well_formed}
use Rattle.bus.specs.Step.{step}
use Rattle.bus.proofs.Typed.{OfItsType}
use Rattle.promises.specs.Playing.{World, Made, Bench, led_to, after, answers_to}
use Rattle.turns.specs.Seen.{seen}
use Rattle.turns.specs.Turn.{Turn, is_f8}
use Rattle.turns.specs.Shuffle.{events_of, turns_of, answer_of, is_excepted, Shuffle}
use Rattle.turns.specs.Alone.{alone, renamed, own_turns}
use Rattle.turns.specs.Playing.{ending}
use Rattle.turns.specs.Benches.{shared, one_counter, for_first, own_f8}
use Rattle.turns.specs.Undisturbed.{Ready, Turns, acknowledge, Undisturbed}
use Rattle.turns.proofs.Entering.{Entering}
use Rattle.turns.proofs.Computing.{event_by_event, Keeps, computed, computed_answer, none, none_keeps}
use Rattle.turns.proofs.Examples.{of, pair, free, busy, pairs_are_ready, pairs_are_typed, pairs_idle, first_reads}
use Rattle.turns.proofs.OneCounter.{shared_keeps}

swapped : (one two : List ℕ) → Shuffle (of 0 one ∷ of 1 two ∷ []) (of 1 two ∷ of 0 one ∷ [])
unfolding turns_of
swapped one two zero = refl
swapped one two (suc zero) = refl
swapped one two (suc (suc k)) = rw (ne_eqb 0 (suc (suc k)) (omega arith), ne_eqb 1 (suc (suc k)) (omega arith))

abbrev second_reads : Turn
second_reads = of 1 (0x0100 ∷ 0x03A3 ∷ 0x0401 ∷ 0x0200 ∷ [])

-- two chips read a byte each at their current address: the first gets 5Ah, but FFh when the other has read before it
pub one_counter_disturbs : Undisturbed (one_counter step) → ⊥
unfolding event_by_event
one_counter_disturbs undisturbed =
    let typed = pairs_are_typed.0 in
    let ready = pairs_are_ready.0 in
    let one : List Turn = first_reads ∷ second_reads ∷ [] in
    let other : List Turn = second_reads ∷ first_reads ∷ [] in
    let same = (undisturbed.shuffled (pair free free) one other typed ready refl (swapped _ _)).answers 0 0 2 refl in
    let answer = computed_answer shared shared_keeps (pair free free) pairs_idle.0.entering 0 in
    eqb-false _ _ refl (sym (answer one 0 2) ∙ same ∙ answer other 0 2)

-- two chips are sent a word address each, 005h and 007h
abbrev first_addressed : Turn
first_addressed = of 0 (0x0100 ∷ 0x03A0 ∷ 0x0300 ∷ 0x0305 ∷ 0x0200 ∷ [])

abbrev second_addressed : Turn
second_addressed = of 1 (0x0100 ∷ 0x03A2 ∷ 0x0300 ∷ 0x0307 ∷ 0x0200 ∷ [])

-- nor do all ends agree: the first chip's counter is then the one that came last
pub one_counter_ends_apart : ((world : World) (turns others : List Turn) → OfItsType world.0 → Ready world → Turns world turns → Shuffle turns others
    → seen (after (one_counter step) world (events_of turns)) ≡ seen (after (one_counter step) world (events_of others))) → ⊥
unfolding event_by_event
one_counter_ends_apart agree =
    let typed = pairs_are_typed.0 in
    let ready = pairs_are_ready.0 in
    let one : List Turn = first_addressed ∷ second_addressed ∷ [] in
    let other : List Turn = second_addressed ∷ first_addressed ∷ [] in
    let ends = computed shared shared_keeps (pair free free) pairs_idle.0.entering in
    let same = sym (ap seen (ends (events_of one)).0) ∙ agree (pair free free) one other typed ready refl (swapped _ _) ∙ ap seen (ends (events_of other)).0 in
    eqb-false _ _ refl (ap (λ (world : World). (control_at world.0.chips 0).arraycounter) same)

-- F8h in a turn of the first chip
abbrev calls : Turn
calls = of 0 (0x0100 ∷ 0x03F8 ∷ 0x03A0 ∷ 0x0200 ∷ [])

-- where that chip is busy and the other is not, the other acknowledges it; alone on the line the busy one does not
pub f8_is_acknowledged_by_another :
    (is_excepted calls.events 1 ≡ true)
    × (answers_to step (pair busy free) calls.events ≡ 0x0000 ∷ 0x0001 ∷ 0x0000 ∷ 0x0000 ∷ [])
    × (answers_to step (alone 0 (pair busy free)) (map renamed calls.events) ≡ 0x0000 ∷ 0x0000 ∷ 0x0000 ∷ 0x0000 ∷ [])
unfolding event_by_event
f8_is_acknowledged_by_another = (
  refl,
  (computed none none_keeps (pair busy free) pairs_idle.1.entering calls.events).1,
  (computed none none_keeps (alone 0 (pair busy free)) pairs_idle.3.entering (map renamed calls.events)).1,
)

-- so the answers of a chip by itself, with none excepted, are not those that it gets on the line
pub f8_is_not_its_own : ((world : World) (turns : List Turn) → OfItsType world.0 → Ready world → Turns world turns → (k : ℕ) → k < world.0.count → (j i : ℕ)
    → answer_of k turns (ending step world turns).1 j i ≡ answer_of 0 (own_turns k turns) (ending step (alone k world) (own_turns k turns)).1 j i) → ⊥
unfolding event_by_event
f8_is_not_its_own without =
    let typed = pairs_are_typed.1 in
    let ready = pairs_are_ready.1 in
    let turns : List Turn = calls ∷ [] in
    let same = without (pair busy free) turns typed ready refl 0 (omega arith) 0 1 in
    let together = computed_answer none none_keeps (pair busy free) pairs_idle.1.entering 0 turns 0 1 in
    let by_itself = computed_answer none none_keeps (alone 0 (pair busy free)) pairs_idle.3.entering 0 (own_turns 0 turns) 0 1 in
    eqb-false _ _ refl (sym together ∙ same ∙ by_itself)

abbrev second_ends : Turn
second_ends = of 1 (0x0701 ∷ [])

-- nor does the order leave them alone: where both are busy, F8h is acknowledged only after the other's cycle has ended
pub f8_depends_on_the_order : ((world : World) (turns others : List Turn) → OfItsType world.0 → Ready world → Turns world turns → Shuffle turns others → (k j i : ℕ)
    → answer_of k turns (ending step world turns).1 j i ≡ answer_of k others (ending step world others).1 j i) → ⊥
unfolding event_by_event
f8_depends_on_the_order without =
    let typed = pairs_are_typed.2 in
    let ready = pairs_are_ready.2 in
    let one : List Turn = calls ∷ second_ends ∷ [] in
    let other : List Turn = second_ends ∷ calls ∷ [] in
    let same = without (pair busy busy) one other typed ready refl (swapped _ _) 0 0 1 in
    let answer = computed_answer none none_keeps (pair busy busy) pairs_idle.2.entering 0 in
    eqb-false _ _ refl (sym (answer one 0 1) ∙ same ∙ answer other 0 1)

for_first_keeps : (bench : Bench) → Keeps (for_first bench)
for_first_keeps bench world word made e = either (λ (now : Made). Entering (led_to now)) (is_f8 word) _ _ e e

-- where it is busy and the other is not, F8h must be acknowledged
pub own_f8_is_refused : Undisturbed (own_f8 step) → ⊥
unfolding event_by_event step well_formed board_verdict one_chip.well_formed
own_f8_is_refused undisturbed =
    let typed = pairs_are_typed.1 in
    let ready = pairs_are_ready.1 in
    let same = undisturbed.excepted (pair busy free) (calls ∷ []) typed ready refl 0 0 1 refl in
    let by_events = computed (for_first step) (for_first_keeps step) (pair busy free) pairs_idle.1.entering in
    let answer = computed_answer (for_first step) (for_first_keeps step) (pair busy free) pairs_idle.1.entering 0 (calls ∷ []) 0 1 in
    eqb-false _ _ refl (sym answer ∙ same ∙ ap (λ (world : World). acknowledge world.0) (by_events (0x0100 ∷ [])).0)
