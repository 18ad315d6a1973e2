-- Demand 3 of what `Bus::run` returns and leaves, by its contract alone: a run that passes is its steps, so the bus and the stores it
-- leaves are those of playing its list, and its answers stand first in the buffer. A call is given a value of its type and hands one back.
use Prim.Native.Nat.{ℕ, ◌+◌, ◌<◌}
use mathlib.Core.Bool.{true}
use mathlib.Core.List.{List, []}
use mathlib.Core.Path.{◌≡◌, ◌∙◌, sym, ap, subst}
use lib.ListN.{get_or, take}
use Rattle.std.specs.Prelude.{Ok}
use Rattle.bus.specs.Step.{step}
use Rattle.bus.proofs.Typed.{OfItsType}
use Rattle.promises.specs.Playing.{World, answers_to}
use Rattle.promises.proofs.Calls.{RunCall, run_end, run_end_typed, Plays, Returned, returned, world_typed}
use Rattle.promises.proofs.Playing.{answers_length}
use Rattle.turns.specs.Turn.{Turn}
use Rattle.turns.specs.Shuffle.{turn_of, began_at, events_of, Shuffle, answer_of, is_excepted}
use Rattle.turns.specs.Seen.{seen}
use Rattle.turns.specs.Alone.{alone, forgetting, own_turns}
use Rattle.turns.specs.Undisturbed.{Ready, Turns, Alike, AsAlone, acknowledge}
use Rattle.turns.proofs.Alone.{alone_enters}
use Rattle.turns.proofs.Lists.{answers_past}
use Rattle.turns.proofs.Undisturbed.{turns_end_ready, undisturbed}

-- what follows the answers is not looked at
own_answer : {call : RunCall} {world : World} (turns : List Turn) → Returned call world (events_of turns) → (k j i : ℕ)
    → answer_of k turns (run_end call).1 j i ≡ answer_of k turns (answers_to step world (events_of turns)) j i
own_answer {world} turns back k j i =
    ap (λ (answers : List ℕ). answer_of k turns answers j i) back.answers
    ∙ ap (λ (own : List (List ℕ)). get_or (get_or own j []) i 0) (answers_past k turns _ _ (answers_length step world (events_of turns)))

module _ (world : World) (ready : Ready world) (turns : List Turn) (are_turns_holds : Turns world turns) where
  -- a call of some list from that world: what it returns, and that the world is a value of its type
  back : (call : RunCall) {events : List ℕ} → Plays call world events → Returned call world events
  back call {events} plays = returned call world events plays ready.enters

  typed : (call : RunCall) {events : List ℕ} → Plays call world events → OfItsType world.0
  typed call {events} plays = world_typed call world events plays

  -- a call of a list of turns, and a call of a shuffle of it, each with a buffer of its own
  pub shuffled_runs : (others : List Turn) → Shuffle turns others → (one other : RunCall) → Plays one world (events_of turns) → Plays other world (events_of others)
      → (one.result.verdict ≡ Ok tt) × (other.result.verdict ≡ Ok tt) × Alike turns others (run_end one) (run_end other)
  shuffled_runs others shuffle one other plays plays' =
      let ran = back one plays in
      let ran' = back other plays' in
      let alike = undisturbed.shuffled world turns others (typed one plays) ready are_turns_holds shuffle in (
        ran.verdict,
        ran'.verdict,
        record {
          ends = ap seen ran.ends ∙ alike.ends ∙ ap seen (sym ran'.ends);
          answers = λ k j i plain. own_answer turns ran k j i ∙ alike.answers k j i plain ∙ sym (own_answer others ran' k j i);
        },
      )

  -- a call of a list of turns, and a call of those of chip k where it is alone
  pub runs_as_alone : (k : ℕ) → k < world.0.count → (one by_itself_holds : RunCall) → Plays one world (events_of turns) → Plays by_itself_holds (alone k world) (events_of (own_turns k turns))
      → (one.result.verdict ≡ Ok tt) × (by_itself_holds.result.verdict ≡ Ok tt) × AsAlone k turns (run_end one) (run_end by_itself_holds)
  runs_as_alone k below one by_itself_holds plays plays' =
      let ran = back one plays in
      let ran' = returned by_itself_holds (alone k world) (events_of (own_turns k turns)) plays' (alone_enters world ready.enters k below) in
      let alike = undisturbed.by_itself world turns (typed one plays) ready are_turns_holds k below in (
        ran.verdict,
        ran'.verdict,
        record {
          ends = ap (λ (w : World). forgetting (alone k w)) ran.ends ∙ alike.ends ∙ ap (λ (w : World). forgetting (seen w)) (sym ran'.ends);
          answers = λ j i plain. own_answer turns ran k j i ∙ alike.answers j i plain ∙ sym (own_answer (own_turns k turns) ran' 0 j i);
        },
      )

  -- the excepted answer, and a call of what stands before it: the bus that this hands back says whether it is acknowledged
  pub runs_acknowledge : (k j i : ℕ) → is_excepted (turn_of k turns j) i ≡ true → (one before : RunCall) → Plays one world (events_of turns)
      → Plays before world (take (began_at k turns j + i) (events_of turns))
      → answer_of k turns (run_end one).1 j i ≡ acknowledge (run_end before).0.0
  runs_acknowledge k j i is one before plays plays' =
      own_answer turns (back one plays) k j i
      ∙ undisturbed.excepted world turns (typed one plays) ready are_turns_holds k j i is
      ∙ ap (λ (w : World). acknowledge w.0) (sym (back before plays').ends)

  -- and what a call of turns hands back is ready for more, and a value of its type
  pub runs_end_ready : (one : RunCall) → Plays one world (events_of turns) → OfItsType (run_end one).0.0 × Ready (run_end one).0
  runs_end_ready one plays = (
    run_end_typed one,
    subst Ready (sym (back one plays).ends) (turns_end_ready world turns (typed one plays) ready are_turns_holds).1,
  )
