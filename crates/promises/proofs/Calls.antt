-- What callers of `Bus::set_up`, `step` and `run` see, by the contracts alone: that a bus is a value of its type is nothing
-- that a caller is asked for, since a call is given such a value and hands one back. Of what a lent slice holds a call says
-- nothing, so where a word is read back out of the buffer the stores are asked to hold bytes.
use Prim.Native.Nat.{ℕ, ◌*◌, ◌<◌, ◌≤◌}
use mathlib.Core.List.{List, ◌∷◌, ◌++◌}
use mathlib.Core.Logic.{◌↔◌}
use mathlib.Core.Path.{◌≡◌, ◌∙◌, sym, ap, subst, subst₂}
use lib.ListN.{length, get_or, take, drop}
use Rattle.base.specs.Every.{AllBytes}
use Rattle.base.proofs.Call.{Call}
use Rattle.chip.specs.declared.Stepped as chip
use Rattle.refusal.specs.Verdict.{Verdict}
use Rattle.std.specs.Prelude.{Ok}
use Rattle.refusal.specs.Refusal.{status_in}
use Rattle.refusal.specs.Checks.{first_of}
use Rattle.refusal.proofs.Checks.{Given, status_passed}
use Rattle.board.specs.declared.Place.{Place}
use Rattle.lineup.specs.Chips.{chip_at, places_of}
use Rattle.line.specs.Line.{array_share, security_share}
use Rattle.decode.specs.Decode.{addressed_of}
use Rattle.bus.specs.Step.{entry_checks, step_checks, step}
use Rattle.bus.specs.Run.{Progress, run}
use Rattle.bus.proofs.Typed.{OfItsType}
use Rattle.bus.proofs.Bus.set_up.Kinds as set_up_kinds
use Rattle.bus.proofs.Bus.set_up.Reads as set_up_reads
use Rattle.bus.proofs.Bus.step.Kinds as step_kinds
use Rattle.bus.proofs.Bus.step.Reads as step_reads
use Rattle.bus.proofs.Bus.run.Kinds as run_kinds
use Rattle.bus.proofs.Bus.run.Reads as run_reads
use Rattle.promises.specs.Answers.{ButForItsWord}
use Rattle.promises.specs.Own.{own}
use Rattle.promises.specs.Playing.{World, Made, after, answers_to}
use Rattle.promises.proofs.Answers.{run_answers_exactly_when, refused_event_leaves_all_but_its_word}
use Rattle.promises.proofs.Exactly.{step_says}
use Rattle.promises.proofs.Steps.{step_is_each_chips_own}
use Rattle.promises.proofs.Runs.{step_keeps, run_passes, run_is_its_steps, run_keeps_the_bus_well_formed}

abbrev pub SetUpCall : Type 0
SetUpCall = Call set_up_kinds.ps set_up_kinds.r set_up_reads.Post

abbrev pub StepCall : Type 0
StepCall = Call step_kinds.ps step_kinds.r step_reads.Post

abbrev pub RunCall : Type 0
RunCall = Call run_kinds.ps run_kinds.r run_reads.Post

-- whatever set-up says, its bus is a value of its type
pub set_up_typed : (call : SetUpCall) → OfItsType call.result.bus
set_up_typed call = record { values = _; is = call.ok.1.1.0 }

-- ---- a step
module _ (call : StepCall) where
  -- the bus and the stores that it was given, the event, and what it made of it
  abbrev pub step_from : World
  step_from = (call.arguments.0, call.arguments.1.0.now, call.arguments.1.1.0.now)

  abbrev pub step_word : ℕ
  step_word = call.arguments.1.1.1.0

  abbrev pub step_made : Made
  step_made = (call.result, call.at_exit.1.0.now, call.at_exit.1.1.0.now)

  pub step_from_typed : OfItsType step_from.0
  step_from_typed = record { values = _; is = call.good.0 }

  pub step_made_typed : OfItsType step_made.0.bus
  step_made_typed = record { values = _; is = call.ok.1.1.0 }

  -- one that is not refused is the chip's step at each chip, on its own shares
  pub a_step_is_each_chips_own : status_in step_made.0.answer ≡ 0 → (i : ℕ) → i < step_from.0.count
      → (chip_at step_made.0.bus.chips i ≡ (own (addressed_of step_from.0.started step_word) step_from.0.chips step_from.0.values step_from.1 step_from.2 i).0.chip)
      × (array_share (places_of step_from.0.chips) i step_made.1 ≡ (own (addressed_of step_from.0.started step_word) step_from.0.chips step_from.0.values step_from.1 step_from.2 i).1)
      × (security_share (places_of step_from.0.chips) i step_made.2 ≡ (own (addressed_of step_from.0.started step_word) step_from.0.chips step_from.0.values step_from.1 step_from.2 i).2)
  a_step_is_each_chips_own done i below =
      let says = ap (λ (m : Made). status_in m.0.answer) call.ensured in
      let passes = status_passed (first_of (step_checks step_from.0 step_from.1 step_from.2 step_word)) (sym (step_says step_from.0 step_from.1 step_from.2 step_word) ∙ sym says ∙ done) in
      subst (λ (m : Made). (chip_at m.0.bus.chips i ≡ mine.0.chip) × (array_share places i m.1 ≡ mine.1) × (security_share places i m.2 ≡ mine.2))
      (sym call.ensured)
      (step_is_each_chips_own step_from.0 step_from.1 step_from.2 step_word step_from_typed passes i below)
    where
      places : List Place
      places = places_of step_from.0.chips

      mine : chip.Stepped × List ℕ × List ℕ
      mine = own (addressed_of step_from.0.started step_word) step_from.0.chips step_from.0.values step_from.1 step_from.2 i

  -- it leaves a bus that passes the checks at entry where it was given one
  pub a_step_keeps_the_bus_well_formed : first_of (entry_checks step_from.0 step_from.1 step_from.2) ≡ Ok tt
      → first_of (entry_checks step_made.0.bus step_made.1 step_made.2) ≡ Ok tt
  a_step_keeps_the_bus_well_formed enters =
      subst (λ (m : Made). first_of (entry_checks m.0.bus m.1 m.2) ≡ Ok tt)
      (sym call.ensured)
      (step_keeps step_from.0 step_from.1 step_from.2 step_word step_from_typed enters).enters

-- ---- a run
module _ (call : RunCall) where
  -- the bus and the stores that it was given, the list, and the answer buffer
  abbrev pub run_from : World
  run_from = (call.arguments.0, call.arguments.1.0.now, call.arguments.1.1.0.now)

  abbrev pub run_events : List ℕ
  run_events = call.arguments.1.1.1.0.now

  abbrev pub run_buffer : List ℕ
  run_buffer = call.arguments.1.1.1.1.0.now

  -- the bus that it hands back, the stores and the whole answer buffer as it returns
  abbrev pub run_end : World × List ℕ
  run_end = ((call.result.bus, call.at_exit.1.0.now, call.at_exit.1.1.0.now), call.at_exit.1.1.1.1.0.now)

  -- the same as one
  abbrev pub run_leaves : Progress
  run_leaves = (run_end.0.0, run_end.0.1, run_end.0.2, run_end.1)

  pub run_from_typed : OfItsType run_from.0
  run_from_typed = record { values = _; is = call.good.0 }

  pub run_end_typed : OfItsType run_end.0.0
  run_end_typed = record { values = _; is = call.ok.1.1.0 }

-- it plays a list of events from a world, and has room for the answers
pub record Plays (call : RunCall) (world : World) (events : List ℕ) : Type 0 where
  pub from_there : run_from call ≡ world
  pub the_list : run_events call ≡ events
  pub room : length events ≤ length (run_buffer call)

-- it passes, and ends where its list does; past the answers the buffer is as it was
pub record Returned (call : RunCall) (world : World) (events : List ℕ) : Type 0 where
  pub verdict : call.result.verdict ≡ Ok tt
  pub ends : (run_end call).0 ≡ after step world events
  pub answers : (run_end call).1 ≡ answers_to step world events ++ drop (length events) (run_buffer call)

pub world_typed : (call : RunCall) (world : World) (events : List ℕ) → Plays call world events → OfItsType world.0
world_typed call world events plays = subst (λ (w : World). OfItsType w.0) plays.from_there (run_from_typed call)

module _ (call : RunCall) (world : World) (events : List ℕ) (plays : Plays call world events) (enters : first_of (entry_checks world.0 world.1 world.2) ≡ Ok tt) where
  typed : OfItsType world.0
  typed = world_typed call world events plays

  as_run : (call.result.verdict, run_leaves call) ≡ run world.0 world.1 world.2 events (run_buffer call)
  as_run =
      call.ensured
      ∙ ap (λ (w : World). run w.0 w.1 w.2 (run_events call) (run_buffer call)) plays.from_there
      ∙ ap (λ (list : List ℕ). run world.0 world.1 world.2 list (run_buffer call)) plays.the_list

  passes : (run world.0 world.1 world.2 events (run_buffer call)).0 ≡ Ok tt
  passes = run_passes world.0 world.1 world.2 events (run_buffer call) enters plays.room

  -- a run is its steps
  pub returned : Returned call world events
  returned =
      let is = as_run ∙ run_is_its_steps world.0 world.1 world.2 events (run_buffer call) typed passes in
      record {
        verdict = ap (λ (ran : Verdict × Progress). ran.0) is;
        ends = ap (λ (ran : Verdict × Progress). (ran.1.0, ran.1.1, ran.1.2)) is;
        answers = ap (λ (ran : Verdict × Progress). ran.1.3) is;
      }

  pub a_run_keeps_the_bus_well_formed : first_of (entry_checks (run_end call).0.0 (run_end call).0.1 (run_end call).0.2) ≡ Ok tt
  a_run_keeps_the_bus_well_formed =
      subst (λ (ran : Verdict × Progress). first_of (entry_checks ran.1.0 ran.1.1 ran.1.2) ≡ Ok tt) (sym as_run)
      (run_keeps_the_bus_well_formed world.0 world.1 world.2 events (run_buffer call) typed passes).0

  -- "given exactly when", of the words that its caller finds in the buffer
  pub a_run_answers_exactly_when : AllBytes world.1 → AllBytes world.2 → (i : ℕ) → i < length events → (n : ℕ) → 0 < n
      → let now = after step world (take i events) in
      (get_or (run_end call).1 i 0 ≡ n * 256) ↔ Given (step_checks now.0 now.1 now.2 (get_or events i 0)) n
  a_run_answers_exactly_when in_array in_security i below n some =
      let there = ap (λ (ran : Verdict × Progress). get_or ran.1.3 i 0) as_run in
      let exactly = run_answers_exactly_when world.0 world.1 world.2 typed events (run_buffer call) passes in_array in_security i below n some in
      (λ word. exactly.0 (sym there ∙ word), λ holds. there ∙ exactly.1 holds)

-- a call of a list with an event that it refuses, and a call of the list without it
pub a_refused_event_leaves_all_but_its_word : (world : World) → first_of (entry_checks world.0 world.1 world.2) ≡ Ok tt
    → (before : List ℕ) (word : ℕ) (rest : List ℕ) (one other : RunCall) → Plays one world (before ++ (word ∷ rest)) → Plays other world (before ++ rest)
    → (n : ℕ) → 0 < n → let now = after step world before in Given (step_checks now.0 now.1 now.2 word) n
    → (get_or (run_end one).1 (length before) 0 ≡ n * 256) × ButForItsWord before rest (run_leaves one) (run_leaves other)
a_refused_event_leaves_all_but_its_word world enters before word rest one other plays plays' n some given =
    let ran = as_run one world (before ++ (word ∷ rest)) plays enters in
    let ran' = as_run other world (before ++ rest) plays' enters in
    subst₂ (λ (x y : Verdict × Progress). (get_or x.1.3 (length before) 0 ≡ n * 256) × ButForItsWord before rest x.1 y.1) (sym ran) (sym ran')
    (refused_event_leaves_all_but_its_word world.0 world.1 world.2 (world_typed one world (before ++ (word ∷ rest)) plays) before word rest (run_buffer one) (run_buffer other)
    (passes one world (before ++ (word ∷ rest)) plays enters) (passes other world (before ++ rest) plays' enters) n some given)
