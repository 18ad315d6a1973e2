-- A run over a list: checks 11, 10, 5, then each event as in a step (paper, "Events and replies").
use Rattle.std.specs.Prelude.{ℕ, Bool, List, ◌∷◌, ltb, length, get_or, set}
use Rattle.base.specs.Fold.{up_to}
use Rattle.refusal.specs.declared.Refusal.{Refusal}
use Rattle.refusal.specs.declared.Refusal.TheVariants.{ShortBuffer}
use Rattle.refusal.specs.Verdict.{Verdict}
use Rattle.std.specs.Prelude.{Ok, Err}
use Rattle.refusal.specs.Refusal.{answer_word}
use Rattle.refusal.specs.Checks.{first_of}
use Rattle.board.specs.Stores.{WithStores, array_of, security_of}
use Rattle.bus.specs.declared.Bus.{Bus}
use Rattle.bus.specs.declared.Stepped.{Stepped}
use Rattle.bus.specs.declared.Ran.{Ran}
use Rattle.bus.specs.Step.{entry_checks, event}

abbrev pub run_checks : Bus → List ℕ → List ℕ → List ℕ → List ℕ → List (Bool × Refusal)
run_checks bus array security events answers =
    (ltb (length answers) (length events), ShortBuffer) ∷ entry_checks bus array security

-- the state, both stores and the answers so far
abbrev pub Progress : Type 0
Progress = Bus × List ℕ × List ℕ × List ℕ

-- the answer to event i is in its place
abbrev pub noted : ℕ → List ℕ → WithStores Stepped → Progress
noted i answers stepped = (stepped.0.bus, array_of stepped, security_of stepped, set answers i (answer_word stepped.0.answer))

abbrev pub run_event : List ℕ → ℕ → Progress → Progress
run_event events i progress = noted i progress.3 (event progress.0 progress.1 progress.2 (get_or events i 0))

-- the first n events, one after the other
unfoldable pub run_up_to : List ℕ → ℕ → Progress → Progress
run_up_to events n progress = up_to (run_event events) n progress

-- a refused run returns the state it was given; answers past the list stay
abbrev pub run_by : Verdict → List ℕ → Progress → Verdict × Progress
run_by (Ok tt) events progress = ((Ok tt), run_up_to events (length events) progress)
run_by (Err refusal) events progress = (Err refusal, progress)

unfoldable pub run : Bus → List ℕ → List ℕ → List ℕ → List ℕ → Verdict × Progress
run bus array security events answers =
    run_by (first_of (run_checks bus array security events answers)) events (bus, array, security, answers)

-- a run's result beside the stores and the buffer that it leaves
abbrev pub outcome : Ran → List ℕ → List ℕ → List ℕ → Verdict × Progress
outcome ran array security answers = (ran.verdict, (ran.bus, array, security, answers))
