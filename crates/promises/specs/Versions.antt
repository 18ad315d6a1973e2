-- A version to be shut out: one that plays the whole list at its first event and only echoes after (paper, "How tight the contracts are").
-- Beside it ours, and what tells them apart: where they are after each event, since at the list's end they are in the same place.
use Rattle.std.specs.Prelude.{ℕ, zero, suc, ◌≤◌, List, ◌++◌, ◌≡◌, length, take, drop}
use Rattle.std.specs.Prelude.{Ok}
use Rattle.bus.specs.declared.Bus.{Bus}
use Rattle.bus.specs.Run.{Progress, run_up_to, run}

-- how far a version has come after n events of a list
abbrev pub Version : Type 0
Version = List ℕ → ℕ → Progress → Progress

-- the first n answers of a progress are handed out; behind them the buffer is as it was
abbrev pub echoed : ℕ → List ℕ → Progress → Progress
echoed n answers progress = (progress.0, progress.1, progress.2, take n progress.3 ++ drop n answers)

-- from its first event on it has the state and both stores of the list's end
abbrev pub all_at_once : Version
all_at_once events zero progress = progress
all_at_once events (suc n) progress = echoed (suc n) progress.3 (run_up_to events (length events) progress)

-- ours is the bus's run, so far
abbrev pub our_version : Version
our_version = run_up_to

-- where a run passes, each event has led to what a run of the events so far leaves
abbrev pub EventByEvent : Version → Type 0
EventByEvent version = (bus : Bus) (array security events answers : List ℕ) (n : ℕ) → (run bus array security events answers).0 ≡ Ok tt → n ≤ length events
    → version events n (bus, array, security, answers) ≡ (run bus array security (take n events) answers).1
