-- Each refusal is given exactly when the paper's table says: its condition holds, and none of those checked before it does. Each
-- operation answers what its checks say, and the checks of each operation have different numbers.
use Prim.Native.Nat.{ℕ, ◌<◌}
use mathlib.Core.List.{List}
use mathlib.Core.Logic.{◌↔◌}
use mathlib.Core.Path.{◌≡◌, refl}
use Rattle.refusal.specs.Verdict.{Verdict}
use Rattle.std.specs.Prelude.{Ok, Err}
use Rattle.refusal.specs.Refusal.{status_of, status_in}
use Rattle.refusal.specs.Checks.{first_of}
use Rattle.refusal.proofs.Checks.{Checks, Given, NoneHolds, given_exactly_when, passed_exactly_when}
use Rattle.board.specs.declared.Place.{Place}
use Rattle.bus.specs.declared.Bus.{Bus}
use Rattle.bus.specs.Setup.{set_up_checks, set_up_by, set_up}
use Rattle.bus.specs.Step.{step_checks, played, step_by, step}
use Rattle.bus.specs.Run.{run_checks, run_by, run}
use Rattle.bus.proofs.Entry.{step_by_checks}

module _ (count : ℕ) (places : List Place) (array security : List ℕ) where
  abbrev at_set_up : Checks
  at_set_up = set_up_checks count places array security

  set_up_says : status_of (set_up count places array security).verdict ≡ status_of (first_of at_set_up)
  unfolding set_up
  set_up_says = go (first_of at_set_up)
    where
      go : (verdict : Verdict) → status_of (set_up_by verdict count places).verdict ≡ status_of verdict
      go (Ok tt) = refl
      go (Err refusal) = refl

  pub set_up_exactly_when : (n : ℕ) → 0 < n
      → (status_of (set_up count places array security).verdict ≡ n) ↔ Given (set_up_checks count places array security) n
  set_up_exactly_when n some = rw set_up_says (given_exactly_when at_set_up refl n some)

  pub set_up_passes_exactly_when : (status_of (set_up count places array security).verdict ≡ 0) ↔ NoneHolds (set_up_checks count places array security)
  set_up_passes_exactly_when = rw set_up_says (passed_exactly_when at_set_up)

module _ (bus : Bus) (array security : List ℕ) (word : ℕ) where
  abbrev at_step : Checks
  at_step = step_checks bus array security word

  pub step_says : status_in (step bus array security word).0.answer ≡ status_of (first_of at_step)
  unfolding played
  step_says = rw (step_by_checks bus array security word) (go (first_of at_step))
    where
      go : (verdict : Verdict) → status_in (step_by verdict bus array security word).0.answer ≡ status_of verdict
      go (Ok tt) = refl
      go (Err refusal) = refl

  pub step_exactly_when : (n : ℕ) → 0 < n
      → (status_in (step bus array security word).0.answer ≡ n) ↔ Given (step_checks bus array security word) n
  step_exactly_when n some = rw step_says (given_exactly_when at_step refl n some)

  pub step_passes_exactly_when : (status_in (step bus array security word).0.answer ≡ 0) ↔ NoneHolds (step_checks bus array security word)
  step_passes_exactly_when = rw step_says (passed_exactly_when at_step)

module _ (bus : Bus) (array security events answers : List ℕ) where
  abbrev at_run : Checks
  at_run = run_checks bus array security events answers

  run_says : status_of (run bus array security events answers).0 ≡ status_of (first_of at_run)
  unfolding run
  run_says = go (first_of at_run)
    where
      go : (verdict : Verdict) → status_of (run_by verdict events (bus, array, security, answers)).0 ≡ status_of verdict
      go (Ok tt) = refl
      go (Err refusal) = refl

  pub run_exactly_when : (n : ℕ) → 0 < n
      → (status_of (run bus array security events answers).0 ≡ n) ↔ Given (run_checks bus array security events answers) n
  run_exactly_when n some = rw run_says (given_exactly_when at_run refl n some)

  pub run_passes_exactly_when : (status_of (run bus array security events answers).0 ≡ 0) ↔ NoneHolds (run_checks bus array security events answers)
  run_passes_exactly_when = rw run_says (passed_exactly_when at_run)
