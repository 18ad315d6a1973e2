-- Demand 1, refused means untouched: an operation that answers a refusal returns the state that it was given and leaves both stores.
-- Its checks decide before anything moves, and an operation whose checks pass answers no refusal.
use Prim.Native.Nat.{ℕ}
use mathlib.Core.Bool.{Bool, true, false, true≢false}
use mathlib.Core.List.{List}
use mathlib.Core.Path.{◌≡◌, refl, ap}
use Rattle.refusal.specs.declared.Refusal.{Refusal}
use Rattle.refusal.specs.Verdict.{Verdict, Answer}
use Rattle.std.specs.Prelude.{Ok, Err}
use Rattle.refusal.specs.Checks.{first_of}
use Rattle.std.specs.Result.{is_ok}
use Rattle.board.specs.declared.Place.{Place}
use Rattle.bus.specs.declared.Bus.{Bus}
use Rattle.bus.specs.Setup.{set_up_checks, empty, set_up_by, set_up}
use Rattle.bus.specs.Step.{step_checks, refused, played, step_by, step}
use Rattle.bus.specs.Run.{run_checks, Progress, run_by, run}
use Rattle.bus.proofs.Entry.{step_by_checks}

abbrev is_done : Answer → Bool
is_done (Ok reply) = true
is_done (Err refusal) = false

pub refused_set_up_is_empty : (count : ℕ) (places : List Place) (array security : List ℕ) (refusal : Refusal)
    → (set_up count places array security).verdict ≡ Err refusal
    → (set_up count places array security).bus ≡ empty
unfolding set_up
refused_set_up_is_empty count places array security refusal = go (first_of (set_up_checks count places array security))
  where
    go : (verdict : Verdict) → (set_up_by verdict count places).verdict ≡ Err refusal → (set_up_by verdict count places).bus ≡ empty
    go (Ok tt) is = absurd (true≢false (ap is_ok is))
    go (Err other) is = refl

module _ (bus : Bus) (array security : List ℕ) where
  -- whatever was checked
  refusal_leaves_all : (word : ℕ) (refusal : Refusal) (verdict : Verdict) → (step_by verdict bus array security word).0.answer ≡ Err refusal
      → step_by verdict bus array security word ≡ refused refusal bus array security
  unfolding played
  refusal_leaves_all word refusal (Ok tt) is = absurd (true≢false (ap is_done is))
  refusal_leaves_all word refusal (Err other) is = ap (λ (answer : Answer). (record { bus = bus; answer = answer }, array, security)) is

  pub refused_step_leaves_all : (word : ℕ) (refusal : Refusal) → (step bus array security word).0.answer ≡ Err refusal
      → step bus array security word ≡ (record { bus = bus; answer = Err refusal }, array, security)
  refused_step_leaves_all word refusal = rw (step_by_checks bus array security word) (refusal_leaves_all word refusal (first_of (step_checks bus array security word)))

  pub refused_run_leaves_all : (events answers : List ℕ) (refusal : Refusal) → (run bus array security events answers).0 ≡ Err refusal
      → run bus array security events answers ≡ (Err refusal, (bus, array, security, answers))
  unfolding run
  refused_run_leaves_all events answers refusal = go (first_of (run_checks bus array security events answers)) (bus, array, security, answers)
    where
      go : (verdict : Verdict) (progress : Progress) → (run_by verdict events progress).0 ≡ Err refusal → run_by verdict events progress ≡ (Err refusal, progress)
      go (Ok tt) progress is = absurd (true≢false (ap is_ok is))
      go (Err other) progress is = ap (λ (verdict : Verdict). (verdict, progress)) is
