-- A run is its steps: each event leaves a bus that passes the checks at entry again, so that a step of it is the event alone.
-- And what every event keeps a run keeps: the length of the answers, those past the list, and a well-formed bus.
use Prim.Native.Nat.{ℕ, zero, suc, ◌<◌, ◌≤◌}
use native.Mathlib.Omega.{arith}
use mathlib.Core.Bool.{Bool, true, false, cond, false≢true}
use mathlib.Core.List.{List, [], ◌∷◌, ◌++◌}
use mathlib.Core.Path.{◌≡◌, ◌∙◌, refl, sym, ap}
use lib.Dec.{ltb}
use lib.ListN.{length, get_or, take, drop, length-set}
use lib.Seq.{length-take-le, take-suc, take-length, drop-cons, set_at, append_snoc, get_or-set_other}
use borrow.Author.Tests.{le-ltb, ltb-false}
use Rattle.base.specs.Fold.{up_to}
use Rattle.base.proofs.Fold.{up_keeps, up_keeps_below}
use Rattle.refusal.specs.Verdict.{Verdict}
use Rattle.std.specs.Prelude.{Ok, Err}
use Rattle.refusal.specs.declared.Refusal.TheVariants.{ShortBuffer}
use Rattle.refusal.specs.Checks.{first_of}
use Rattle.std.specs.Result.{is_ok}
use Rattle.bus.specs.declared.Bus.{Bus}
use Rattle.bus.specs.Step.{entry_checks, event, step_given, step}
use Rattle.bus.specs.Run.{run_checks, Progress, noted, run_event, run_up_to, run_by, run}
use Rattle.bus.proofs.Typed.{OfItsType}
use Rattle.promises.specs.Playing.{World, after, answers_to}
use Rattle.promises.proofs.Kept.{Kept, event_keeps}
use Rattle.promises.proofs.Playing.{after_append, answers_append, answers_length}

-- event i as a step by itself
abbrev step_at : List ℕ → ℕ → Progress → Progress
step_at events i progress = noted i progress.3 (step progress.0 progress.1 progress.2 (get_or events i 0))

-- where the checks at entry pass, only those of the event are left
pub step_is_event : (bus : Bus) (array security : List ℕ) (word : ℕ) → first_of (entry_checks bus array security) ≡ Ok tt
    → step bus array security word ≡ event bus array security word
unfolding step
step_is_event bus array security word passed = ap (λ (verdict : Verdict). step_given verdict bus array security word) passed

-- so a step keeps what an event keeps
pub step_keeps : (bus : Bus) (array security : List ℕ) (word : ℕ) → OfItsType bus → first_of (entry_checks bus array security) ≡ Ok tt → Kept bus (step bus array security word)
step_keeps bus array security word typed passed = rw (step_is_event bus array security word passed) (event_keeps bus array security word typed passed)

-- the bus and both stores pass the checks at entry, and the bus is of its type
abbrev Sound : Progress → Type 0
Sound progress = (first_of (entry_checks progress.0 progress.1 progress.2) ≡ Ok tt) × OfItsType progress.0

sound_kept : (events : List ℕ) (i : ℕ) (progress : Progress) → Sound progress → Sound (run_event events i progress)
sound_kept events i progress (passed, typed) =
    let kept = event_keeps progress.0 progress.1 progress.2 (get_or events i 0) typed passed in
    (kept.enters, kept.typed)

events_are_steps : (events : List ℕ) (n : ℕ) (progress : Progress) → Sound progress → up_to (run_event events) n progress ≡ up_to (step_at events) n progress
unfolding up_to
events_are_steps events zero progress sound = refl
events_are_steps events (suc n) progress sound =
    let now = up_to (run_event events) n progress in
    let (passed, typed) = up_keeps (run_event events) Sound (sound_kept events) n progress sound in
    ap (noted n now.3) (sym (step_is_event now.0 now.1 now.2 (get_or events n 0) passed))
    ∙ ap (step_at events n) (events_are_steps events n progress sound)

module _ (bus : Bus) (array security events answers : List ℕ) where
  abbrev start : Progress
  start = (bus, array, security, answers)

  abbrev world : World
  world = (bus, array, security)

  abbrev ran : Verdict × Progress
  ran = run bus array security events answers

  -- a run that passes has passed the checks at entry, has room for the answers, and has played each event
  pub record PassedRun : Type 0 where
    pub enters : first_of (entry_checks bus array security) ≡ Ok tt
    pub room : length events ≤ length answers
    pub plays : ran ≡ ((Ok tt), up_to (run_event events) (length events) start)

  pub passed_run : (run bus array security events answers).0 ≡ Ok tt → PassedRun
  unfolding run run_up_to
  passed_run is =
      let (enters, room) = entry (ltb (length answers) (length events)) refl (first (first_of (run_checks bus array security events answers)) is) in
      record { enters = enters; room = room; plays = go (first_of (run_checks bus array security events answers)) is }
    where
      entry : (short : Bool) → ltb (length answers) (length events) ≡ short → cond short (Err ShortBuffer) (first_of (entry_checks bus array security)) ≡ Ok tt
          → (first_of (entry_checks bus array security) ≡ Ok tt) × (length events ≤ length answers)
      entry true said passed = absurd (false≢true (ap is_ok passed))
      entry false said passed = (passed, ltb-false _ _ said)

      first : (verdict : Verdict) → (run_by verdict events start).0 ≡ Ok tt → verdict ≡ Ok tt
      first (Ok tt) passed = refl
      first (Err refusal) passed = absurd (false≢true (ap is_ok passed))

      go : (verdict : Verdict) → (run_by verdict events start).0 ≡ Ok tt → run_by verdict events start ≡ ((Ok tt), up_to (run_event events) (length events) start)
      go (Ok tt) passed = refl
      go (Err refusal) passed = absurd (false≢true (ap is_ok passed))

  pub run_passes : first_of (entry_checks bus array security) ≡ Ok tt → length events ≤ length answers → (run bus array security events answers).0 ≡ Ok tt
  unfolding run
  run_passes enters room = rw (le-ltb (length answers) (length events) room, enters)

  -- where a list has led to, with its answers first in the buffer
  abbrev progress_after : List ℕ → List ℕ → Progress
  progress_after played rest = let now = after step world played in (now.0, now.1, now.2, answers_to step world played ++ rest)

  steps_play : (n : ℕ) → n ≤ length events → n ≤ length answers → up_to (step_at events) n start ≡ progress_after (take n events) (drop n answers)
  unfolding up_to after answers_to
  steps_play zero some fits = refl
  steps_play (suc n) some fits =
      let word : ℕ = get_or events n 0 in
      let played : List ℕ = take n events in
      let long : length (answers_to step world played) ≡ n = answers_length step world played ∙ length-take-le n events (omega arith) in
      rw (
        steps_play n (omega arith) (omega arith),
        take-suc events n 0 some,
        drop-cons answers n 0 fits,
        set_at (answers_to step world played) _ (drop (suc n) answers) _ n long,
        after_append step world played (word ∷ []),
        answers_append step world played (word ∷ []),
        append_snoc,
      )

  -- its state and stores are where its steps lead to, each with all its checks, its answers are theirs, and the rest of the buffer stays
  pub run_is_its_steps : OfItsType bus → (run bus array security events answers).0 ≡ Ok tt
      → let ends = after step (bus, array, security) events in
      run bus array security events answers
      ≡ ((Ok tt), (ends.0, ends.1, ends.2, answers_to step (bus, array, security) events ++ drop (length events) answers))
  run_is_its_steps typed is =
      let passed = passed_run is in
      passed.plays
      ∙ ap (λ (progress : Progress). ((Ok tt), progress))
      (events_are_steps events (length events) start (passed.enters, typed) ∙ steps_play (length events) (omega arith) passed.room)
      ∙ ap (λ (played : List ℕ). ((Ok tt), progress_after played (drop (length events) answers))) (take-length events)

  -- refused or not
  run_keeps : (P : Progress → Type 0) → ((i : ℕ) (progress : Progress) → i < length events → P progress → P (run_event events i progress)) → P start → P ran.1
  unfolding run run_up_to
  run_keeps P each first = go (first_of (run_checks bus array security events answers))
    where
      go : (verdict : Verdict) → P (run_by verdict events start).1
      go (Ok tt) = up_keeps_below (run_event events) P (length events) each start first
      go (Err refusal) = first

  pub answers_past_the_list_stay : (i d : ℕ) → length events ≤ i → get_or (run bus array security events answers).1.3 i d ≡ get_or answers i d
  answers_past_the_list_stay i d past =
      run_keeps (λ (progress : Progress). get_or progress.3 i d ≡ get_or answers i d)
      (λ k progress below same. get_or-set_other progress.3 k i _ d (λ (is : i ≡ k). absurd (omega arith)) ∙ same)
      refl

  pub answers_keep_their_length : length (run bus array security events answers).1.3 ≡ length answers
  answers_keep_their_length =
      run_keeps (λ (progress : Progress). length progress.3 ≡ length answers) (λ k progress below same. length-set progress.3 k _ ∙ same) refl

  pub run_keeps_the_bus_well_formed : OfItsType bus → (run bus array security events answers).0 ≡ Ok tt
      → let progress = (run bus array security events answers).1 in (first_of (entry_checks progress.0 progress.1 progress.2) ≡ Ok tt) × OfItsType progress.0
  run_keeps_the_bus_well_formed typed is =
      run_keeps Sound (λ i progress below. sound_kept events i progress) ((passed_run is).enters, typed)
