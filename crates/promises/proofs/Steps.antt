-- Demand 2 of a single step that is not refused: the bus's step is the chip's step at each chip, on its own shares, and the answer is
-- gathered from all. The checks have made sure of the lengths that shares stand on.
use Prim.Native.Nat.{ℕ, ◌<◌, ◌≤◌}
use native.Mathlib.Omega.{arith}
use mathlib.Core.List.{List}
use mathlib.Core.Path.{◌≡◌, ◌∙◌, ap}
use Rattle.refusal.specs.Verdict.{Verdict}
use Rattle.std.specs.Prelude.{Ok}
use Rattle.refusal.specs.Checks.{first_of}
use Rattle.decode.specs.declared.Addressed.{Addressed}
use Rattle.decode.specs.Decode.{addressed_of, event_of}
use Rattle.lineup.specs.Chips.{chip_at, places_of}
use Rattle.line.specs.Line.{array_share, security_share, line_reply}
use Rattle.bus.specs.declared.Bus.{Bus}
use Rattle.bus.specs.declared.Stepped.{Stepped}
use Rattle.bus.specs.Step.{step_checks, step_by, played, step}
use Rattle.bus.proofs.Entry.{Entered, entered, step_by_checks}
use Rattle.bus.proofs.Typed.{OfItsType, has_four}
use Rattle.promises.specs.Own.{own, gathered}
use Rattle.promises.proofs.Chips.{each_chip_takes_its_own, the_rest_stays, answer_is_gathered}
use Rattle.promises.proofs.Formed.{none_holds}

module _ (bus : Bus) (array security : List ℕ) (word : ℕ) (typed : OfItsType bus) (passes : first_of (step_checks bus array security word) ≡ Ok tt) where
  abbrev addressed : Addressed
  addressed = addressed_of bus.started word

  abbrev after : Stepped × List ℕ × List ℕ
  after = step bus array security word

  enters : Entered bus array security
  enters =
      let none = none_holds (step_checks bus array security word) passes in
      entered bus array security (rw (none.0, none.1.0))

  plays : after ≡ played addressed bus array security
  plays = step_by_checks bus array security word ∙ ap (λ (verdict : Verdict). step_by verdict bus array security word) passes

  pub step_is_each_chips_own : (i : ℕ) → i < bus.count
      → (chip_at after.0.bus.chips i ≡ (own addressed bus.chips bus.values array security i).0.chip)
      × (array_share (places_of bus.chips) i after.1 ≡ (own addressed bus.chips bus.values array security i).1)
      × (security_share (places_of bus.chips) i after.2 ≡ (own addressed bus.chips bus.values array security i).2)
  unfolding played
  step_is_each_chips_own i below =
      rw plays
      (each_chip_takes_its_own addressed bus.count bus.chips bus.values array security (has_four typed) enters.array_fits enters.security_fits i (omega (arith, enters.all_placed)))

  pub step_leaves_the_rest : (i : ℕ) → bus.count ≤ i → chip_at after.0.bus.chips i ≡ chip_at bus.chips i
  unfolding played
  step_leaves_the_rest i past =
      rw plays (the_rest_stays addressed bus.count bus.chips bus.values array security (has_four typed) enters.array_fits enters.security_fits i (omega (arith, enters.all_placed)))

  pub step_answers_for_all : after.0.answer ≡ Ok (line_reply (event_of addressed) (gathered addressed bus.count bus.chips bus.values array security))
  unfolding played
  step_answers_for_all =
      rw (plays, answer_is_gathered addressed bus.count bus.chips bus.values array security (has_four typed) enters.array_fits enters.security_fits)

  pub step_keeps_the_count : after.0.bus.count ≡ bus.count
  unfolding played
  step_keeps_the_count = rw plays
