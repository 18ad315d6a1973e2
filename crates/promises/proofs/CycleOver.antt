-- Request E2 in words: 12 is given exactly when an event passes 10, 5, 6 and 7, is 07, and the chip that it names is not busy. Where that
-- chip is busy, 07 is done. Of the other chips nothing is asked.
use Prim.Native.Nat.{ℕ}
use native.Mathlib.Omega.{arith}
use mathlib.Core.Bool.{Bool, true, false, cond, false≢true}
use mathlib.Core.List.{List}
use mathlib.Core.Logic.{◌↔◌}
use mathlib.Core.Path.{◌≡◌, refl}
use lib.Dec.{eqb}
use borrow.Author.Tests.{eqb-true, not-true}
use Rattle.base.proofs.Fold.{none_any}
use Rattle.control.specs.Phase.{is_busy}
use Rattle.chip.specs.declared.Chip.{Chip}
use Rattle.chip.specs.declared.event.Event.TheVariants.{Start, Stop, Sent, Read, Wp, CycleOver, PowerUp}
use Rattle.std.specs.Prelude.{Ok}
use Rattle.refusal.specs.Refusal.{status_in}
use Rattle.refusal.specs.Checks.{first_of}
use Rattle.board.specs.Place.{placed}
use Rattle.decode.specs.declared.Addressed.TheVariants.{ToAll, ToOne}
use Rattle.decode.specs.Decode.{kind_of, value_of, decode_checks, addressed_in, addressed_of}
use Rattle.lineup.specs.Chips.{control_at}
use Rattle.line.specs.Line.{not_busy}
use Rattle.bus.specs.declared.Bus.{Bus}
use Rattle.bus.specs.Step.{entry_checks, step}
use Rattle.promises.proofs.Exactly.{step_exactly_when, step_passes_exactly_when}
use Rattle.promises.proofs.Formed.{none_holds}

-- only 07 asks for a busy chip, and it asks the chip that it names
asks_its_chip : (started : Bool) (kind value : ℕ) (chips : List Chip) → not_busy (addressed_in started kind value) chips ≡ true → (kind ≡ 7) × (is_busy (control_at chips value).phase ≡ false)
asks_its_chip started kind value chips = go (eqb kind 1) (eqb kind 2) (eqb kind 3) (eqb kind 4) (eqb kind 5) (eqb kind 6) (eqb kind 7) refl
  where
    go : (one two three four five six seven : Bool) → eqb kind 7 ≡ seven
        → not_busy (cond one (ToAll Start) (cond two (ToAll Stop) (cond three (ToAll (Sent started value)) (cond four (ToAll (Read (eqb value 1)))
        (cond five (ToOne value (Wp false)) (cond six (ToOne value (Wp true)) (cond seven (ToOne value CycleOver) (ToAll PowerUp)))))))) chips ≡ true
        → (kind ≡ 7) × (is_busy (control_at chips value).phase ≡ false)
    go true two three four five six seven is given = absurd (false≢true given)
    go false true three four five six seven is given = absurd (false≢true given)
    go false false true four five six seven is given = absurd (false≢true given)
    go false false false true five six seven is given = absurd (false≢true given)
    go false false false false true six seven is given = absurd (false≢true given)
    go false false false false false true seven is given = absurd (false≢true given)
    go false false false false false false true is given = (eqb-true kind 7 is, not-true _ given)
    go false false false false false false false is given = absurd (false≢true given)

module _ (bus : Bus) (array security : List ℕ) (word : ℕ) where
  -- an event that passes 10, 5, 6 and 7, and is 07
  abbrev pub IsCycleOver : Type 0
  IsCycleOver = (first_of (entry_checks bus array security) ≡ Ok tt) × (first_of (decode_checks bus.count word) ≡ Ok tt) × (kind_of word ≡ 7)

  abbrev pub is_its_chip_busy : Bool
  is_its_chip_busy = is_busy (control_at bus.chips (value_of word)).phase

  pub not_busy_exactly_when : (status_in (step bus array security word).0.answer ≡ 12) ↔ (IsCycleOver × (is_its_chip_busy ≡ false))
  unfolding addressed_of
  not_busy_exactly_when =
      let exactly = step_exactly_when bus array security word 12 (omega arith) in (
        λ given.
            let found = exactly.0 given in
            let (kind, free) = asks_its_chip bus.started (kind_of word) (value_of word) bus.chips found.1.1.1.1 in
            ((rw (found.0, found.1.0), rw (found.1.1.0, found.1.1.1.0), kind), free),
        λ holds.
            let entry = none_holds (entry_checks bus array security) holds.0.0 in
            let decoded = none_holds (decode_checks bus.count word) holds.0.1 in
            exactly.1 (entry.0, (entry.1.0, (decoded.0, (decoded.1.0, rw (holds.0.2, holds.1))))),
      )

  -- no byte is sent or read by it, so that 8 is not in question
  pub cycle_over_done : IsCycleOver → is_its_chip_busy ≡ true → status_in (step bus array security word).0.answer ≡ 0
  unfolding addressed_of
  cycle_over_done is busy =
      let entry = none_holds (entry_checks bus array security) is.0 in
      let decoded = none_holds (decode_checks bus.count word) is.1 in
      let calm = none_any (λ (i : ℕ). false) (placed bus.count) (λ i below. refl) in
      (step_passes_exactly_when bus array security word).1 (entry.0, (entry.1.0, (decoded.0, (decoded.1.0, (rw (is.2, busy), (rw is.2 calm, tt))))))
