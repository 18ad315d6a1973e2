-- A byte sent means nothing to a chip that does not hear it, and a byte read nothing to one that sends none: it stays as it is and says nothing, and
-- the values stay.
use Prim.Native.Nat.{ℕ}
use mathlib.Core.Bool.{Bool, true, false, cond, ◌&&◌, true≢false}
use mathlib.Core.List.{List}
use mathlib.Core.Path.{◌≡◌, refl, sym, ap}
use Rattle.base.proofs.logic.Laws.{or_none}
use Rattle.control.specs.declared.Answered.{Answered}
use Rattle.control.specs.declared.phase.Phase.{Phase}
use Rattle.control.specs.Phase.{is_sending}
use Rattle.control.proofs.phase.Laws.{not_taking_is}
use Rattle.taking.specs.Taking as taking
use Rattle.taking.proofs.Laws.{unheard}
use Rattle.sending.specs.Sending as sending
use Rattle.sending.proofs.Laws.{read_either}
use Rattle.chip.specs.declared.Chip.{Chip}
use Rattle.chip.specs.declared.Stepped.{Stepped}
use Rattle.chip.specs.declared.event.Event.TheVariants.{Sent, Read}
use Rattle.chip.specs.Chip.{quiet, taken, read, step}
use Rattle.line.specs.Line.{hears}

module _ (c : Chip) where
  pub deaf_to_sent : (first : Bool) (byte : ℕ) (values : List ℕ) → hears first c.control.phase ≡ false → taken c first byte values ≡ (quiet c, values)
  unfolding taking.span_after taking.values_after
  deaf_to_sent first byte values deaf =
      let none = or_none _ _ deaf in
      not_taking_is c.control.phase none.0 (λ (phase : Phase). c.control.phase ≡ phase → taken c first byte values ≡ (quiet c, values))
      (λ is. rw (unheard c.control byte first none.0 none.1, is))
      (λ is. rw (unheard c.control byte first none.0 none.1, is))
      (λ source is. rw (unheard c.control byte first none.0 none.1, is))
      refl

  pub deaf_to_read : (array security : List ℕ) (nack : Bool) → is_sending c.control.phase ≡ false → read c array security nack ≡ quiet c
  unfolding sending.read
  deaf_to_read array security nack deaf =
      read_either c.control array security nack (λ (x : Answered). record { chip = record { control = x.control; span = c.span }; said = x.said } ≡ quiet c) refl c.control.phase
      (λ source sends. absurd (true≢false (rw sends at deaf)))

  -- the same, of its step
  module _ (values array security : List ℕ) where
    pub sent_stays : (first : Bool) (byte : ℕ) → hears first c.control.phase ≡ false → step c values array security (Sent first byte) ≡ (quiet c, array, security)
    unfolding step
    sent_stays first byte deaf = ap (λ (x : Stepped × List ℕ). (x.0, array, security)) (deaf_to_sent first byte values deaf)

    pub read_stays : (nack : Bool) → is_sending c.control.phase ≡ false → step c values array security (Read nack) ≡ (quiet c, array, security)
    unfolding step
    read_stays nack deaf = ap (λ (x : Stepped). (x, array, security)) (deaf_to_read array security nack deaf)

-- so a chip that an event does not reach, or that is deaf to it, need not be moved
pub passed_by : {A : Type 0} (reached hears : Bool) (moved stays : A) → (hears ≡ false → moved ≡ stays) → (reached && hears) ≡ false → stays ≡ cond reached moved stays
passed_by true hears moved stays deaf not = sym (deaf not)
passed_by false hears moved stays deaf not = refl
