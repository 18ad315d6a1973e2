-- What a byte leaves of a chip that takes none: the chip as it is. Only a busy chip says something, and only to the first byte after a Start.
use Prim.Native.Nat.{ℕ}
use mathlib.Core.Bool.{Bool, true, false, ◌&&◌, true≢false}
use mathlib.Core.Path.{◌≡◌, refl}
use Rattle.control.specs.declared.Control.{Control}
use Rattle.control.specs.declared.phase.Phase.{Phase}
use Rattle.control.specs.Phase.{is_busy, is_taking}
use Rattle.control.specs.Said.{stays}
use Rattle.control.proofs.phase.Laws.{not_taking_is}
use Rattle.addressing.specs.Address.{take_busy}
use Rattle.taking.specs.Taking.{take_in, take}

module _ (c : Control) (byte : ℕ) where
  later : (first : Bool) → (first && true) ≡ false → take_busy c first byte ≡ stays c
  unfolding take_busy
  later true is = absurd (true≢false is)
  later false is = refl

  pub unheard : (first : Bool) → is_taking c.phase ≡ false → (first && is_busy c.phase) ≡ false → take c first byte ≡ stays c
  unfolding take
  unheard first deaf =
      not_taking_is c.phase deaf (λ (phase : Phase). (first && is_busy phase) ≡ false → take_in phase c first byte ≡ stays c)
      (λ is. refl)
      (later first)
      (λ source is. refl)
