-- What the byte after F8h comes to, whatever byte it is: the chip is chosen and acknowledges, or it goes to standby in silence. And a byte that
-- finds the chip busy: it stays, occupied or silent. What is asked of a chip its part is able to do.
use Prim.Native.Nat.{ℕ}
use mathlib.Core.Bool.{Bool, true, ◌&&◌}
use mathlib.Core.Path.{◌≡◌, refl}
use Rattle.base.proofs.logic.Laws.{either, either_if}
use Rattle.parts.specs.declared.part.Geometry.{Geometry}
use Rattle.parts.specs.Part.{geometry_of}
use Rattle.control.specs.declared.Control.{Control}
use Rattle.control.specs.declared.Answered.{Answered}
use Rattle.control.specs.declared.phase.Phase.TheVariants.{Standby}
use Rattle.control.specs.Control.{choosing}
use Rattle.control.specs.Said.{acked, silent, occupied, stays}
use Rattle.addressing.specs.declared.Call.{Call}
use Rattle.addressing.specs.declared.Call.TheVariants.{ReadArray, WriteArray, Nobody}
use Rattle.addressing.specs.Address.{call_by_form, is_able, call_of, names, take_busy, take_chosen, take_choice}

module _ (c : Control) (byte : ℕ) (P : Answered → Type 0) (picked : P (acked Standby (choosing true c))) (passed : P (silent Standby c)) where
  by_call : (call : Call) → P (take_chosen call c)
  by_call ReadArray = picked
  by_call (WriteArray a16) = picked
  by_call _ = passed

  pub choice_either : P (take_choice c byte)
  unfolding take_choice
  choice_either = by_call (call_of (geometry_of c.part) c.strap byte)

pub busy_either : (c : Control) (first : Bool) (byte : ℕ) (P : Answered → Type 0) → P (occupied c) → P (stays c) → P (take_busy c first byte)
unfolding take_busy
busy_either c first byte P = either P (first && names byte c) (occupied c) (stays c)

pub able_call : (g : Geometry) (strap byte : ℕ) → is_able g (call_of g strap byte) ≡ true
unfolding call_of
able_call g strap byte = either_if (λ (call : Call). is_able g call ≡ true) (is_able g (call_by_form g strap byte)) _ Nobody (λ able. able) refl
