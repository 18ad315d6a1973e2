-- What holds of the two shares as they are, and as a Stop leaves them that ends data, holds after every event.
use Prim.Native.Nat.{ℕ}
use mathlib.Core.List.{List}
use Rattle.base.proofs.logic.Laws.{either}
use Rattle.load.specs.Load.{load_of}
use Rattle.control.specs.declared.Control.{Control}
use Rattle.control.specs.declared.phase.Data.{Data}
use Rattle.control.specs.Phase.{is_busy}
use Rattle.cycle.specs.Stop.{stop_data, stop}
use Rattle.cycle.proofs.Laws.{stop_either}
use Rattle.chip.specs.declared.Chip.{Chip}
use Rattle.chip.specs.declared.event.Event.{Event}
use Rattle.chip.specs.declared.event.Event.TheVariants.{Start, Stop, Sent, Read, Wp, CycleOver, PowerUp}
use Rattle.chip.specs.Chip as chip

module _ (c : Chip) (values array security : List ℕ) (P : List ℕ → List ℕ → Type 0) (now : P array security)
    (ends : (kind : Data) → P (stop_data kind c.control (load_of c.span values) array security).1 (stop_data kind c.control (load_of c.span values) array security).2) where
  pub shares_keep : (event : Event) → P (chip.step c values array security event).1 (chip.step c values array security event).2
  unfolding chip.step stop
  shares_keep Start = now
  shares_keep Stop =
      either (λ (x : Chip × List ℕ × List ℕ). P x.1 x.2) (is_busy c.control.phase) (c, array, security) _ now
      (stop_either c.control (load_of c.span values) array security (λ (x : Control × List ℕ × List ℕ). P x.1 x.2) c.control.phase (λ busy. now) now (λ kind takes. ends kind))
  shares_keep (Sent first byte) = now
  shares_keep (Read nack) = now
  shares_keep (Wp level) = now
  shares_keep CycleOver = now
  shares_keep PowerUp = now
