-- What a read comes to, by the phase: a chip that sends sends a byte, and any other stays as it is.
use Prim.Native.Nat.{ℕ}
use mathlib.Core.Bool.{Bool}
use mathlib.Core.List.{List}
use mathlib.Core.Path.{◌≡◌, refl}
use Rattle.control.specs.declared.Control.{Control}
use Rattle.control.specs.declared.Answered.{Answered}
use Rattle.control.specs.declared.phase.Phase.{Phase}
use Rattle.control.specs.declared.phase.Phase.TheVariants.{Standby, Busy, AwaitsAddress, AwaitsChoice, AwaitsWord, TakesData, SendsByte}
use Rattle.control.specs.declared.phase.Source.{Source}
use Rattle.control.specs.Said.{stays}
use Rattle.sending.specs.Sending.{send, read_in}

module _ (c : Control) (array security : List ℕ) (nack : Bool) (P : Answered → Type 0) (now : P (stays c)) where
  pub read_either : (phase : Phase) → ((source : Source) → phase ≡ SendsByte source → P (send source c array security nack))
      → P (read_in phase c array security nack)
  read_either Standby sends = now
  read_either Busy sends = now
  read_either AwaitsAddress sends = now
  read_either AwaitsChoice sends = now
  read_either (AwaitsWord word) sends = now
  read_either (TakesData kind) sends = now
  read_either (SendsByte source) sends = sends source refl
