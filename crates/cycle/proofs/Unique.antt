-- Every public contract of this crate leaves one outcome: any two that it allows are equal, each lent store as the function
-- returns included.
use Prim.Native.Nat.{ℕ}
use mathlib.Core.List.{List}
use Rattle.control.specs.declared.Control.{Control}
use Rattle.base.proofs.Unique.{UniqueOutcome, same}
use Rattle.cycle.proofs.stop.Kinds as stop_kinds
use Rattle.cycle.proofs.stop.Reads as stop_reads

pub stop_unique : UniqueOutcome stop_kinds.ps stop_kinds.r (Control × List ℕ × List ℕ) (λ κs result at. (result, at.1.1.1.0.now, at.1.1.1.1.0.now)) stop_reads.Post
stop_unique κs args x y at_x at_y = same
