-- Every public contract of this crate leaves one result: any two that it allows are equal.
use Prim.Native.Nat.{ℕ}
use mathlib.Core.List.{List}
use Rattle.base.proofs.Unique.{Unique, UniqueOutcome, same}
use Rattle.load.specs.declared.Span.{Span}
use Rattle.taking.proofs.take.Kinds as take_kinds
use Rattle.taking.proofs.take.Reads as take_reads
use Rattle.taking.proofs.loaded.Kinds as loaded_kinds
use Rattle.taking.proofs.loaded.Reads as loaded_reads

pub take_unique : Unique take_kinds.ps take_kinds.r take_reads.Post
take_unique κs args x y at_x at_y = same

pub loaded_unique : UniqueOutcome loaded_kinds.ps loaded_kinds.r (Span × List ℕ) (λ κs result at. (result, at.1.1.1.0.now)) loaded_reads.Post
loaded_unique κs args x y at_x at_y = same
