-- Every public contract of this crate leaves one outcome: any two that it allows are equal, each lent store as the function
-- returns included.
use Prim.Native.Nat.{ℕ}
use mathlib.Core.List.{List}
use Rattle.base.proofs.Unique.{Unique, UniqueOutcome, same}
use Rattle.factory.proofs.erased_arrays.Kinds as erased_arrays_kinds
use Rattle.factory.proofs.erased_arrays.Reads as erased_arrays_reads
use Rattle.factory.proofs.erased_registers.Kinds as erased_registers_kinds
use Rattle.factory.proofs.erased_registers.Reads as erased_registers_reads
use Rattle.factory.proofs.mark_serials.Kinds as mark_serials_kinds
use Rattle.factory.proofs.mark_serials.Reads as mark_serials_reads

pub erased_arrays_unique : Unique erased_arrays_kinds.ps erased_arrays_kinds.r erased_arrays_reads.Post
erased_arrays_unique κs args x y at_x at_y of_x of_y = same of_x.1 of_y.1

pub erased_registers_unique : Unique erased_registers_kinds.ps erased_registers_kinds.r erased_registers_reads.Post
erased_registers_unique κs args x y at_x at_y of_x of_y = same of_x.1 of_y.1

pub mark_serials_unique : UniqueOutcome mark_serials_kinds.ps mark_serials_kinds.r (List ℕ) (λ κs result at. at.1.1.0.now) mark_serials_reads.Post
mark_serials_unique κs args x y at_x at_y = same
