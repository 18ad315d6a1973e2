-- Every public contract of this crate leaves one outcome: any two that it allows are equal.
use Rattle.base.proofs.Unique.{Unique, same}
use Rattle.fault.proofs.fault_of.Kinds as fault_of_kinds
use Rattle.fault.proofs.fault_of.Reads as fault_of_reads

pub fault_of_unique : Unique fault_of_kinds.ps fault_of_kinds.r fault_of_reads.Post
fault_of_unique κs args x y at_x at_y = same
