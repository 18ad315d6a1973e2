-- Every public contract of this crate leaves one outcome: any two that it allows are equal.
use Rattle.base.proofs.Unique.{Unique, same}
use Rattle.status.proofs.U8FromStatus.from.Kinds as number_of_kinds
use Rattle.status.proofs.U8FromStatus.from.Reads as number_of_reads
use Rattle.status.proofs.greatest.Kinds as greatest_kinds
use Rattle.status.proofs.greatest.Reads as greatest_reads

pub number_of_unique : Unique number_of_kinds.ps number_of_kinds.r number_of_reads.Post
number_of_unique κs args x y at_x at_y = same

pub greatest_unique : Unique greatest_kinds.ps greatest_kinds.r greatest_reads.Post
greatest_unique κs args x y at_x at_y = same
