-- Every public contract of this crate leaves one result: any two that it allows are equal.
use Rattle.base.proofs.Unique.{Unique, same}
use Rattle.sending.proofs.read.Kinds as read_kinds
use Rattle.sending.proofs.read.Reads as read_reads

pub read_unique : Unique read_kinds.ps read_kinds.r read_reads.Post
read_unique κs args x y at_x at_y = same
