-- Every public contract of this crate leaves one result: any two that it allows are equal.
use Rattle.base.proofs.Unique.{Unique, same}
use Rattle.parts.proofs.address.answers.Kinds as answers_kinds
use Rattle.parts.proofs.address.answers.Reads as answers_reads
use Rattle.parts.proofs.address.a16_of.Kinds as a16_of_kinds
use Rattle.parts.proofs.address.a16_of.Reads as a16_of_reads
use Rattle.parts.proofs.address.share_address.Kinds as share_address_kinds
use Rattle.parts.proofs.address.share_address.Reads as share_address_reads
use Rattle.parts.proofs.part.is_part.Kinds as is_part_kinds
use Rattle.parts.proofs.part.is_part.Reads as is_part_reads
use Rattle.parts.proofs.part.geometry_of.Kinds as geometry_of_kinds
use Rattle.parts.proofs.part.geometry_of.Reads as geometry_of_reads

pub answers_unique : Unique answers_kinds.ps answers_kinds.r answers_reads.Post
answers_unique κs args x y at_x at_y = same

pub a16_of_unique : Unique a16_of_kinds.ps a16_of_kinds.r a16_of_reads.Post
a16_of_unique κs args x y at_x at_y = same

pub share_address_unique : Unique share_address_kinds.ps share_address_kinds.r share_address_reads.Post
share_address_unique κs args x y at_x at_y = same

pub is_part_unique : Unique is_part_kinds.ps is_part_kinds.r is_part_reads.Post
is_part_unique κs args x y at_x at_y = same

pub geometry_of_unique : Unique geometry_of_kinds.ps geometry_of_kinds.r geometry_of_reads.Post
geometry_of_unique κs args x y at_x at_y = same
