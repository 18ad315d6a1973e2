-- Every public contract of this crate leaves one result: any two that it allows are equal.
use Rattle.base.proofs.Unique.{Unique, same}
use Rattle.protection.proofs.is_protected.Kinds as is_protected_kinds
use Rattle.protection.proofs.is_protected.Reads as is_protected_reads
use Rattle.protection.proofs.id_page_protected.Kinds as id_page_protected_kinds
use Rattle.protection.proofs.id_page_protected.Reads as id_page_protected_reads

pub is_protected_unique : Unique is_protected_kinds.ps is_protected_kinds.r is_protected_reads.Post
is_protected_unique κs args x y at_x at_y = same

pub id_page_protected_unique : Unique id_page_protected_kinds.ps id_page_protected_kinds.r id_page_protected_reads.Post
id_page_protected_unique κs args x y at_x at_y = same
