-- The public contracts of this crate leave one result: any two that they allow are equal.
use Rattle.base.proofs.Unique.{Unique, same}
use Rattle.print.proofs.byte_text.Kinds as byte_text_kinds
use Rattle.print.proofs.byte_text.Reads as byte_text_reads
use Rattle.print.proofs.printed.Kinds as printed_kinds
use Rattle.print.proofs.printed.Reads as printed_reads
use Rattle.print.proofs.closing.Kinds as closing_kinds
use Rattle.print.proofs.closing.Reads as closing_reads

pub byte_text_unique : Unique byte_text_kinds.ps byte_text_kinds.r byte_text_reads.Post
byte_text_unique κs args x y at_x at_y = same

pub printed_unique : Unique printed_kinds.ps printed_kinds.r printed_reads.Post
printed_unique κs args x y at_x at_y = same

pub closing_unique : Unique closing_kinds.ps closing_kinds.r closing_reads.Post
closing_unique κs args x y at_x at_y = same
