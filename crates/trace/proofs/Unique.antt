-- The public contracts of this crate leave one result: any two that they allow are equal. That of `words` says only that they fit their
-- room and have no LF.
use Rattle.base.proofs.Unique.{Unique, same}
use Rattle.trace.proofs.chips.is_array_byte.Kinds as is_array_byte_kinds
use Rattle.trace.proofs.chips.is_array_byte.Reads as is_array_byte_reads
use Rattle.trace.proofs.chips.is_register_byte.Kinds as is_register_byte_kinds
use Rattle.trace.proofs.chips.is_register_byte.Reads as is_register_byte_reads
use Rattle.trace.proofs.chips.who.Kinds as who_kinds
use Rattle.trace.proofs.chips.who.Reads as who_reads
use Rattle.trace.proofs.chips.which.Kinds as which_kinds
use Rattle.trace.proofs.chips.which.Reads as which_reads
use Rattle.trace.proofs.chips.chip_at.Kinds as chip_at_kinds
use Rattle.trace.proofs.chips.chip_at.Reads as chip_at_reads
use Rattle.trace.proofs.dropped.dropped_of.Kinds as dropped_of_kinds
use Rattle.trace.proofs.dropped.dropped_of.Reads as dropped_of_reads
use Rattle.trace.proofs.ending.ending_of.Kinds as ending_of_kinds
use Rattle.trace.proofs.ending.ending_of.Reads as ending_of_reads
use Rattle.trace.proofs.role.role_of.Kinds as role_of_kinds
use Rattle.trace.proofs.role.role_of.Reads as role_of_reads

pub is_array_byte_unique : Unique is_array_byte_kinds.ps is_array_byte_kinds.r is_array_byte_reads.Post
is_array_byte_unique κs args x y at_x at_y = same

pub is_register_byte_unique : Unique is_register_byte_kinds.ps is_register_byte_kinds.r is_register_byte_reads.Post
is_register_byte_unique κs args x y at_x at_y = same

pub who_unique : Unique who_kinds.ps who_kinds.r who_reads.Post
who_unique κs args x y at_x at_y = same

pub which_unique : Unique which_kinds.ps which_kinds.r which_reads.Post
which_unique κs args x y at_x at_y = same

pub chip_at_unique : Unique chip_at_kinds.ps chip_at_kinds.r chip_at_reads.Post
chip_at_unique κs args x y at_x at_y = same

pub dropped_of_unique : Unique dropped_of_kinds.ps dropped_of_kinds.r dropped_of_reads.Post
dropped_of_unique κs args x y at_x at_y = same

pub ending_of_unique : Unique ending_of_kinds.ps ending_of_kinds.r ending_of_reads.Post
ending_of_unique κs args x y at_x at_y = same

pub role_of_unique : Unique role_of_kinds.ps role_of_kinds.r role_of_reads.Post
role_of_unique κs args x y at_x at_y = same
