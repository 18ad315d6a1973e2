-- Every public contract of this crate leaves one outcome: any two that it allows are equal.
use Rattle.base.proofs.Unique.{Unique, same}
use Rattle.wellformed.proofs.beside.side_by_side.Kinds as side_by_side_kinds
use Rattle.wellformed.proofs.beside.side_by_side.Reads as side_by_side_reads
use Rattle.wellformed.proofs.heeds_start.Kinds as heeds_start_kinds
use Rattle.wellformed.proofs.heeds_start.Reads as heeds_start_reads
use Rattle.wellformed.proofs.well_formed.Kinds as well_formed_kinds
use Rattle.wellformed.proofs.well_formed.Reads as well_formed_reads

pub side_by_side_unique : Unique side_by_side_kinds.ps side_by_side_kinds.r side_by_side_reads.Post
side_by_side_unique κs args x y at_x at_y = same

pub well_formed_unique : Unique well_formed_kinds.ps well_formed_kinds.r well_formed_reads.Post
well_formed_unique κs args x y at_x at_y = same

pub heeds_start_unique : Unique heeds_start_kinds.ps heeds_start_kinds.r heeds_start_reads.Post
heeds_start_unique κs args x y at_x at_y = same
