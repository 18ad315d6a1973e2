-- Every public contract of this crate leaves one outcome: any two that it allows are equal.
use Rattle.base.proofs.Unique.{Unique, same}
use Rattle.lineup.proofs.places_of.Kinds as places_of_kinds
use Rattle.lineup.proofs.places_of.Reads as places_of_reads
use Rattle.lineup.proofs.controls_of.Kinds as controls_of_kinds
use Rattle.lineup.proofs.controls_of.Reads as controls_of_reads
use Rattle.lineup.proofs.well_formed.Kinds as well_formed_kinds
use Rattle.lineup.proofs.well_formed.Reads as well_formed_reads

pub places_of_unique : Unique places_of_kinds.ps places_of_kinds.r places_of_reads.Post
places_of_unique κs args x y at_x at_y = same

pub controls_of_unique : Unique controls_of_kinds.ps controls_of_kinds.r controls_of_reads.Post
controls_of_unique κs args x y at_x at_y = same

pub well_formed_unique : Unique well_formed_kinds.ps well_formed_kinds.r well_formed_reads.Post
well_formed_unique κs args x y at_x at_y = same
