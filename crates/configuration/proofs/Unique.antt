-- Every public contract of this crate leaves one result: any two that it allows are equal.
use Rattle.base.proofs.Unique.{Unique, same}
use Rattle.configuration.proofs.stop_configuration.Kinds as stop_configuration_kinds
use Rattle.configuration.proofs.stop_configuration.Reads as stop_configuration_reads

pub stop_configuration_unique : Unique stop_configuration_kinds.ps stop_configuration_kinds.r stop_configuration_reads.Post
stop_configuration_unique κs args x y at_x at_y = same
