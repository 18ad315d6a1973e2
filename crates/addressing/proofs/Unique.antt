-- Every public contract of this crate leaves one result: any two that it allows are equal.
use Rattle.base.proofs.Unique.{Unique, same}
use Rattle.addressing.proofs.call_of.Kinds as call_of_kinds
use Rattle.addressing.proofs.call_of.Reads as call_of_reads
use Rattle.addressing.proofs.take_address.Kinds as take_address_kinds
use Rattle.addressing.proofs.take_address.Reads as take_address_reads
use Rattle.addressing.proofs.take_busy.Kinds as take_busy_kinds
use Rattle.addressing.proofs.take_busy.Reads as take_busy_reads
use Rattle.addressing.proofs.take_choice.Kinds as take_choice_kinds
use Rattle.addressing.proofs.take_choice.Reads as take_choice_reads

pub call_of_unique : Unique call_of_kinds.ps call_of_kinds.r call_of_reads.Post
call_of_unique κs args x y at_x at_y = same

pub take_address_unique : Unique take_address_kinds.ps take_address_kinds.r take_address_reads.Post
take_address_unique κs args x y at_x at_y = same

pub take_busy_unique : Unique take_busy_kinds.ps take_busy_kinds.r take_busy_reads.Post
take_busy_unique κs args x y at_x at_y = same

pub take_choice_unique : Unique take_choice_kinds.ps take_choice_kinds.r take_choice_reads.Post
take_choice_unique κs args x y at_x at_y = same
