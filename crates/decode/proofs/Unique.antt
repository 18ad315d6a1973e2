-- Every public contract of this crate leaves one outcome: any two that it allows are equal.
use Rattle.base.proofs.Unique.{Unique, same}
use Rattle.decode.proofs.hearing.lacks_cycle.Kinds as lacks_cycle_kinds
use Rattle.decode.proofs.hearing.lacks_cycle.Reads as lacks_cycle_reads
use Rattle.decode.proofs.hearing.clashes_with.Kinds as clashes_with_kinds
use Rattle.decode.proofs.hearing.clashes_with.Reads as clashes_with_reads
use Rattle.decode.proofs.decode_verdict.Kinds as decode_verdict_kinds
use Rattle.decode.proofs.decode_verdict.Reads as decode_verdict_reads
use Rattle.decode.proofs.addressed_of.Kinds as addressed_of_kinds
use Rattle.decode.proofs.addressed_of.Reads as addressed_of_reads
use Rattle.decode.proofs.reaches.Kinds as reaches_kinds
use Rattle.decode.proofs.reaches.Reads as reaches_reads
use Rattle.decode.proofs.event_of.Kinds as event_of_kinds
use Rattle.decode.proofs.event_of.Reads as event_of_reads

pub lacks_cycle_unique : Unique lacks_cycle_kinds.ps lacks_cycle_kinds.r lacks_cycle_reads.Post
lacks_cycle_unique κs args x y at_x at_y = same

pub clashes_with_unique : Unique clashes_with_kinds.ps clashes_with_kinds.r clashes_with_reads.Post
clashes_with_unique κs args x y at_x at_y = same

pub decode_verdict_unique : Unique decode_verdict_kinds.ps decode_verdict_kinds.r decode_verdict_reads.Post
decode_verdict_unique κs args x y at_x at_y = same

pub addressed_of_unique : Unique addressed_of_kinds.ps addressed_of_kinds.r addressed_of_reads.Post
addressed_of_unique κs args x y at_x at_y = same

pub reaches_unique : Unique reaches_kinds.ps reaches_kinds.r reaches_reads.Post
reaches_unique κs args x y at_x at_y = same

pub event_of_unique : Unique event_of_kinds.ps event_of_kinds.r event_of_reads.Post
event_of_unique κs args x y at_x at_y = same
