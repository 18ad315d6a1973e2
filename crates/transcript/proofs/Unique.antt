-- Every public contract of this crate leaves one result: any two that it allows are equal.
use Rattle.base.proofs.Unique.{Unique, same}
use Rattle.transcript.proofs.digit.digit_of.Kinds as digit_of_kinds
use Rattle.transcript.proofs.digit.digit_of.Reads as digit_of_reads
use Rattle.transcript.proofs.digit.digit_value.Kinds as digit_value_kinds
use Rattle.transcript.proofs.digit.digit_value.Reads as digit_value_reads
use Rattle.transcript.proofs.frame.frame_at.Kinds as frame_at_kinds
use Rattle.transcript.proofs.frame.frame_at.Reads as frame_at_reads

pub digit_of_unique : Unique digit_of_kinds.ps digit_of_kinds.r digit_of_reads.Post
digit_of_unique κs args x y at_x at_y = same

pub digit_value_unique : Unique digit_value_kinds.ps digit_value_kinds.r digit_value_reads.Post
digit_value_unique κs args x y at_x at_y = same

pub frame_at_unique : Unique frame_at_kinds.ps frame_at_kinds.r frame_at_reads.Post
frame_at_unique κs args x y at_x at_y = same
