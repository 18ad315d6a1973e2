-- Every public contract of this crate leaves one outcome: any two that it allows are equal.
use Rattle.base.proofs.Unique.{Unique, same}
use Rattle.board.proofs.placed.Kinds as placed_kinds
use Rattle.board.proofs.placed.Reads as placed_reads
use Rattle.board.proofs.board_verdict.Kinds as board_verdict_kinds
use Rattle.board.proofs.board_verdict.Reads as board_verdict_reads
use Rattle.board.proofs.shares.array_start.Kinds as array_start_kinds
use Rattle.board.proofs.shares.array_start.Reads as array_start_reads
use Rattle.board.proofs.shares.security_start.Kinds as security_start_kinds
use Rattle.board.proofs.shares.security_start.Reads as security_start_reads
use Rattle.board.proofs.shares.wrong_length.Kinds as wrong_length_kinds
use Rattle.board.proofs.shares.wrong_length.Reads as wrong_length_reads

pub placed_unique : Unique placed_kinds.ps placed_kinds.r placed_reads.Post
placed_unique κs args x y at_x at_y = same

pub board_verdict_unique : Unique board_verdict_kinds.ps board_verdict_kinds.r board_verdict_reads.Post
board_verdict_unique κs args x y at_x at_y = same

pub array_start_unique : Unique array_start_kinds.ps array_start_kinds.r array_start_reads.Post
array_start_unique κs args x y at_x at_y = same

pub security_start_unique : Unique security_start_kinds.ps security_start_kinds.r security_start_reads.Post
security_start_unique κs args x y at_x at_y = same

pub wrong_length_unique : Unique wrong_length_kinds.ps wrong_length_kinds.r wrong_length_reads.Post
wrong_length_unique κs args x y at_x at_y = same
