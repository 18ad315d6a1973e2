-- Every public contract of this crate leaves one outcome: any two that it allows are equal, each lent store as the
-- function returns included.
use Rattle.base.proofs.Unique.{Unique, UniqueOutcome, same}
use Prim.Native.Nat.{ℕ}
use mathlib.Core.List.{List}
use Rattle.line.specs.declared.Played.{Played}
use Rattle.line.proofs.line_verdict.Kinds as line_verdict_kinds
use Rattle.line.proofs.line_verdict.Reads as line_verdict_reads
use Rattle.line.proofs.play.Kinds as play_kinds
use Rattle.line.proofs.play.Reads as play_reads
use Rattle.line.proofs.line_reply.Kinds as line_reply_kinds
use Rattle.line.proofs.line_reply.Reads as line_reply_reads

pub line_verdict_unique : Unique line_verdict_kinds.ps line_verdict_kinds.r line_verdict_reads.Post
line_verdict_unique κs args x y at_x at_y = same

pub play_unique : UniqueOutcome play_kinds.ps play_kinds.r ((Played × List ℕ × List ℕ) × List ℕ) (λ κs result at. ((result, at.1.1.1.1.0.now, at.1.1.1.1.1.0.now), at.1.1.1.0.now)) play_reads.Post
play_unique κs args x y at_x at_y = same

pub line_reply_unique : Unique line_reply_kinds.ps line_reply_kinds.r line_reply_reads.Post
line_reply_unique κs args x y at_x at_y = same
