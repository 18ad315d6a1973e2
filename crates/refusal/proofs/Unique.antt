-- Every public contract of this crate leaves one outcome: any two that it allows are equal.
use Rattle.base.proofs.Unique.{Unique, same}
use Rattle.refusal.proofs.U8FromRefusal.from.Kinds as number_of_kinds
use Rattle.refusal.proofs.U8FromRefusal.from.Reads as number_of_reads
use Rattle.refusal.proofs.status_of.Kinds as status_of_kinds
use Rattle.refusal.proofs.status_of.Reads as status_of_reads
use Rattle.refusal.proofs.is_passed.Kinds as is_passed_kinds
use Rattle.refusal.proofs.is_passed.Reads as is_passed_reads
use Rattle.refusal.proofs.answer_word.Kinds as answer_word_kinds
use Rattle.refusal.proofs.answer_word.Reads as answer_word_reads

pub number_of_unique : Unique number_of_kinds.ps number_of_kinds.r number_of_reads.Post
number_of_unique κs args x y at_x at_y = same

pub status_of_unique : Unique status_of_kinds.ps status_of_kinds.r status_of_reads.Post
status_of_unique κs args x y at_x at_y = same

pub is_passed_unique : Unique is_passed_kinds.ps is_passed_kinds.r is_passed_reads.Post
is_passed_unique κs args x y at_x at_y = same

pub answer_word_unique : Unique answer_word_kinds.ps answer_word_kinds.r answer_word_reads.Post
answer_word_unique κs args x y at_x at_y = same
