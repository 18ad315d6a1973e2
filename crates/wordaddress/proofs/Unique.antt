-- Every public contract of this crate leaves one result: any two that it allows are equal.
use Rattle.base.proofs.Unique.{Unique, same}
use Rattle.wordaddress.proofs.register_of.Kinds as register_of_kinds
use Rattle.wordaddress.proofs.register_of.Reads as register_of_reads
use Rattle.wordaddress.proofs.take_word.Kinds as take_word_kinds
use Rattle.wordaddress.proofs.take_word.Reads as take_word_reads

pub register_of_unique : Unique register_of_kinds.ps register_of_kinds.r register_of_reads.Post
register_of_unique κs args x y at_x at_y = same

pub take_word_unique : Unique take_word_kinds.ps take_word_kinds.r take_word_reads.Post
take_word_unique κs args x y at_x at_y = same
