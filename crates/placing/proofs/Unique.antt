-- Every public contract of this crate leaves one outcome: any two that it allows are equal.
use Rattle.base.proofs.Unique.{Unique, same}
use Rattle.placing.proofs.place_named.Kinds as place_named_kinds
use Rattle.placing.proofs.place_named.Reads as place_named_reads
use Rattle.placing.proofs.layout.Board.bare.Kinds as bare_kinds
use Rattle.placing.proofs.layout.Board.bare.Reads as bare_reads
use Rattle.placing.proofs.layout.Board.with_chip.Kinds as with_chip_kinds
use Rattle.placing.proofs.layout.Board.with_chip.Reads as with_chip_reads
use Rattle.placing.proofs.layout.Board.of_paper.Kinds as of_paper_kinds
use Rattle.placing.proofs.layout.Board.of_paper.Reads as of_paper_reads
use Rattle.placing.proofs.layout.Board.or_paper.Kinds as or_paper_kinds
use Rattle.placing.proofs.layout.Board.or_paper.Reads as or_paper_reads
use Rattle.placing.proofs.layout.Board.array_end.Kinds as array_end_kinds
use Rattle.placing.proofs.layout.Board.array_end.Reads as array_end_reads
use Rattle.placing.proofs.layout.Board.security_end.Kinds as security_end_kinds
use Rattle.placing.proofs.layout.Board.security_end.Reads as security_end_reads

pub place_named_unique : Unique place_named_kinds.ps place_named_kinds.r place_named_reads.Post
place_named_unique κs args x y at_x at_y = same

pub bare_unique : Unique bare_kinds.ps bare_kinds.r bare_reads.Post
bare_unique κs args x y at_x at_y = same

pub with_chip_unique : Unique with_chip_kinds.ps with_chip_kinds.r with_chip_reads.Post
with_chip_unique κs args x y at_x at_y = same

pub of_paper_unique : Unique of_paper_kinds.ps of_paper_kinds.r of_paper_reads.Post
of_paper_unique κs args x y at_x at_y = same

pub or_paper_unique : Unique or_paper_kinds.ps or_paper_kinds.r or_paper_reads.Post
or_paper_unique κs args x y at_x at_y = same

pub array_end_unique : Unique array_end_kinds.ps array_end_kinds.r array_end_reads.Post
array_end_unique κs args x y at_x at_y of_x of_y = same of_x.1 of_y.1

pub security_end_unique : Unique security_end_kinds.ps security_end_kinds.r security_end_reads.Post
security_end_unique κs args x y at_x at_y of_x of_y = same of_x.1 of_y.1
