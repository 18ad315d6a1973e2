-- Every public contract of this crate leaves one result: any two that it allows are equal.
use Rattle.base.proofs.Unique.{Unique, same}
use Rattle.regions.proofs.counter.counter_in.Kinds as counter_in_kinds
use Rattle.regions.proofs.counter.counter_in.Reads as counter_in_reads
use Rattle.regions.proofs.page.page_of.Kinds as page_of_kinds
use Rattle.regions.proofs.page.page_of.Reads as page_of_reads
use Rattle.regions.proofs.page.place_of.Kinds as place_of_kinds
use Rattle.regions.proofs.page.place_of.Reads as place_of_reads
use Rattle.regions.proofs.page.next_in.Kinds as next_in_kinds
use Rattle.regions.proofs.page.next_in.Reads as next_in_reads
use Rattle.regions.proofs.page.next_in_page.Kinds as next_in_page_kinds
use Rattle.regions.proofs.page.next_in_page.Reads as next_in_page_reads
use Rattle.regions.proofs.page.in_id_page.Kinds as in_id_page_kinds
use Rattle.regions.proofs.page.in_id_page.Reads as in_id_page_reads
use Rattle.regions.proofs.zone.zone_of.Kinds as zone_of_kinds
use Rattle.regions.proofs.zone.zone_of.Reads as zone_of_reads

pub counter_in_unique : Unique counter_in_kinds.ps counter_in_kinds.r counter_in_reads.Post
counter_in_unique κs args x y at_x at_y = same

pub page_of_unique : Unique page_of_kinds.ps page_of_kinds.r page_of_reads.Post
page_of_unique κs args x y at_x at_y = same

pub place_of_unique : Unique place_of_kinds.ps place_of_kinds.r place_of_reads.Post
place_of_unique κs args x y at_x at_y = same

pub next_in_unique : Unique next_in_kinds.ps next_in_kinds.r next_in_reads.Post
next_in_unique κs args x y at_x at_y = same

pub next_in_page_unique : Unique next_in_page_kinds.ps next_in_page_kinds.r next_in_page_reads.Post
next_in_page_unique κs args x y at_x at_y = same

pub in_id_page_unique : Unique in_id_page_kinds.ps in_id_page_kinds.r in_id_page_reads.Post
in_id_page_unique κs args x y at_x at_y = same

pub zone_of_unique : Unique zone_of_kinds.ps zone_of_kinds.r zone_of_reads.Post
zone_of_unique κs args x y at_x at_y = same
