-- Every public contract of this crate leaves one outcome: any two that it allows are equal.
use Rattle.base.proofs.Unique.{Unique, same}
use Rattle.asking.proofs.asked_by.Kinds as asked_by_kinds
use Rattle.asking.proofs.asked_by.Reads as asked_by_reads
use Rattle.asking.proofs.trace.asks_trace.Kinds as asks_trace_kinds
use Rattle.asking.proofs.trace.asks_trace.Reads as asks_trace_reads
use Rattle.asking.proofs.page.page_asked.Kinds as page_asked_kinds
use Rattle.asking.proofs.page.page_asked.Reads as page_asked_reads
use Rattle.asking.proofs.status.status_asked.Kinds as status_asked_kinds
use Rattle.asking.proofs.status.status_asked.Reads as status_asked_reads

pub asked_by_unique : Unique asked_by_kinds.ps asked_by_kinds.r asked_by_reads.Post
asked_by_unique κs args x y at_x at_y = same

pub asks_trace_unique : Unique asks_trace_kinds.ps asks_trace_kinds.r asks_trace_reads.Post
asks_trace_unique κs args x y at_x at_y = same

pub page_asked_unique : Unique page_asked_kinds.ps page_asked_kinds.r page_asked_reads.Post
page_asked_unique κs args x y at_x at_y = same

pub status_asked_unique : Unique status_asked_kinds.ps status_asked_kinds.r status_asked_reads.Post
status_asked_unique κs args x y at_x at_y = same
