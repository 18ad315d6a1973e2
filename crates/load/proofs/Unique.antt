-- Every public contract of this crate leaves one outcome: any two that it allows are equal, each lent store as the function
-- returns included.
use Prim.Native.Nat.{ℕ}
use mathlib.Core.List.{List}
use Rattle.load.specs.declared.Span.{Span}
use Rattle.base.proofs.Unique.{Unique, UniqueOutcome, same}
use Rattle.load.proofs.Span.is_empty.Kinds as is_empty_kinds
use Rattle.load.proofs.Span.is_empty.Reads as is_empty_reads
use Rattle.load.proofs.Span.inside_page.Kinds as inside_page_kinds
use Rattle.load.proofs.Span.inside_page.Reads as inside_page_reads
use Rattle.load.proofs.Span.runs_on.Kinds as runs_on_kinds
use Rattle.load.proofs.Span.runs_on.Reads as runs_on_reads
use Rattle.load.proofs.Span.empty.Kinds as empty_kinds
use Rattle.load.proofs.Span.empty.Reads as empty_reads
use Rattle.load.proofs.Span.dropped.Kinds as dropped_kinds
use Rattle.load.proofs.Span.dropped.Reads as dropped_reads
use Rattle.load.proofs.Span.put.Kinds as put_kinds
use Rattle.load.proofs.Span.put.Reads as put_reads
use Rattle.load.proofs.Span.store_page.Kinds as store_page_kinds
use Rattle.load.proofs.Span.store_page.Reads as store_page_reads

pub is_empty_unique : Unique is_empty_kinds.ps is_empty_kinds.r is_empty_reads.Post
is_empty_unique κs args x y at_x at_y = same

pub inside_page_unique : Unique inside_page_kinds.ps inside_page_kinds.r inside_page_reads.Post
inside_page_unique κs args x y at_x at_y = same

pub runs_on_unique : Unique runs_on_kinds.ps runs_on_kinds.r runs_on_reads.Post
runs_on_unique κs args x y at_x at_y = same

pub empty_unique : Unique empty_kinds.ps empty_kinds.r empty_reads.Post
empty_unique κs args x y at_x at_y = same

pub dropped_unique : Unique dropped_kinds.ps dropped_kinds.r dropped_reads.Post
dropped_unique κs args x y at_x at_y = same

pub put_unique : UniqueOutcome put_kinds.ps put_kinds.r (Span × List ℕ) (λ κs result at. (result, at.1.1.1.1.0.now)) put_reads.Post
put_unique κs args x y at_x at_y = same

pub store_page_unique : UniqueOutcome store_page_kinds.ps store_page_kinds.r (List ℕ) (λ κs result at. at.1.1.1.1.0.now) store_page_reads.Post
store_page_unique κs args x y at_x at_y = same
