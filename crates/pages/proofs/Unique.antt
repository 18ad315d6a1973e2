-- Every public contract of this crate leaves one outcome: any two that it allows are equal.
use Prim.Native.Nat.{ℕ}
use mathlib.Core.List.{List}
use mathlib.Core.Path.{◌∙◌, ap}
use Rattle.base.proofs.Unique.{Unique, UniqueOutcome, same}
use Rattle.pages.proofs.page_verdict.Kinds as page_verdict_kinds
use Rattle.pages.proofs.page_verdict.Reads as page_verdict_reads
use Rattle.pages.proofs.page.Kinds as page_kinds
use Rattle.pages.proofs.page.Reads as page_reads

pub page_verdict_unique : Unique page_verdict_kinds.ps page_verdict_kinds.r page_verdict_reads.Post
page_verdict_unique κs args x y at_x at_y = same

-- of the part handed back: where it lies, and what it shows
pub page_unique : UniqueOutcome page_kinds.ps page_kinds.r (ℕ × ℕ × List ℕ) (λ κs part at. (part.ref_ptr.0, part.ref_ptr.1, part.now)) page_reads.Post
page_unique κs args x y at_x at_y p q =
    ap (λ (block : ℕ). (block, x.ref_ptr.1, x.now)) (same p.same_block q.same_block)
    ∙ ap (λ (place : ℕ). (y.ref_ptr.0, place, x.now)) (same p.same_place q.same_place)
    ∙ ap (λ (bytes : List ℕ). (y.ref_ptr.0, y.ref_ptr.1, bytes)) (same p.shows q.shows)
