-- The share so far is the definition's after so many places; the page ends at 2 ^ 32 or below, so no address wraps.
use Rattle.std.proofs.Common.{get_or, ◌≡◌, ◌+◌, ◌*◌, ◌≤◌, ◌^◌, arith}
use Rattle.std.proofs.lemmas.List.{set_past}
use Rattle.base.proofs.Fold.{up_none, up_more, up_end}
use Rattle.parts.proofs.part.Laws.{sound_is}
use Rattle.regions.proofs.page.Laws.{page_ends}
use Rattle.load.specs.Load.{store_page}
use Rattle.load.proofs.Span.store_page.Goals as goal

pub loop-place-init : goal.loop-place-init
loop-place-init c = up_none _ _

pub overflow_add-to : goal.overflow_add-to
overflow_add-to c =
    let g = c.geometry_of-size in
    let ends : c.page_of.result * g.result.page + g.result.page ≤ 2 ^ 32 =
    rw (c.page_of.ensures, ← g.ensures) (page_ends g.result (sound_is _ g.ensures) c.args.at c.ranges.at.fits) in
    omega (arith, ends)

pub bounds-values-place : goal.bounds-values-place
bounds-values-place c = omega (arith, (sound_is _ c.geometry_of-size.ensures).page_most)

pub loop-place-preserved : goal.loop-place-preserved
loop-place-preserved c =
    -- past the share there is nothing to store to
    let to = c.page_of.result * c.geometry_of-size.result.page + c.loop-place.place in
    let past = set_past c.loop-place.share to (get_or c.args.values.now c.loop-place.place 0) in
    up_more _ _ _ c.loop-place.invariant (grind (arith, past))

pub returns : goal.returns
unfolding store_page
returns c =
    let g = c.geometry_of-size in
    let last : c.loop-place.place ≡ g.result.page = omega arith in
    rw (← g.ensures) (rw (c.page_of.ensures, ← g.ensures) at (up_end _ _ last c.loop-place.invariant))
