-- The page of a 32-bit address ends at 2 ^ 32 or below, and the next place lies in the page, so the sum does not wrap.
use Rattle.std.proofs.Common.{arith}
use Rattle.parts.proofs.part.Laws.{sound_is}
use Rattle.regions.proofs.page.Laws.{page_ends, next_place_below}
use Rattle.regions.proofs.page.next_in_page.Goals as goal

pub nonzero_rem-at : goal.nonzero_rem-at
nonzero_rem-at c = (sound_is _ c.geometry_of-page.ensures).page_some

pub nonzero_div-result : goal.nonzero_div-result
nonzero_div-result c = (sound_is _ c.geometry_of-page.ensures).page_some

pub overflow_add-result : goal.overflow_add-result
overflow_add-result c =
    let s = sound_is _ c.geometry_of-page.ensures in
    omega (arith, c.next_in-next.ensures, page_ends _ s c.args.at c.ranges.at.fits, next_place_below _ s c.args.at)
