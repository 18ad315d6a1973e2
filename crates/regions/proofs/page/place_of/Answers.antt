-- A sound page is not empty, so there is a remainder.
use Rattle.parts.proofs.part.Laws.{sound_is}
use Rattle.regions.proofs.page.place_of.Goals as goal

pub nonzero_rem-result : goal.nonzero_rem-result
nonzero_rem-result c = (sound_is _ c.geometry_of.ensures).page_some
