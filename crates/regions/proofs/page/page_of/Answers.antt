-- A sound page is not empty, so there is a quotient.
use Rattle.parts.proofs.part.Laws.{sound_is}
use Rattle.regions.proofs.page.page_of.Goals as goal

pub nonzero_div-result : goal.nonzero_div-result
nonzero_div-result c = (sound_is _ c.geometry_of.ensures).page_some
