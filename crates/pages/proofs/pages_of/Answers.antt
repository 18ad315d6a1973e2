-- A page is at least a byte, so there is a quotient.
use native.Mathlib.Omega.{arith}
use Rattle.parts.proofs.part.Laws.{sound_is}
use Rattle.pages.proofs.pages_of.Goals as goal

pub nonzero_div-result : goal.nonzero_div-result
nonzero_div-result c = omega (arith, (sound_is _ c.geometry_of-figures.ensures).page_some)
