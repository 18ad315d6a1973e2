-- Sound figures have no empty zone, so there is a quotient.
use Rattle.std.proofs.Common.{arith}
use Rattle.parts.proofs.part.Laws.{sound_is}
use Rattle.regions.proofs.zone.zone_of.Goals as goal

pub nonzero_div-result : goal.nonzero_div-result
nonzero_div-result c = let sound = sound_is _ c.geometry_of-g.ensures in omega arith
