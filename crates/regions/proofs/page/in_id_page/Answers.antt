-- Both halves of a sound security register fit 32 bits, so the sum does not wrap.
use Rattle.std.proofs.Common.{arith}
use Rattle.parts.proofs.part.Laws.{sound_is}
use Rattle.regions.proofs.page.in_id_page.Goals as goal

pub overflow_add-g : goal.overflow_add-g
overflow_add-g c =
    let s = sound_is _ c.geometry_of-g.ensures in
    omega (arith, s.security_halves, s.security_most)
