-- A start is small, so no place wraps.
use Rattle.std.proofs.Common.{ℕ, arith}
use Rattle.parts.proofs.part.Laws.{sound_of}
use Rattle.board.specs.Place.{place_at, placed}
use Rattle.board.specs.Shares.{figures_at}
use Rattle.board.proofs.Laws.{placed_most, start_most}
use Rattle.factory.proofs.mark_serial.Goals as goal

pub mark-requires : goal.mark-requires
mark-requires c =
    let a = c.args in
    let small = start_most (λ (i : ℕ). (figures_at a.places i).security) (λ i. omega (arith, (sound_of (place_at a.places i).part).security_most)) (placed a.chip) in
    omega (arith, c.security_start.ensures, placed_most a.chip, small)
