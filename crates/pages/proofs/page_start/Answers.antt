-- A page ends inside its chip's share, and the four shares together are small.
use Prim.Native.Nat.{ℕ, ◌+◌, ◌*◌, ◌≤◌, ◌^◌}
use native.Mathlib.Omega.{arith}
use borrow.Author.Tests.{eq-eqb, ne_eqb}
use Rattle.parts.proofs.part.Laws.{sound_of, sound_is}
use Rattle.board.specs.Place.{placed, place_at}
use Rattle.board.specs.Shares.{figures_at}
use Rattle.board.proofs.Laws.{placed_most, start_most}
use Rattle.pages.proofs.Accepted.{page_ends}
use Rattle.pages.proofs.page_start.Goals as goal
use Rattle.pages.proofs.page_start.Goals.{then-store-eq-ARRAY, else-store-eq-ARRAY}

pub overflow_add-result : goal.overflow_add-result
overflow_add-result c =
    let a = c.args in
    let g = c.geometry_of in
    elim c.if-store-eq-ARRAY.branch [
      | then-store-eq-ARRAY w ↦
          let ends : a.page * g.result.page + g.result.page ≤ g.result.array = rw g.ensures (page_ends _ _ _ (rw (eq-eqb _ _ w.if-store-eq-ARRAY.true) at c.requires.1)) in
          let most : w.array_start-start.result ≤ 4 * 2 ^ 24 =
          omega (arith, w.array_start-start.ensures, placed_most a.chip, start_most (λ (i : ℕ). (figures_at a.places i).array) (λ i. (sound_of (place_at a.places i).part).array_most) (placed a.chip)) in
          omega (arith, w.start-is, (sound_is _ g.ensures).array_most)
      | else-store-eq-ARRAY w ↦
          let ends : a.page * g.result.page + g.result.page ≤ g.result.security = rw g.ensures (page_ends _ _ _ (rw (ne_eqb _ _ w.if-store-eq-ARRAY.false) at c.requires.1)) in
          let most : w.security_start-start.result ≤ 4 * 2 ^ 24 =
          omega (arith, w.security_start-start.ensures, placed_most a.chip, start_most (λ (i : ℕ). (figures_at a.places i).security) (λ i. omega (arith, (sound_of (place_at a.places i).part).security_most)) (placed a.chip)) in
          omega (arith, w.start-is, (sound_is _ g.ensures).security_most)
    ]
