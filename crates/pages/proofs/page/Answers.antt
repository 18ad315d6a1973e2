-- Where the question is 0, the page of the store named (Accepted); else the empty part.
use native.Mathlib.Omega.{arith}
use mathlib.Core.Path.{◌∙◌, sym}
use borrow.Author.Tests.{eq-eqb, ne_eqb}
use Rattle.pages.proofs.Accepted.{chip_below, page_there, in_array, in_security}
use Rattle.pages.proofs.page.Goals as goal
use Rattle.pages.proofs.page.Goals.{then-store-eq-ARRAY, else-store-eq-ARRAY}

pub page_start-at-requires : goal.page_start-at-requires
page_start-at-requires c =
    let asked = sym c.page_verdict.ensures ∙ c.in-Ok.is in
    (chip_below _ _ _ _ _ _ asked, rw c.places_of-places.ensures (page_there _ _ _ _ _ _ asked))

pub offset_bounds-places-chip : goal.offset_bounds-places-chip
offset_bounds-places-chip c = omega (arith, chip_below _ _ _ _ _ _ (sym c.page_verdict.ensures ∙ c.in-Ok.is))

pub bounds-places-chip : goal.bounds-places-chip
bounds-places-chip c = chip_below _ _ _ _ _ _ (sym c.page_verdict.ensures ∙ c.in-Ok.is)

pub between-requires-2 : goal.between-requires-2
between-requires-2 c =
    let asked = sym c.page_verdict.ensures ∙ c.in-Ok.is in
    elim c.if-store-eq-ARRAY.branch [
      | then-store-eq-ARRAY w ↦
          rw (w.shown-is, c.page_start-at.ensures, c.geometry_of-size.ensures, c.places_of-places.ensures) (in_array _ _ _ _ _ _ asked (eq-eqb _ _ w.if-store-eq-ARRAY.true))
      | else-store-eq-ARRAY w ↦
          rw (w.shown-is, c.page_start-at.ensures, c.geometry_of-size.ensures, c.places_of-places.ensures) (in_security _ _ _ _ _ _ asked (ne_eqb _ _ w.if-store-eq-ARRAY.false))
    ]
