-- A chip that passes the checks of a chip that is named is one of the four places.
use native.Mathlib.Omega.{arith}
use mathlib.Core.Path.{◌∙◌, sym}
use Rattle.bus.proofs.Entry.{named}
use Rattle.image.proofs.saving.save_verdict.Goals as goal

pub offset_bounds-places_of-chip : goal.offset_bounds-places_of-chip
offset_bounds-places_of-chip c =
    let a = c.args in
    omega (arith, (named a.bus a.array.now a.security.now a.chip (sym c.chip_verdict.ensures ∙ c.in_ok-chip_verdict.was)).chip_below)

pub bounds-places_of-chip : goal.bounds-places_of-chip
bounds-places_of-chip c =
    let a = c.args in
    (named a.bus a.array.now a.security.now a.chip (sym c.chip_verdict.ensures ∙ c.in_ok-chip_verdict.was)).chip_below
