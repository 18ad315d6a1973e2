-- One record or two, by whether the upper address bits change; the buffer has room for both.
use Prim.Native.Nat.{ℕ, ◌+◌, ◌≤◌}
use native.Mathlib.Omega.{arith}
use mathlib.Core.Bool.{true, false}
use mathlib.Core.Path.{◌≡◌, ◌∙◌, sym, ap}
use lib.ListN.{length}
use Rattle.base.specs.Store.{patched}
use Rattle.image.specs.Rows.{upper_changes, upper_text}
use Rattle.image.proofs.saving.Laws.{row_new_length, row_same_length, new_written, same_written}
use Rattle.image.proofs.saving.put_row.Goals as goal

pub put_upper-requires : goal.put_upper-requires
put_upper-requires c =
    let a = c.args in
    let changes : upper_changes a.row ≡ true = sym c.upper_changes.ensures ∙ c.if-upper_changes.true in
    let fit : a.at + 60 ≤ length a.text.now = omega (arith, c.requires.2, row_new_length a.share.now a.row c.requires.0 changes) in
    omega arith

pub put_bare-requires : goal.put_bare-requires
put_bare-requires c =
    let a = c.args in
    let changes : upper_changes a.row ≡ true = sym c.upper_changes.ensures ∙ c.if-upper_changes.true in
    let fit : a.at + 60 ≤ length a.text.now = omega (arith, c.requires.2, row_new_length a.share.now a.row c.requires.0 changes) in
    (c.requires.0, c.requires.1, omega (arith, fit, c.put_upper.auto.text))

pub returns-then-upper_changes : goal.returns-then-upper_changes
returns-then-upper_changes c =
    let a = c.args in
    let changes : upper_changes a.row ≡ true = sym c.upper_changes.ensures ∙ c.if-upper_changes.true in
    new_written a.share.now a.row a.at a.text.now c.requires.0 c.requires.2 changes
    (c.put_upper.ensures ∙ ap (λ (upper : ℕ). patched a.at (upper_text upper) a.text.now) c.upper_of.ensures)
    c.put_bare.ensures

pub put_bare-requires-else-upper_changes : goal.put_bare-requires-else-upper_changes
put_bare-requires-else-upper_changes c =
    let a = c.args in
    let stays : upper_changes a.row ≡ false = sym c.upper_changes.ensures ∙ c.if-upper_changes.false in
    let fits : a.at + 44 ≤ length a.text.now = omega (arith, c.requires.2, row_same_length a.share.now a.row c.requires.0 stays) in
    (c.requires.0, c.requires.1, fits)

pub returns-else-upper_changes : goal.returns-else-upper_changes
returns-else-upper_changes c =
    let a = c.args in
    let stays : upper_changes a.row ≡ false = sym c.upper_changes.ensures ∙ c.if-upper_changes.false in
    same_written a.share.now a.row a.at a.text.now c.requires.0 c.requires.2 stays c.put_bare-else-upper_changes.ensures
