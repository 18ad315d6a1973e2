-- After each row the rows so far stand at the buffer's start, and the place is behind them (`row_more`); the buffer has room for all.
use Prim.Native.Nat.{ℕ}
use native.Mathlib.Omega.{arith}
use mathlib.Core.Path.{◌∙◌, refl, ap}
use mathlib.Core.List.{List}
use Rattle.image.proofs.saving.Laws.{rows_start, row_room, row_more}
use Rattle.image.proofs.saving.put_rows.Goals as goal

pub loop-row-init : goal.loop-row-init
loop-row-init c =
    let a = c.args in (rows_start a.share.now a.text.now, refl)

pub put_row-at-requires : goal.put_row-at-requires
put_row-at-requires c =
    let so_far = c.loop-row in
    let place = ap (λ (p : ℕ × List ℕ). p.0) so_far.invariant.0 in
    let room = row_room c.args.share.now c.args.text.now c.requires.1 so_far.row c.loop-row-test.true in
    (omega (arith, c.loop-row-test.true), omega (arith, c.loop-row-test.true, c.requires.0), omega (arith, place, room, so_far.invariant.1))

pub loop-row-preserved : goal.loop-row-preserved
loop-row-preserved c =
    let so_far = c.loop-row in
    let more = c.loop-row-test.true in (
      row_more c.args.share.now c.args.text.now c.requires.1 so_far.row more so_far.invariant.0 c.put_row-at.ensures,
      c.put_row-at.auto.text ∙ so_far.invariant.1,
    )
