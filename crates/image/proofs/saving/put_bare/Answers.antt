-- The record has room, so it is written: 16 data bytes from the row's start.
use Prim.Native.Nat.{ℕ, ◌+◌, ◌*◌, ◌-◌, ◌%◌}
use native.Mathlib.Omega.{arith}
use mathlib.Core.Path.{◌≡◌, ◌∙◌, ap}
use lib.ListN.{length}
use Rattle.base.specs.Store.{span}
use Rattle.base.proofs.Store.{span_length}
use Rattle.hexline.specs.Fields.{data_kind}
use Rattle.hexline.specs.Writing.{put_record}
use Rattle.image.proofs.saving.Laws.{put_fits}
use Rattle.image.proofs.saving.put_bare.Goals as goal

pub returns : goal.returns
returns c =
    let row = c.args.row in
    let share = c.args.share.now in
    let count : row * 16 + 16 - row * 16 ≡ 16 = omega arith in
    let sixteen : length (span (row * 16) 16 share) ≡ 16 = span_length (row * 16) 16 share c.requires.0 in
    c.put_record.ensures
    ∙ ap (λ (n : ℕ). put_record data_kind (row * 16 % 65536) (span (row * 16) n share) c.args.text.now c.args.at) count
    ∙ put_fits data_kind (row * 16 % 65536) (span (row * 16) 16 share) c.args.text.now c.args.at (omega arith) (omega (arith, c.requires.2))
