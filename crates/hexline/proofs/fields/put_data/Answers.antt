-- The store so far is the definition's after i bytes; no place wraps, since the first address is small.
use Prim.Native.Nat.{ℕ, ◌+◌}
use native.Mathlib.Omega.{arith}
use mathlib.Core.Path.{◌∙◌, refl, ap}
use lib.ListN.{set}
use borrow.Author.Rules.{rules}
use Rattle.base.proofs.Fold.{up_none, up_more, up_end}
use Rattle.hexline.specs.Fields.{put_data}
use Rattle.hexline.proofs.fields.Laws.{first_fits}
use Rattle.hexline.proofs.fields.put_data.Goals as goal

pub loop-i-init : goal.loop-i-init
loop-i-init c = (up_none _ _, refl)

pub overflow_add-first : goal.overflow_add-first
overflow_add-first c =
    let a = c.args in
    omega (arith, c.first_address-first.ensures, first_fits a.upper a.rest.now (search rules))

pub loop-i-preserved : goal.loop-i-preserved
loop-i-preserved c =
    let so_far = c.loop-i.share in
    let i = c.loop-i.i in (
      up_more _ _ _ c.loop-i.invariant.0 (c.put.ensures
          ∙ ap (λ (first : ℕ). set so_far (first + i) c.byte_at.result) c.first_address-first.ensures
          ∙ ap (set so_far _) c.byte_at.ensures),
      c.put.auto.share ∙ c.loop-i.invariant.1,
    )

pub returns : goal.returns
unfolding put_data
returns c = up_end _ _ (omega (arith, c.count_in-i-end.ensures)) c.loop-i.invariant.0
