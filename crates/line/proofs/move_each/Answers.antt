-- Each iteration is what the definition has of its chip (Takes): the event leaves its shares.
use native.Mathlib.Omega.{arith}
use mathlib.Core.Path.{◌∙◌, sym}
use Rattle.base.proofs.Fold.{up_none, up_more, up_end}
use Rattle.control.specs.declared.Said.TheVariants.{Nothing}
use Rattle.lineup.specs.Chips.{places_of}
use Rattle.line.specs.Line.{play}
use Rattle.line.proofs.Takes.{reached_moves, not_reached}
use Rattle.line.proofs.move_each.Goals as goal
use Rattle.line.proofs.move_each.Goals.{then-reaches, else-reaches}

pub loop-i-init : goal.loop-i-init
loop-i-init c = λ values array security. up_none _ _

pub loop-i-preserved : goal.loop-i-preserved
loop-i-preserved c =
    let l = c.loop-i in
    let a = c.args in
    λ values array security. up_more _ _ _ (l.invariant values array security)
    (elim c.if-reaches.branch [
      | then-reaches w ↦
          rw w.chips-is
          (reached_moves a.addressed values (places_of a.chips) l.i l.chips Nothing array security c.requires
          (sym c.reaches.ensures ∙ w.if-reaches.true) w.moved.result (rw c.event_of-event.ensures at w.moved.ensures))
      | else-reaches w ↦
          rw w.chips-is (not_reached a.addressed values (places_of a.chips) l.i l.chips Nothing array security (sym c.reaches.ensures ∙ w.if-reaches.false))
    ])

pub returns : goal.returns
unfolding play
returns c = λ values array security. up_end _ _ (omega (arith, c.loop-i-test.false, c.loop-i.auto.i-end) ∙ c.placed-i-end.ensures) (c.loop-i.invariant values array security)
