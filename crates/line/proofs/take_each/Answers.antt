-- Each iteration is what the definition has of its chip (Takes), which finds the values that the chips before it have left.
use Prim.Native.Nat.{ℕ}
use native.Mathlib.Omega.{arith}
use mathlib.Core.Bool.{false, ◌&&◌, and-false}
use mathlib.Core.List.{List, []}
use mathlib.Core.Path.{◌≡◌, ◌∙◌, refl, sym}
use lib.Seq.{get_or-set_other}
use Rattle.base.proofs.Fold.{up_none, up_more, up_end}
use Rattle.base.proofs.logic.Laws.{first_one}
use Rattle.decode.specs.Decode.{reaches}
use Rattle.lineup.specs.Chips.{no_chip, chip_at, places_of}
use Rattle.line.specs.Line.{hears, play, values_after}
use Rattle.line.proofs.Takes.{alone_lands, passed_over, takes_byte, deaf_to_byte}
use Rattle.line.proofs.take_each.Goals as goal
use Rattle.line.proofs.take_each.Goals.{then-reaches+then-hears, else-reaches, else-reaches-via-then-reaches+else-hears, else-reaches-via-else-reaches}

pub loop-i-init : goal.loop-i-init
loop-i-init c = ((λ array security. up_none _ _), up_none _ _, (λ k past. refl))

pub loop-i-preserved : goal.loop-i-preserved
loop-i-preserved c =
    let l = c.loop-i in
    let a = c.args in
    let places = places_of a.chips in
    elim c.if-reaches.branch [
      | then-reaches+then-hears w ↦
          let q = w.take-stepped in
          let did = first_one _ _ (sym c.reaches.ensures ∙ w.if-reaches.true) q.ensures in
          let takes = λ (array security : List ℕ). takes_byte a.addressed a.values.now places l.i l.chips l.said array security a.first a.byte c.requires q.result l.values q.new.values did in (
            (λ array security.
                up_more _ _ _ (l.invariant.0 array security)
                (rw (w.chips-is, w.said-is) (alone_lands a.addressed a.values.now places l.i l.chips l.said array security q.result w.heard-said.result (takes array security).0 w.heard-said.ensures))),
            up_more _ _ _ l.invariant.1 (rw w.values-is (rw (← l.invariant.2 l.i (omega arith)) (takes [] []).1)),
            (λ k past. rw w.chips-is (get_or-set_other l.chips l.i k q.result.chip no_chip (λ (is : k ≡ l.i). absurd (omega arith)) ∙ l.invariant.2 k (omega arith))),
          )
      | else-reaches w ↦
          let deaf : (reaches a.addressed l.i && hears a.first (chip_at l.chips l.i).control.phase) ≡ false =
          elim w.else-reaches.branch [
            | else-reaches-via-then-reaches+else-hears w' ↦ rw (sym w'.hears.ensures ∙ w'.if-hears.false) (and-false (reaches a.addressed l.i))
            | else-reaches-via-else-reaches w' ↦ rw (sym c.reaches.ensures ∙ w'.if-reaches.false) refl
          ] in
          let stays = λ (array security : List ℕ). deaf_to_byte a.addressed a.values.now places l.i l.chips l.said array security a.first a.byte c.requires deaf l.values in (
            (λ array security.
                up_more _ _ _ (l.invariant.0 array security)
                (rw (w.chips-is, w.said-is) (passed_over a.addressed a.values.now places l.i l.chips l.said array security (stays array security).0))),
            up_more _ _ _ l.invariant.1 (rw w.values-is (rw (← l.invariant.2 l.i (omega arith)) (stays [] []).1)),
            (λ k past. rw w.chips-is (l.invariant.2 k (omega arith))),
          )
    ]

pub returns : goal.returns
unfolding play values_after
returns c =
    let l = c.loop-i in
    let all = omega (arith, c.loop-i-test.false, l.auto.i-end) ∙ c.placed-i-end.ensures in
    ((λ array security. up_end _ _ all (l.invariant.0 array security)), up_end _ _ all l.invariant.1)
