-- Each iteration is what the definition has of its chip (Takes), from where its shares start; parts are small, so that their sums fit.
use Prim.Native.Nat.{ℕ, ◌≤◌}
use native.Mathlib.Omega.{arith}
use mathlib.Core.Path.{◌≡◌, ◌∙◌, refl, sym}
use lib.ListN.{length}
use lib.Seq.{get_or-set_other}
use Rattle.base.specs.Fold.{up_to}
use Rattle.base.specs.Least.{least}
use Rattle.base.proofs.Fold.{up_more, up_end}
use Rattle.base.proofs.number.Laws.{least_first}
use Rattle.base.proofs.logic.Laws.{first_one}
use Rattle.control.specs.declared.Said.TheVariants.{Nothing}
use Rattle.chip.specs.Chip.{quiet}
use Rattle.board.proofs.Laws.{placed_most}
use Rattle.lineup.specs.Chips.{no_chip, places_of}
use Rattle.line.specs.Line.{play}
use Rattle.line.proofs.Takes.{Cut, array_end_lem, array_next, array_small, security_end_lem, security_next, security_small, cut_at, lent, back, shares_land, not_reached, takes_stop}
use Rattle.line.proofs.stop_each.Goals as goal
use Rattle.line.proofs.stop_each.Goals.{then-reaches, else-reaches}

pub loop-i-init : goal.loop-i-init
unfolding up_to
loop-i-init c =
    let none : (n : ℕ) → 0 ≡ least 0 n = λ n. sym (least_first 0 n (omega arith)) in
    let a = c.args in
    (refl, none (length a.array.now), none (length a.security.now), omega arith, omega arith, (λ k past. refl))

pub loop-i-preserved : goal.loop-i-preserved
loop-i-preserved c =
    let l = c.loop-i in
    let a = c.args in
    let places = places_of a.chips in
    let ends = c.share_ends-ends in
    let few : c.placed-i-end.result ≤ 4 = rw c.placed-i-end.ensures (placed_most a.count) in
    let own : Cut places l.i l.starts.array l.starts.security (length l.array) (length l.security) ends.result =
    cut_at a.chips l.chips l.i l.starts.array l.starts.security _ _ _
    (omega (arith, few, c.loop-i-test.true)) (l.invariant.5 l.i (omega arith)) (rw l.auto.array l.invariant.1) (rw l.auto.security l.invariant.2) ends.ensures in (
      up_more _ _ _ l.invariant.0
          (elim c.if-reaches.branch [
            | then-reaches w ↦
                let q = w.stop in
                rw (w.chips-is, w.array-is, w.security-is)
                (shares_land a.addressed a.values.now places l.i l.chips Nothing l.array l.security (quiet q.result) _ _ _ _ _ _ Nothing
                (lent _ _ _ _ l.array own.array_begins (array_end_lem own)) (lent _ _ _ _ l.security own.security_begins (security_end_lem own))
                (back _ _ _ _ l.array own.array_begins (array_end_lem own) q.new.array q.auto.array)
                (back _ _ _ _ l.security own.security_begins (security_end_lem own) q.new.security q.auto.security)
                (takes_stop a.addressed a.values.now places l.i l.chips Nothing l.array l.security c.requires q.result _ _ _ _ (first_one _ _ (sym c.reaches.ensures ∙ w.if-reaches.true) q.ensures))
                refl)
            | else-reaches w ↦
                rw (w.chips-is, w.array-is, w.security-is)
                (not_reached a.addressed a.values.now places l.i l.chips Nothing l.array l.security (sym c.reaches.ensures ∙ w.if-reaches.false))
          ]),
      array_next own _ l.auto.array,
      security_next own _ l.auto.security,
      array_small own l.invariant.3,
      security_small own l.invariant.4,
      elim c.if-reaches.branch [
        | then-reaches w ↦ λ k past. rw w.chips-is (get_or-set_other l.chips l.i k w.stop.result no_chip (λ (is : k ≡ l.i). absurd (omega arith)) ∙ l.invariant.5 k (omega arith))
        | else-reaches w ↦ λ k past. rw w.chips-is (l.invariant.5 k (omega arith))
      ],
    )

pub returns : goal.returns
unfolding play
returns c =
    let l = c.loop-i in
    up_end _ _ (omega (arith, c.loop-i-test.false, l.auto.i-end) ∙ c.placed-i-end.ensures) l.invariant.0
