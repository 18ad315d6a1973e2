-- Each iteration is what the definition has of its chip (Takes), from where its shares start; parts are small, so that their sums fit.
use Prim.Native.Nat.{ℕ, ◌≤◌}
use native.Mathlib.Omega.{arith}
use mathlib.Core.Bool.{false, ◌&&◌, and-false}
use mathlib.Core.Path.{◌≡◌, ◌∙◌, refl, sym}
use lib.ListN.{length}
use lib.Seq.{get_or-set_other}
use Rattle.base.specs.Fold.{up_to}
use Rattle.base.specs.Least.{least}
use Rattle.base.proofs.Fold.{up_more, up_end}
use Rattle.base.proofs.number.Laws.{least_first}
use Rattle.base.proofs.logic.Laws.{first_one}
use Rattle.control.specs.Phase.{is_sending}
use Rattle.board.specs.Shares.{figures_at, array_start, security_start}
use Rattle.board.proofs.Laws.{placed_most}
use Rattle.decode.specs.Decode.{reaches}
use Rattle.lineup.specs.Chips.{no_chip, chip_at, places_of}
use Rattle.line.specs.Line.{play}
use Rattle.line.proofs.Takes.{Cut, array_end_lem, array_next, array_small, security_end_lem, security_next, security_small, cut_at, lent, kept, shares_land, passed_over, takes_read, deaf_to_reading}
use Rattle.line.proofs.read_each.Goals as goal
use Rattle.line.proofs.read_each.Goals.{then-reaches+then-is_sending, else-reaches, else-reaches-via-then-reaches+else-is_sending, else-reaches-via-else-reaches}

pub loop-i-init : goal.loop-i-init
unfolding up_to
loop-i-init c =
    let none : (n : ℕ) → 0 ≡ least 0 n = λ n. sym (least_first 0 n (omega arith)) in
    let a = c.args in
    ((λ values. refl), none (length a.array.now), none (length a.security.now), omega arith, omega arith, (λ k past. refl))

pub loop-i-preserved : goal.loop-i-preserved
loop-i-preserved c =
    let l = c.loop-i in
    let a = c.args in
    let places = places_of a.chips in
    let ends = c.share_ends-ends in
    let few : c.placed-i-end.result ≤ 4 = rw c.placed-i-end.ensures (placed_most a.count) in
    let own : Cut places l.i l.starts.array l.starts.security (length a.array.now) (length a.security.now) ends.result =
    cut_at a.chips l.chips l.i l.starts.array l.starts.security _ _ _
    (omega (arith, few, c.loop-i-test.true)) (l.invariant.5 l.i (omega arith)) l.invariant.1 l.invariant.2 ends.ensures in (
      elim c.if-reaches.branch [
        | then-reaches+then-is_sending w ↦
            let q = w.read-stepped in
            λ values.
            up_more _ _ _ (l.invariant.0 values)
            (rw (w.chips-is, w.said-is)
            (shares_land a.addressed values places l.i l.chips l.said a.array.now a.security.now q.result _ _ _ _ _ _ w.heard-said.result
            (lent _ _ _ _ a.array.now own.array_begins (array_end_lem own)) (lent _ _ _ _ a.security.now own.security_begins (security_end_lem own))
            (kept (array_start places l.i) (figures_at places l.i).array a.array.now (lent _ _ _ _ a.array.now own.array_begins (array_end_lem own)))
            (kept (security_start places l.i) (figures_at places l.i).security a.security.now (lent _ _ _ _ a.security.now own.security_begins (security_end_lem own)))
            (takes_read a.addressed values places l.i l.chips l.said a.array.now a.security.now a.nack c.requires q.result _ _ (first_one _ _ (sym c.reaches.ensures ∙ w.if-reaches.true) q.ensures))
            w.heard-said.ensures))
        | else-reaches w ↦
            let deaf : (reaches a.addressed l.i && is_sending (chip_at l.chips l.i).control.phase) ≡ false =
            elim w.else-reaches.branch [
              | else-reaches-via-then-reaches+else-is_sending w' ↦ rw (sym w'.is_sending.ensures ∙ w'.if-is_sending.false) (and-false (reaches a.addressed l.i))
              | else-reaches-via-else-reaches w' ↦ rw (sym c.reaches.ensures ∙ w'.if-reaches.false) refl
            ] in
            λ values.
            up_more _ _ _ (l.invariant.0 values)
            (rw (w.chips-is, w.said-is)
            (passed_over a.addressed values places l.i l.chips l.said a.array.now a.security.now
            (deaf_to_reading a.addressed values places l.i l.chips l.said a.array.now a.security.now a.nack c.requires deaf)))
      ],
      array_next own _ refl,
      security_next own _ refl,
      array_small own l.invariant.3,
      security_small own l.invariant.4,
      elim c.if-reaches.branch [
        | then-reaches+then-is_sending w ↦ λ k past. rw w.chips-is (get_or-set_other l.chips l.i k w.read-stepped.result.chip no_chip (λ (is : k ≡ l.i). absurd (omega arith)) ∙ l.invariant.5 k (omega arith))
        | else-reaches w ↦ λ k past. rw w.chips-is (l.invariant.5 k (omega arith))
      ],
    )

pub returns : goal.returns
unfolding play
returns c =
    let l = c.loop-i in
    λ values. up_end _ _ (omega (arith, c.loop-i-test.false, l.auto.i-end) ∙ c.placed-i-end.ensures) (l.invariant.0 values)
