-- The chain's test of each chip is the definition's of each place.
use Rattle.std.proofs.Common.{rules, ◌≡◌, ◌≤◌, ◌∙◌, length, take, refl, ap, sym, ℕ, Bool, List}
use Rattle.std.specs.List.{list_any}
use Rattle.base.specs.Fold.{any_below}
use Rattle.base.proofs.Fold.{any_below-list}
use Rattle.chip.specs.declared.Chip.{Chip}
use Rattle.chip.specs.declared.event.Event.{Event}
use Rattle.board.specs.Place.{placed}
use Rattle.decode.specs.Hearing.{clashes_with}
use Rattle.lineup.specs.Chips.{no_chip, control_at}
use Rattle.line.specs.Line.{clash}
use Rattle.line.proofs.line_verdict.Goals as goal

clashes : (event : Event) (count n : ℕ) (chips : List Chip) {found : Bool} → n ≡ placed count → n ≤ length chips
    → found ≡ list_any (λ (chip : Chip). clashes_with event chip.control.phase) (take n chips) → clash event count chips ≡ found
clashes event count n chips is fits found =
    sym (found ∙ any_below-list (λ (chip : Chip). clashes_with event chip.control.phase) chips no_chip n fits ∙ ap (any_below (λ (i : ℕ). clashes_with event (control_at chips i).phase)) is)

pub returns-then-clash : goal.returns-then-clash
returns-then-clash c =
    let a = c.args in
    let found = clashes _ a.count c.placed.result a.chips c.placed.ensures (search rules) c.clash.ensures in
    rw (← c.event_of.ensures, ← c.not_busy.ensures, c.if-not_busy.false, found, c.if-clash.true) refl

pub returns-else-clash : goal.returns-else-clash
returns-else-clash c =
    let a = c.args in
    let found = clashes _ a.count c.placed.result a.chips c.placed.ensures (search rules) c.clash.ensures in
    rw (← c.event_of.ensures, ← c.not_busy.ensures, c.if-not_busy.false, found, c.if-clash.false) refl
