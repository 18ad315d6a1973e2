-- Each test is asked where those before it hold.
use Rattle.std.proofs.Common.{rules, ◌≤◌, ◌∙◌, length}
use Rattle.lineup.proofs.Laws.{in_turn}
use Rattle.lineup.proofs.well_formed.Goals as goal

pub returns-then-chips_apart : goal.returns-then-chips_apart
returns-then-chips_apart c =
    let a = c.args in
    let fits : c.placed-n.result ≤ length a.chips = search rules in
    (search rules) ∙ in_turn a.count a.started a.chips c.placed-n.result c.placed-n.ensures fits

pub returns-else-chips_apart : goal.returns-else-chips_apart
returns-else-chips_apart c =
    let a = c.args in
    let fits : c.placed-n.result ≤ length a.chips = search rules in
    (search rules) ∙ in_turn a.count a.started a.chips c.placed-n.result c.placed-n.ensures fits
