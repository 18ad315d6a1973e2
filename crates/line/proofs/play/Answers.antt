-- Each arm is its callee's contract at the event that the arm knows.
use mathlib.Core.Path.{◌∙◌, sym, ap}
use borrow.Author.Rules.{rules}
use Rattle.chip.proofs.Laws.{is_sent}
use Rattle.line.proofs.Takes.{values_stay}
use Rattle.line.proofs.play.Goals as goal

pub returns-in-Start : goal.returns-in-Start
returns-in-Start c =
    let a = c.args in
    λ j. (c.move_each.ensures a.values.now a.array.now a.security.now j, values_stay a.addressed a.count a.chips a.values.now (search rules) j)

pub returns-in-Stop : goal.returns-in-Stop
returns-in-Stop c =
    let a = c.args in
    λ j. (c.stop_each.ensures j, values_stay a.addressed a.count a.chips a.values.now (ap is_sent (sym c.event_of.ensures ∙ c.in-Stop.is)) j)

pub returns-in-Read : goal.returns-in-Read
returns-in-Read c =
    let a = c.args in
    λ j. (c.read_each.ensures a.values.now j, values_stay a.addressed a.count a.chips a.values.now (ap is_sent (sym c.event_of.ensures ∙ c.in-Read.is)) j)
