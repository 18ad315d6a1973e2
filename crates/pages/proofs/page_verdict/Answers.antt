-- A state that passes the entry checks has at most four chips.
use Rattle.bus.proofs.Entry.{entered}
use mathlib.Core.Path.{◌∙◌, sym}
use Rattle.pages.proofs.page_verdict.Goals as goal

pub page_exists-requires : goal.page_exists-requires
page_exists-requires c = let a = c.args in
    (entered a.bus a.array.now a.security.now (sym c.entry_verdict.ensures ∙ c.in_ok-entry_verdict.was)).chips_most
