-- Each iteration reads one record more, and less is left; where reading stops, it is the definition's last.
use mathlib.Core.Path.{◌∙◌, sym}
use Rattle.image.proofs.loading.Laws.{reads_inside, begun_reached, next_reached, reached_sane, next_less, reached_end}
use Rattle.image.proofs.loading.scan.Goals as goal

pub loop-reading-init : goal.loop-reading-init
loop-reading-init c = begun_reached _ _

pub next_reading-reading-requires : goal.next_reading-reading-requires
next_reading-reading-requires c =
    let a = c.args in
    let on = sym c.reads_on.ensures ∙ c.loop-reading-test.true in
    (reads_inside a.text.now c.loop-reading.reading on, (reached_sane a.size a.text.now c.loop-reading.invariant).fewer)

pub loop-reading-smaller : goal.loop-reading-smaller
loop-reading-smaller c = next_less _ _ _ (sym c.reads_on.ensures ∙ c.loop-reading-test.true) c.next_reading-reading.ensures

pub loop-reading-preserved : goal.loop-reading-preserved
loop-reading-preserved c =
    next_reached _ _ c.loop-reading.invariant (sym c.reads_on.ensures ∙ c.loop-reading-test.true) c.next_reading-reading.ensures

pub returns : goal.returns
returns c = reached_end _ _ c.loop-reading.invariant (sym c.reads_on.ensures ∙ c.loop-reading-test.false)
