-- As `scan`, with the share beside the reading.
use mathlib.Core.Path.{◌∙◌, sym}
use lib.ListN.{length}
use Rattle.image.proofs.loading.Laws.{reads_inside, reached_sane, begun_stored, next_stored, stored_to_reached, next_stored_less, stored_to_end}
use Rattle.image.proofs.loading.store_all.Goals as goal

pub loop-reading-init : goal.loop-reading-init
loop-reading-init c = begun_stored _ _

pub next_storing-reading-requires : goal.next_storing-reading-requires
next_storing-reading-requires c =
    let on = sym c.reads_on.ensures ∙ c.loop-reading-test.true in
    let a = c.args in (
      reads_inside a.text.now c.loop-reading.reading on,
      (reached_sane (length a.share.now) a.text.now (stored_to_reached a.text.now a.share.now c.loop-reading.invariant)).fewer,
    )

pub loop-reading-smaller : goal.loop-reading-smaller
loop-reading-smaller c = next_stored_less _ _ (c.loop-reading.reading, c.loop-reading.share) (sym c.reads_on.ensures ∙ c.loop-reading-test.true) c.next_storing-reading.ensures

pub loop-reading-preserved : goal.loop-reading-preserved
loop-reading-preserved c = let a = c.args in next_stored a.text.now a.share.now c.loop-reading.invariant (sym c.reads_on.ensures ∙ c.loop-reading-test.true) c.next_storing-reading.ensures

pub returns : goal.returns
returns c = let a = c.args in stored_to_end a.text.now a.share.now c.loop-reading.invariant (sym c.reads_on.ensures ∙ c.loop-reading-test.false)
