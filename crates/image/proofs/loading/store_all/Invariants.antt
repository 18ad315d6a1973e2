-- As `scan`, with the share beside the reading.
use Rattle.image.proofs.loading.Laws.{left, StoredTo}
use Rattle.image.proofs.loading.store_all.Given as goal

abbrev pub invariant-loop-reading : goal.invariant-loop-reading
invariant-loop-reading l = StoredTo l.text l.initial.share (l.reading, l.share)

abbrev pub decreases-loop-reading : goal.decreases-loop-reading
decreases-loop-reading l = left l.text l.reading
