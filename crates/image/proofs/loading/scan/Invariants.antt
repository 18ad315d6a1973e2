-- Each iteration reads one record more, and less is left; where reading stops, it is the definition's last.
use Rattle.image.proofs.loading.Laws.{Reached, left}
use Rattle.image.proofs.loading.scan.Given as goal

abbrev pub invariant-loop-reading : goal.invariant-loop-reading
invariant-loop-reading l = Reached l.size l.text l.reading

abbrev pub decreases-loop-reading : goal.decreases-loop-reading
decreases-loop-reading l = left l.text l.reading
