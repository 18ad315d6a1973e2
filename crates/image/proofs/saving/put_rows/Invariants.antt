-- After each row the rows so far stand at the buffer's start, and the place is behind them (`row_more`); the buffer has room for all.
use mathlib.Core.Path.{◌≡◌}
use lib.ListN.{length}
use Rattle.image.proofs.saving.Laws.{rows_put}
use Rattle.image.proofs.saving.put_rows.Given as goal

abbrev pub invariant-loop-row : goal.invariant-loop-row
invariant-loop-row l = ((l.at, l.text) ≡ rows_put l.share l.row l.initial.text) × (length l.text ≡ length l.initial.text)
