-- Each iteration is what the definition has of its chip (Takes), from where its shares start; parts are small, so that their sums fit.
use Prim.Native.Nat.{ℕ, ◌*◌, ◌^◌, ◌≤◌}
use mathlib.Core.List.{List}
use mathlib.Core.Path.{◌≡◌}
use lib.ListN.{length}
use Rattle.base.specs.Fold.{up_to}
use Rattle.base.specs.Least.{least}
use Rattle.board.specs.Shares.{array_start, security_start}
use Rattle.lineup.specs.Chips.{chip_at, places_of}
use Rattle.line.specs.Line.{chip_takes}
use Rattle.line.proofs.Takes.{on_line}
use Rattle.line.proofs.read_each.Given as goal

abbrev pub invariant-loop-i : goal.invariant-loop-i
invariant-loop-i l =
    ((values : List ℕ) → on_line l.chips l.said l.array l.security ≡ up_to (chip_takes l.addressed values (places_of l.initial.chips)) l.i (on_line l.initial.chips l.initial.said l.array l.security))
    × (l.starts.array ≡ least (array_start (places_of l.initial.chips) l.i) (length l.array))
    × (l.starts.security ≡ least (security_start (places_of l.initial.chips) l.i) (length l.security))
    × (l.starts.array ≤ l.i * 2 ^ 24)
    × (l.starts.security ≤ l.i * 2 ^ 24)
    × ((k : ℕ) → l.i ≤ k → chip_at l.chips k ≡ chip_at l.initial.chips k)
