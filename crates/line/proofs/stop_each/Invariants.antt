-- Each iteration is what the definition has of its chip (Takes), from where its shares start; parts are small, so that their sums fit.
use Prim.Native.Nat.{ℕ, ◌*◌, ◌^◌, ◌≤◌}
use mathlib.Core.Path.{◌≡◌}
use lib.ListN.{length}
use Rattle.base.specs.Fold.{up_to}
use Rattle.base.specs.Least.{least}
use Rattle.control.specs.declared.Said.TheVariants.{Nothing}
use Rattle.board.specs.Shares.{array_start, security_start}
use Rattle.lineup.specs.Chips.{chip_at, places_of}
use Rattle.line.specs.Line.{chip_takes}
use Rattle.line.proofs.Takes.{on_line}
use Rattle.line.proofs.stop_each.Given as goal

abbrev pub invariant-loop-i : goal.invariant-loop-i
invariant-loop-i l =
    (on_line l.chips Nothing l.array l.security ≡ up_to (chip_takes l.addressed l.values (places_of l.initial.chips)) l.i (on_line l.initial.chips Nothing l.initial.array l.initial.security))
    × (l.starts.array ≡ least (array_start (places_of l.initial.chips) l.i) (length l.initial.array))
    × (l.starts.security ≡ least (security_start (places_of l.initial.chips) l.i) (length l.initial.security))
    × (l.starts.array ≤ l.i * 2 ^ 24)
    × (l.starts.security ≤ l.i * 2 ^ 24)
    × ((k : ℕ) → l.i ≤ k → chip_at l.chips k ≡ chip_at l.initial.chips k)
