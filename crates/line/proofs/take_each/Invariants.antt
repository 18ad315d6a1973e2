-- Each iteration is what the definition has of its chip (Takes), which finds the values that the chips before it have left.
use Prim.Native.Nat.{ℕ, ◌≤◌}
use mathlib.Core.List.{List}
use mathlib.Core.Path.{◌≡◌}
use Rattle.base.specs.Fold.{up_to}
use Rattle.lineup.specs.Chips.{chip_at, places_of}
use Rattle.line.specs.Line.{chip_takes, chip_loads}
use Rattle.line.proofs.Takes.{on_line}
use Rattle.line.proofs.take_each.Given as goal

abbrev pub invariant-loop-i : goal.invariant-loop-i
invariant-loop-i l =
    ((array security : List ℕ) → on_line l.chips l.said array security ≡ up_to (chip_takes l.addressed l.initial.values (places_of l.initial.chips)) l.i (on_line l.initial.chips l.initial.said array security))
    × (l.values ≡ up_to (chip_loads l.addressed l.initial.chips) l.i l.initial.values)
    × ((k : ℕ) → l.i ≤ k → chip_at l.chips k ≡ chip_at l.initial.chips k)
