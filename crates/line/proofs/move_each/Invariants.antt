-- Each iteration is what the definition has of its chip (Takes): the event leaves its shares.
use Prim.Native.Nat.{ℕ}
use mathlib.Core.List.{List}
use mathlib.Core.Path.{◌≡◌}
use Rattle.base.specs.Fold.{up_to}
use Rattle.control.specs.declared.Said.TheVariants.{Nothing}
use Rattle.lineup.specs.Chips.{places_of}
use Rattle.line.specs.Line.{chip_takes}
use Rattle.line.proofs.Takes.{on_line}
use Rattle.line.proofs.move_each.Given as goal

abbrev pub invariant-loop-i : goal.invariant-loop-i
invariant-loop-i l =
    (values array security : List ℕ) → on_line l.chips Nothing array security ≡ up_to (chip_takes l.addressed values (places_of l.initial.chips)) l.i (on_line l.initial.chips Nothing array security)
