-- Refusal 12 on both sides, computed: of four chips one is busy, and there alone cycle over is not refused, whatever the others do. No other
-- event that names a chip asks for a cycle (request E2).
use Prim.Native.Nat.{ℕ}
use mathlib.Core.Bool.{true}
use mathlib.Core.List.{List, [], ◌∷◌, map}
use mathlib.Core.Path.{◌≡◌, refl}
use Rattle.base.specs.Fold.{up_to}
use Rattle.control.specs.declared.phase.Phase.{Phase}
use Rattle.control.specs.declared.phase.Phase.TheVariants.{Standby, Busy, AwaitsAddress, TakesData}
use Rattle.control.specs.declared.phase.Data.TheVariants.{ToArray}
use Rattle.control.specs.Control.{in_phase}
use Rattle.chip.specs.declared.Chip.{Chip}
use Rattle.chip.specs.declared.event.Event.{Event}
use Rattle.chip.specs.declared.event.Event.TheVariants.{Wp, CycleOver}
use Rattle.chip.specs.Chip.{fresh}
use Rattle.refusal.specs.Refusal.{status_of}
use Rattle.refusal.specs.Checks.{first_of}
use Rattle.decode.specs.declared.Addressed.TheVariants.{ToOne}
use Rattle.line.specs.Line.{line_checks}

-- 24CS32 at straps 0 to 3, each in a phase of its own
abbrev chip_in : Phase → ℕ → Chip
chip_in phase strap = let c = fresh 2 strap in record { control = in_phase phase c.control; span = c.span }

abbrev chips : List Chip
chips = chip_in Standby 0 ∷ chip_in Busy 1 ∷ chip_in AwaitsAddress 2 ∷ chip_in (TakesData ToArray) 3 ∷ []

-- the number that an event is refused with at each of them
abbrev numbers : Event → List ℕ
numbers event = map (λ (named : ℕ). status_of (first_of (line_checks (ToOne named event) 4 chips))) (0 ∷ 1 ∷ 2 ∷ 3 ∷ [])

pub cycle_over_on_both_sides : (numbers CycleOver ≡ 12 ∷ 0 ∷ 12 ∷ 12 ∷ []) × (numbers (Wp true) ≡ 0 ∷ 0 ∷ 0 ∷ 0 ∷ [])
unfolding up_to
cycle_over_on_both_sides = (refl, refl)
