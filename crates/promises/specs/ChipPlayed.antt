-- A list of events at one chip on its own shares, with the values that the line keeps: its steps one after the other.
use Rattle.std.specs.Prelude.{ℕ, List, [], ◌∷◌}
use Rattle.chip.specs.declared.Stepped.{Stepped}
use Rattle.chip.specs.declared.event.Event.{Event}
use Rattle.chip.specs.Chip.{step, values_after}

-- the chip and what it said last, with its shares and the values
abbrev pub chip_played : List Event → Stepped × List ℕ × List ℕ × List ℕ → Stepped × List ℕ × List ℕ × List ℕ
chip_played [] at = at
chip_played (event ∷ events) at =
    let stepped = step at.0.chip at.3 at.1 at.2 event in
    chip_played events (stepped.0, stepped.1, stepped.2, values_after at.0.chip event at.3)
