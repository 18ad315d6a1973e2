-- A chip that is a value of its type, by the relation that the checker itself has between values and what they denote.
use mathlib.Core.List.{[], ◌∷◌}
use mir.Val.{Val}
use denote.Laws.{Is}
use Rattle.chip.specs.declared.Chip.{Chip}
use Rattle.chip.specs.contracts.Chip as chips

-- some value of the machine is what it denotes
pub record ChipTyped (c : Chip) : Type 0 where
  pub value : Val
  pub is : Is chips.the_row c (value ∷ [])
