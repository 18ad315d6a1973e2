-- A bus and its two stores that hold bytes. In the program their types say so.
use Rattle.std.specs.Prelude.{ℕ, List}
use Rattle.base.specs.Every.{Every, AllBytes}
use Rattle.promises.specs.ChipBytes.{ChipBytes}
use Rattle.bus.specs.declared.Bus.{Bus}

pub record HoldsBytes (bus : Bus) (array security : List ℕ) : Type 0 where
  pub in_chips : Every ChipBytes bus.chips
  pub in_values : AllBytes bus.values
  pub in_array : AllBytes array
  pub in_security : AllBytes security
