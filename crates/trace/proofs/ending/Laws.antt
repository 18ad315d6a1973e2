-- Three configuration bytes make a chip busy exactly where the third confirms and the register is not locked.
use Prim.Native.Nat.{ℕ}
use native.Mathlib.Omega.{arith}
use mathlib.Core.Bool.{not, ◌&&◌}
use mathlib.Core.Path.{◌≡◌}
use Rattle.control.specs.declared.Control.{Control}
use Rattle.control.specs.declared.phase.Came.TheVariants.{Three}
use Rattle.control.specs.Phase.{is_busy}
use Rattle.control.specs.Bits.{configlock}
use Rattle.configuration.specs.Configuration.{confirms, stop_configuration}

pub configures : (c : Control) (first second third : ℕ) → is_busy (stop_configuration (Three first second third) c).phase ≡ (confirms first third && not (configlock c))
configures c first second third = grind arith
