-- The bits of the configuration register that mean something (sheets, Register 9-1 and 9-2). ECS reads 0.
use Rattle.std.specs.Prelude.{ℕ, Bool}
use Rattle.base.specs.Bit.{bit_of}
use Rattle.control.specs.declared.Control.{Control}

abbrev pub ewpm : Control → Bool
ewpm c = bit_of c.config0 1

abbrev pub configlock : Control → Bool
configlock c = bit_of c.config0 0

-- bit z of byte 1 is SWPz
abbrev pub swp : Control → ℕ → Bool
swp c zone = bit_of c.config1 zone
