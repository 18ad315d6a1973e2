-- Writing the configuration register (paper, "Configuration"; sheets 9.3 and 9.5).
use Rattle.std.specs.Prelude.{ℕ, ◌%◌, Bool, cond, not, ◌&&◌, eqb}
use Rattle.base.specs.Bit.{bit_of}
use Rattle.control.specs.declared.Control.{Control}
use Rattle.control.specs.declared.phase.Came.{Came}
use Rattle.control.specs.declared.phase.Came.TheVariants.{Zero, One, Two, Three, More}
use Rattle.control.specs.Control.{configured}
use Rattle.control.specs.Exchange.{standby_now, busy_now}
use Rattle.control.specs.Bits.{configlock}

-- 99h if the new LOCK is 1, 66h if 0 (Table 9-4)
abbrev pub confirms : ℕ → ℕ → Bool
confirms first third = cond (bit_of first 0) (eqb third 0x99) (eqb third 0x66)

-- confirmed, and not locked: byte 0, of which only EWPM and LOCK are writable, and byte 1. Once locked: unchanged, no cycle
abbrev pub configure : ℕ → ℕ → ℕ → Control → Control
configure first second third c =
    cond (confirms first third && not (configlock c)) (busy_now (configured (first % 4) second c)) (standby_now c)

-- exactly three data bytes then Stop; any other count changes nothing and starts no cycle
abbrev pub stop_configuration : Came → Control → Control
stop_configuration Zero c = standby_now c
stop_configuration (One first) c = standby_now c
stop_configuration (Two first second) c = standby_now c
stop_configuration (Three first second third) c = configure first second third c
stop_configuration More c = standby_now c
