-- How an exchange ends (paper, "Stop", "Device ID" and "Power up"). However it does, the choice is dropped.
use Rattle.std.specs.Prelude.{false}
use Rattle.control.specs.declared.Control.{Control}
use Rattle.control.specs.declared.phase.Phase.TheVariants.{Standby, Busy}
use Rattle.control.specs.declared.phase.Shown.TheVariants.{ShowsSecurity}
use Rattle.control.specs.Control.{in_phase, showing, choosing, arraycounter_at, securitycounter_at}

-- without a cycle: standby until the next Start
abbrev pub standby_now : Control → Control
standby_now c = in_phase Standby (choosing false c)

-- with one: busy until event 07 or 08
abbrev pub busy_now : Control → Control
busy_now c = in_phase Busy (choosing false c)

-- by power up: counters 0, and a 1011 read shows the security register; registers and WP level stay
abbrev pub powered_up : Control → Control
powered_up c = in_phase Standby (showing ShowsSecurity (securitycounter_at 0 (arraycounter_at 0 (choosing false c))))
