-- What a chip loses where an exchange is broken off: a Start drops any pending load, and a power up clears it (paper, "Start" and
-- "Power up").
use Rattle.std.specs.Prelude.{Bool, cond}
use Rattle.load.specs.declared.Span.{Span}
use Rattle.load.specs.Span.{is_empty}
use Rattle.control.specs.declared.phase.Phase.{Phase}
use Rattle.control.specs.declared.phase.Phase.TheVariants.{Standby, Busy, AwaitsAddress, AwaitsChoice, AwaitsWord, TakesData, SendsByte}
use Rattle.control.specs.declared.phase.Data.{Data}
use Rattle.control.specs.declared.phase.Data.TheVariants.{ToArray, ToSecurity, ToConfiguration, ToLock, ToNowhere}
use Rattle.control.specs.declared.phase.Came.{Came}
use Rattle.control.specs.declared.phase.Came.TheVariants.{Zero, One, Two, Three, More}
use Rattle.chip.specs.declared.Chip.{Chip}
use Rattle.trace.specs.declared.dropped.Dropped.{Dropped}
use Rattle.trace.specs.declared.dropped.Dropped.TheVariants.{Nothing, Bytes, ConfigurationBytes, LockCommand}

abbrev pub dropped_span : Span → Dropped
dropped_span span = cond (is_empty span) Nothing (Bytes span.count)

abbrev pub dropped_came : Came → Dropped
dropped_came Zero = Nothing
dropped_came (One first) = ConfigurationBytes
dropped_came (Two first second) = ConfigurationBytes
dropped_came (Three first second third) = ConfigurationBytes
dropped_came More = ConfigurationBytes

abbrev pub dropped_lock : Bool → Dropped
dropped_lock some = cond some LockCommand Nothing

abbrev pub dropped_data : Data → Span → Dropped
dropped_data ToArray span = dropped_span span
dropped_data ToSecurity span = dropped_span span
dropped_data (ToConfiguration came) span = dropped_came came
dropped_data (ToLock some) span = dropped_lock some
dropped_data ToNowhere span = Nothing

abbrev pub dropped_in : Phase → Span → Dropped
dropped_in Standby span = Nothing
dropped_in Busy span = Nothing
dropped_in AwaitsAddress span = Nothing
dropped_in AwaitsChoice span = Nothing
dropped_in (AwaitsWord word) span = Nothing
dropped_in (TakesData kind) span = dropped_data kind span
dropped_in (SendsByte source) span = Nothing

unfoldable pub dropped_of : Chip → Dropped
dropped_of chip = dropped_in chip.control.phase chip.span
