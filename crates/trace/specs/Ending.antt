-- What a Stop makes of an exchange: what is stored, or why nothing is (paper, "Stop", "Protection", "Security register" and
-- "Configuration"). Each case asks what the rules ask; that a Stop does so is proved (`Stopping`).
use Rattle.std.specs.Prelude.{ℕ, ◌+◌, ◌*◌, ◌%◌, Bool, cond, not, ◌&&◌, ltb}
use Rattle.parts.specs.declared.part.Geometry.{Geometry}
use Rattle.parts.specs.Part.{geometry_of}
use Rattle.regions.specs.Page.{page_of, in_id_page}
use Rattle.load.specs.declared.Span.{Span}
use Rattle.load.specs.Span.{is_empty}
use Rattle.control.specs.declared.Control.{Control}
use Rattle.control.specs.declared.phase.Phase.{Phase}
use Rattle.control.specs.declared.phase.Phase.TheVariants.{Standby, Busy, AwaitsAddress, AwaitsChoice, AwaitsWord, TakesData, SendsByte}
use Rattle.control.specs.declared.phase.Data.{Data}
use Rattle.control.specs.declared.phase.Data.TheVariants.{ToArray, ToSecurity, ToConfiguration, ToLock, ToNowhere}
use Rattle.control.specs.declared.phase.Came.{Came}
use Rattle.control.specs.declared.phase.Came.TheVariants.{Zero, One, Two, Three, More}
use Rattle.control.specs.Bits.{configlock}
use Rattle.configuration.specs.Configuration.{confirms}
use Rattle.cycle.specs.Stop.{writes_array, writes_security}
use Rattle.chip.specs.declared.Chip.{Chip}
use Rattle.trace.specs.declared.ending.Ending.{Ending}
use Rattle.trace.specs.declared.ending.Ending.TheVariants.{Idle, ReadEnds, Stores, StoresNothing}
use Rattle.trace.specs.declared.ending.Run.{Run}
use Rattle.trace.specs.declared.ending.Stored.TheVariants.{InArray, InSecurity, Configuration, IdLock}
use Rattle.trace.specs.declared.ending.Reason.TheVariants.{NoAddress, NoData, Protected, ReadOnly, IdLocked, ConfigurationLocked, NotThree, NotConfirmed, Nowhere}

-- the bytes of a load, in the page that a counter lies in: they go round where they come to the end of the page
abbrev pub run_of : Geometry → ℕ → Span → Run
run_of g at span =
    record { first = page_of g at * g.page + span.first; count = span.count; round = ltb g.page (span.first + span.count) }

abbrev pub ending_array : Control → Span → Ending
ending_array c span =
    cond (writes_array c span) (Stores (InArray (run_of (geometry_of c.part) c.arraycounter span)))
    (StoresNothing (cond (is_empty span) NoData Protected))

abbrev pub ending_security : Control → Span → Ending
ending_security c span =
    cond (writes_security c span) (Stores (InSecurity (run_of (geometry_of c.part) c.securitycounter span)))
    (StoresNothing (cond (is_empty span) NoData (cond (in_id_page (geometry_of c.part) c.securitycounter) IdLocked ReadOnly)))

-- exactly three data bytes, the third of which confirms; once locked: unchanged
abbrev pub ending_three : Control → ℕ → ℕ → ℕ → Ending
ending_three c first second third =
    cond (confirms first third && not (configlock c)) (Stores (Configuration (first % 4) second))
    (StoresNothing (cond (configlock c) ConfigurationLocked NotConfirmed))

abbrev pub ending_configuration : Control → Came → Ending
ending_configuration c Zero = StoresNothing NoData
ending_configuration c (One first) = StoresNothing NotThree
ending_configuration c (Two first second) = StoresNothing NotThree
ending_configuration c (Three first second third) = ending_three c first second third
ending_configuration c More = StoresNothing NotThree

abbrev pub ending_lock : Control → Bool → Ending
ending_lock c some = cond (some && not c.idlocked) (Stores IdLock) (StoresNothing (cond some IdLocked NoData))

abbrev pub ending_data : Data → Control → Span → Ending
ending_data ToArray c span = ending_array c span
ending_data ToSecurity c span = ending_security c span
ending_data (ToConfiguration came) c span = ending_configuration c came
ending_data (ToLock some) c span = ending_lock c some
ending_data ToNowhere c span = StoresNothing Nowhere

abbrev pub ending_in : Phase → Control → Span → Ending
ending_in Standby c span = Idle
ending_in Busy c span = Idle
ending_in AwaitsAddress c span = Idle
ending_in AwaitsChoice c span = Idle
ending_in (AwaitsWord word) c span = StoresNothing NoAddress
ending_in (TakesData kind) c span = ending_data kind c span
ending_in (SendsByte source) c span = ReadEnds

unfoldable pub ending_of : Chip → Ending
ending_of chip = ending_in chip.control.phase chip.control chip.span
