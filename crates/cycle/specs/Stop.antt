-- What a Stop does to a chip and to its shares of the two stores (paper, "Stop" and "Security register"; sheets 6.1, 6.6.1.1,
-- 10.3 and 10.4.1).
use Rattle.std.specs.Prelude.{ℕ, Bool, cond, not, ◌&&◌, List}
use Rattle.parts.specs.Part.{geometry_of}
use Rattle.regions.specs.Page.{in_id_page}
use Rattle.load.specs.declared.Span.{Span}
use Rattle.load.specs.Load.{Load, holds, store_page}
use Rattle.control.specs.declared.Control.{Control}
use Rattle.control.specs.declared.phase.Phase.{Phase}
use Rattle.control.specs.declared.phase.Phase.TheVariants.{Standby, Busy, AwaitsAddress, AwaitsChoice, AwaitsWord, TakesData, SendsByte}
use Rattle.control.specs.declared.phase.Data.{Data}
use Rattle.control.specs.declared.phase.Data.TheVariants.{ToArray, ToSecurity, ToConfiguration, ToLock, ToNowhere}
use Rattle.control.specs.Control.{idlocked_now}
use Rattle.control.specs.Exchange.{standby_now, busy_now}
use Rattle.protection.specs.Protection.{is_protected, id_page_protected}
use Rattle.configuration.specs.Configuration.{stop_configuration}

-- with at least one data byte and the page not protected at this moment
abbrev pub writes_array : Control → Span → Bool
writes_array c span = holds span && not (is_protected c)

-- the same, in the ID page: the read-only half never changes
abbrev pub writes_security : Control → Span → Bool
writes_security c span = holds span && (in_id_page (geometry_of c.part) c.securitycounter && not (id_page_protected c))

-- the page of a counter, free at this moment or not
abbrev pub stop_load : Bool → ℕ → Control → Load → List ℕ → Control × List ℕ
stop_load free at c load share =
    cond (holds load.span && free) (busy_now c, store_page (geometry_of c.part) at load share) (standby_now c, share)

abbrev pub id_page_free : Control → Bool
id_page_free c = in_id_page (geometry_of c.part) c.securitycounter && not (id_page_protected c)

-- loaded bytes are stored into the page that the counter lies in, and the chip is busy; else nothing is stored and it is not
abbrev pub stop_array : Control → Load → List ℕ → Control × List ℕ
stop_array c load array =
    cond (writes_array c load.span) (busy_now c, store_page (geometry_of c.part) c.arraycounter load array) (standby_now c, array)

abbrev pub stop_security : Control → Load → List ℕ → Control × List ℕ
stop_security c load security =
    cond (writes_security c load.span) (busy_now c, store_page (geometry_of c.part) c.securitycounter load security) (standby_now c, security)

-- the lock command, with at least one data byte
abbrev pub stop_lock : Bool → Control → Control
stop_lock some c = cond (some && not c.idlocked) (busy_now (idlocked_now c)) (standby_now c)

abbrev pub stop_data : Data → Control → Load → List ℕ → List ℕ → Control × List ℕ × List ℕ
stop_data ToArray c load array security = ((stop_array c load array).0, (stop_array c load array).1, security)
stop_data ToSecurity c load array security = ((stop_security c load security).0, array, (stop_security c load security).1)
stop_data (ToConfiguration came) c load array security = (stop_configuration came c, array, security)
stop_data (ToLock some) c load array security = (stop_lock some c, array, security)
stop_data ToNowhere c load array security = (standby_now c, array, security)

-- other Stops end the exchange; a busy chip stays busy
abbrev pub stop_in : Phase → Control → Load → List ℕ → List ℕ → Control × List ℕ × List ℕ
stop_in Standby c load array security = (standby_now c, array, security)
stop_in Busy c load array security = (c, array, security)
stop_in AwaitsAddress c load array security = (standby_now c, array, security)
stop_in AwaitsChoice c load array security = (standby_now c, array, security)
stop_in (AwaitsWord word) c load array security = (standby_now c, array, security)
stop_in (TakesData kind) c load array security = stop_data kind c load array security
stop_in (SendsByte source) c load array security = (standby_now c, array, security)

unfoldable pub stop : Control → Load → List ℕ → List ℕ → Control × List ℕ × List ℕ
stop c load array security = stop_in c.phase c load array security
