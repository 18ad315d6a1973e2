-- A Stop keeps the clauses: the choice is dropped before a cycle starts, only two bits of configuration byte 0 are written, and registers change only
-- where the part has them.
use Prim.Native.Nat.{ℕ, ◌%◌}
use native.Mathlib.Nat.{mod-lt}
use native.Mathlib.Omega.{arith}
use mathlib.Core.Bool.{true, not, ◌&&◌}
use mathlib.Core.List.{List}
use mathlib.Core.Path.{◌≡◌, ◌∙◌}
use borrow.Author.Tests.{lt-ltb}
use Rattle.base.proofs.logic.Laws.{either}
use Rattle.parts.specs.Part.{geometry_of}
use Rattle.load.specs.Load.{Load}
use Rattle.control.specs.declared.Control.{Control}
use Rattle.control.specs.declared.phase.Phase.{Phase}
use Rattle.control.specs.declared.phase.Phase.TheVariants.{TakesData}
use Rattle.control.specs.declared.phase.Data.{Data}
use Rattle.control.specs.declared.phase.Data.TheVariants.{ToArray, ToSecurity, ToConfiguration, ToLock, ToNowhere}
use Rattle.control.specs.declared.phase.Came.{Came}
use Rattle.control.specs.declared.phase.Came.TheVariants.{Zero, One, Two, Three, More}
use Rattle.control.specs.Control.{idlocked_now, configured}
use Rattle.control.specs.Exchange.{standby_now, busy_now}
use Rattle.control.specs.Bits.{configlock}
use Rattle.configuration.specs.Configuration.{confirms, stop_configuration}
use Rattle.cycle.specs.Stop.{writes_array, writes_security, stop_data, stop_in}
use Rattle.cycle.proofs.Laws.{stop_either}
use Rattle.promises.proofs.Keeping.Fits.{Fits, idlocked_fits, configured_fits}
use Rattle.wellformed.specs.Wellformed.{data_fits}
use Rattle.promises.proofs.Keeping.Good.{standby_now_fits, busy_now_fits}
use Rattle.promises.proofs.Keeping.Taking.{about}

-- a Stop: whatever it does, the load is gone after it
came_fits : (came : Came) (c : Control) → (geometry_of c.part).registers ≡ true → Fits c → Fits (stop_configuration came c)
came_fits Zero c has f = standby_now_fits c f
came_fits (One first) c has f = standby_now_fits c f
came_fits (Two first second) c has f = standby_now_fits c f
came_fits (Three first second third) c has f =
    either Fits (confirms first third && not (configlock c)) (busy_now (configured (first % 4) second c)) (standby_now c)
    (busy_now_fits _ (configured_fits c f has (first % 4) second (lt-ltb _ _ (mod-lt first (omega arith)))))
    (standby_now_fits c f)
came_fits More c has f = standby_now_fits c f

data_fits_lem : (kind : Data) (c : Control) (load : Load) (array security : List ℕ) → data_fits (geometry_of c.part) kind ≡ true → Fits c → Fits (stop_data kind c load array security).0
data_fits_lem ToArray c load array security has f =
    either (λ (x : Control × List ℕ). Fits x.0) (writes_array c load.span) _ _ (busy_now_fits c f) (standby_now_fits c f)
data_fits_lem ToSecurity c load array security has f =
    either (λ (x : Control × List ℕ). Fits x.0) (writes_security c load.span) _ _ (busy_now_fits c f) (standby_now_fits c f)
data_fits_lem (ToConfiguration came) c load array security has f = came_fits came c has f
data_fits_lem (ToLock some) c load array security has f =
    either Fits (some && not c.idlocked) (busy_now (idlocked_now c)) (standby_now c) (busy_now_fits _ (idlocked_fits c f has)) (standby_now_fits c f)
data_fits_lem ToNowhere c load array security has f = standby_now_fits c f

pub stop_fits : (phase : Phase) (c : Control) (load : Load) (array security : List ℕ) → c.phase ≡ phase → Fits c → Fits (stop_in phase c load array security).0
stop_fits phase c load array security is f =
    stop_either c load array security (λ (x : Control × List ℕ × List ℕ). Fits x.0) phase (λ busy. f) (standby_now_fits c f)
    (λ kind takes. data_fits_lem kind c load array security (about (TakesData kind) c (is ∙ takes) f) f)
