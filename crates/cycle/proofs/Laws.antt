-- What a Stop comes to, by the phase: it ends data, a busy chip takes no notice, and in any other phase the chip goes to standby. And what it
-- stores: what was loaded, laid on the page of the counter.
use Prim.Native.Nat.{ℕ, ◌*◌}
use mathlib.Core.Bool.{Bool, true, false, cond}
use mathlib.Core.List.{List}
use mathlib.Core.Path.{◌≡◌, refl}
use Rattle.parts.specs.declared.part.Geometry.{Geometry}
use Rattle.parts.specs.Part.{geometry_of}
use Rattle.regions.specs.Page.{page_of}
use Rattle.load.specs.Load.{Load, store_page}
use Rattle.load.specs.Choice.{choice_of, laid}
use Rattle.load.proofs.Laws.{stored_laid}
use Rattle.control.specs.declared.Control.{Control}
use Rattle.control.specs.declared.phase.Phase.{Phase}
use Rattle.control.specs.declared.phase.Phase.TheVariants.{Standby, Busy, AwaitsAddress, AwaitsChoice, AwaitsWord, TakesData, SendsByte}
use Rattle.control.specs.declared.phase.Data.{Data}
use Rattle.control.specs.Exchange.{standby_now, busy_now}
use Rattle.cycle.specs.Stop.{writes_array, writes_security, stop_array, stop_security, stop_data, stop_in}

module _ (c : Control) (load : Load) (array security : List ℕ) (P : Control × List ℕ × List ℕ → Type 0) where
  pub stop_either : (phase : Phase) → (phase ≡ Busy → P (c, array, security)) → P (standby_now c, array, security)
      → ((kind : Data) → phase ≡ TakesData kind → P (stop_data kind c load array security))
      → P (stop_in phase c load array security)
  stop_either Standby busy over ends = over
  stop_either Busy busy over ends = busy refl
  stop_either AwaitsAddress busy over ends = over
  stop_either AwaitsChoice busy over ends = over
  stop_either (AwaitsWord word) busy over ends = over
  stop_either (TakesData kind) busy over ends = ends kind refl
  stop_either (SendsByte source) busy over ends = over

module _ (c : Control) (load : Load) where
  abbrev g : Geometry
  g = geometry_of c.part

  -- what was loaded, laid on the page of a counter
  abbrev laid_at : ℕ → List ℕ → List ℕ
  laid_at at store = laid g (page_of g at * g.page) (choice_of g load) store

  lays : (writes : Bool) (at : ℕ) (store : List ℕ) → (cond {A = Control × List ℕ} writes (busy_now c, store_page g at load store) (standby_now c, store)).1 ≡ cond writes (laid_at at store) store
  lays true at store = stored_laid g at load store
  lays false at store = refl

  pub stop_lays_array : (array : List ℕ) → (stop_array c load array).1 ≡ cond (writes_array c load.span) (laid_at c.arraycounter array) array
  stop_lays_array = lays (writes_array c load.span) c.arraycounter

  pub stop_lays_security : (security : List ℕ) → (stop_security c load security).1 ≡ cond (writes_security c load.span) (laid_at c.securitycounter security) security
  stop_lays_security = lays (writes_security c load.span) c.securitycounter
