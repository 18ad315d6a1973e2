-- The read-only half never changes: a Stop stores to the security register only in the page that the counter lies in, and only where
-- that is the ID page, which begins behind the read-only half.
use Prim.Native.Nat.{ℕ, ◌<◌, ◌≤◌}
use native.Mathlib.Omega.{arith}
use mathlib.Core.Bool.{Bool, true, false, cond, not, ◌&&◌}
use mathlib.Core.List.{List}
use mathlib.Core.Path.{◌≡◌, refl}
use lib.ListN.{get_or}
use borrow.Author.Tests.{leb-true}
use Rattle.base.proofs.logic.Laws.{and_left, and_right}
use Rattle.parts.specs.Part.{geometry_of}
use Rattle.parts.proofs.part.Laws.{sound_of}
use Rattle.regions.specs.Page.{in_id_page}
use Rattle.regions.proofs.page.Laws.{page_behind}
use Rattle.load.specs.Load.{Load, load_of, holds, store_page}
use Rattle.load.proofs.Laws.{store_page_before}
use Rattle.control.specs.declared.Control.{Control}
use Rattle.control.specs.declared.phase.Data.{Data}
use Rattle.control.specs.declared.phase.Data.TheVariants.{ToArray, ToSecurity, ToConfiguration, ToLock, ToNowhere}
use Rattle.control.specs.Exchange.{standby_now, busy_now}
use Rattle.protection.specs.Protection.{id_page_protected}
use Rattle.cycle.specs.Stop.{writes_security, stop_data}
use Rattle.chip.specs.declared.Chip.{Chip}
use Rattle.chip.specs.declared.event.Event.{Event}
use Rattle.chip.specs.Chip.{step}
use Rattle.promises.proofs.Keeping.Shares.{shares_keep}

module _ (c : Control) (load : Load) (array security : List ℕ) (i d : ℕ) (inside : i < (geometry_of c.part).readonly) where
  -- what is stored lies in the ID page
  behind : writes_security c load.span ≡ true → (geometry_of c.part).readonly ≤ c.securitycounter
  behind writes =
      let writable : (in_id_page (geometry_of c.part) c.securitycounter && not (id_page_protected c)) ≡ true = and_right (holds load.span) _ writes in
      let inside_page_lem : in_id_page (geometry_of c.part) c.securitycounter ≡ true = and_left _ _ writable in
      leb-true _ _ (and_left _ _ inside_page_lem)

  stored : (geometry_of c.part).readonly ≤ c.securitycounter → get_or (store_page (geometry_of c.part) c.securitycounter load security) i d ≡ get_or security i d
  stored from =
      store_page_before (geometry_of c.part) c.securitycounter load security i d
      (omega (arith, page_behind (geometry_of c.part) (sound_of c.part) c.securitycounter (geometry_of c.part).readonly (sound_of c.part).readonly_whole from))

  written : (writes : Bool) → writes_security c load.span ≡ writes → get_or (cond {A = Control × List ℕ} writes (busy_now c, store_page (geometry_of c.part) c.securitycounter load security) (standby_now c, security)).1 i d ≡ get_or security i d
  written true is = stored (behind is)
  written false is = refl

  data_readonly : (kind : Data) → get_or (stop_data kind c load array security).2 i d ≡ get_or security i d
  data_readonly ToArray = refl
  data_readonly ToSecurity = written (writes_security c load.span) refl
  data_readonly (ToConfiguration came) = refl
  data_readonly (ToLock some) = refl
  data_readonly ToNowhere = refl

pub readonly_kept : (c : Chip) (values array security : List ℕ) (event : Event) (i d : ℕ) → i < (geometry_of c.control.part).readonly → get_or (step c values array security event).2 i d ≡ get_or security i d
readonly_kept c values array security event i d inside =
    shares_keep c values array security (λ (array' security' : List ℕ). get_or security' i d ≡ get_or security i d) refl
    (data_readonly c.control (load_of c.span values) array security i d inside)
    event
