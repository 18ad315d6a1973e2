-- Every event keeps the length of both shares: storing a page keeps a store's length.
use Prim.Native.Nat.{ℕ}
use mathlib.Core.List.{List}
use mathlib.Core.Path.{◌≡◌, refl}
use lib.ListN.{length}
use Rattle.base.proofs.logic.Laws.{either}
use Rattle.parts.specs.Part.{geometry_of}
use Rattle.load.specs.Load.{Load, load_of}
use Rattle.load.proofs.Laws.{store_page_length}
use Rattle.control.specs.declared.Control.{Control}
use Rattle.control.specs.declared.phase.Data.{Data}
use Rattle.control.specs.declared.phase.Data.TheVariants.{ToArray, ToSecurity, ToConfiguration, ToLock, ToNowhere}
use Rattle.cycle.specs.Stop.{writes_array, writes_security, stop_data}
use Rattle.chip.specs.declared.Chip.{Chip}
use Rattle.chip.specs.declared.event.Event.{Event}
use Rattle.chip.specs.Chip.{step}
use Rattle.promises.proofs.Keeping.Shares.{shares_keep}

-- both shares are as long as two others
abbrev pub Long : List ℕ → List ℕ → List ℕ → List ℕ → Type 0
Long array security array' security' = (length array' ≡ length array) × (length security' ≡ length security)

ends_long : (c : Control) (load : Load) (array security : List ℕ) (kind : Data) → Long array security (stop_data kind c load array security).1 (stop_data kind c load array security).2
ends_long c load array security ToArray =
    (either (λ (x : Control × List ℕ). length x.1 ≡ length array) (writes_array c load.span) _ _ (store_page_length (geometry_of c.part) c.arraycounter load array) refl, refl)
ends_long c load array security ToSecurity =
    (refl, either (λ (x : Control × List ℕ). length x.1 ≡ length security) (writes_security c load.span) _ _ (store_page_length (geometry_of c.part) c.securitycounter load security) refl)
ends_long c load array security (ToConfiguration came) = (refl, refl)
ends_long c load array security (ToLock some) = (refl, refl)
ends_long c load array security ToNowhere = (refl, refl)

pub lengths_kept : (c : Chip) (values array security : List ℕ) (event : Event) → Long array security (step c values array security event).1 (step c values array security event).2
lengths_kept c values array security =
    shares_keep c values array security (Long array security) (refl, refl) (ends_long c.control (load_of c.span values) array security)
