-- A chip that holds no load does not see the values of the line. An event at it leaves them as they are and the chip without a load, or loads a
-- first byte, which finds none of an earlier load.
use Prim.Native.Nat.{ℕ}
use mathlib.Core.Bool.{Bool, true, false}
use mathlib.Core.List.{List}
use mathlib.Core.Path.{◌≡◌, refl, subst}
use Rattle.base.proofs.logic.Laws.{either}
use Rattle.parts.specs.Part.{geometry_of}
use Rattle.parts.proofs.part.Laws.{sound_of}
use Rattle.regions.specs.Page.{place_of}
use Rattle.load.specs.declared.Span.{Span}
use Rattle.load.specs.Span.{is_empty, dropped}
use Rattle.load.specs.Load.{load_of, grown_at, put_at}
use Rattle.load.proofs.Spanning.{grown_some}
use Rattle.control.specs.declared.Control.{Control}
use Rattle.control.specs.declared.phase.Phase.{Phase}
use Rattle.control.specs.declared.phase.Phase.TheVariants.{Standby, Busy, AwaitsAddress, AwaitsChoice, AwaitsWord, TakesData, SendsByte}
use Rattle.control.specs.declared.phase.Data.{Data}
use Rattle.control.specs.declared.phase.Data.TheVariants.{ToArray, ToSecurity, ToConfiguration, ToLock, ToNowhere}
use Rattle.control.specs.Phase.{is_busy}
use Rattle.taking.specs.Taking.{span_data, span_in, span_after, values_data, values_in}
use Rattle.taking.specs.Taking as taking
use Rattle.cycle.specs.Stop.{stop_data, stop_in, stop}
use Rattle.chip.specs.declared.Chip.{Chip}
use Rattle.chip.specs.declared.event.Event.{Event}
use Rattle.chip.specs.declared.event.Event.TheVariants.{Start, Stop, Sent, Read, Wp, CycleOver, PowerUp}
use Rattle.chip.specs.Chip.{step, values_after}

-- only a Stop reads the values, and without a loaded byte nothing is stored
module _ (c : Control) (span : Span) (values others array security : List ℕ) (empty : is_empty span ≡ true) where
  data_blind : (kind : Data) → stop_data kind c (load_of span values) array security ≡ stop_data kind c (load_of span others) array security
  data_blind ToArray = rw empty refl
  data_blind ToSecurity = rw empty refl
  data_blind (ToConfiguration came) = refl
  data_blind (ToLock some) = refl
  data_blind ToNowhere = refl

  stop_blind : (phase : Phase) → stop_in phase c (load_of span values) array security ≡ stop_in phase c (load_of span others) array security
  stop_blind Standby = refl
  stop_blind Busy = refl
  stop_blind AwaitsAddress = refl
  stop_blind AwaitsChoice = refl
  stop_blind (AwaitsWord word) = refl
  stop_blind (TakesData kind) = data_blind kind
  stop_blind (SendsByte source) = refl

pub unloaded_blind : (c : Chip) (values others array security : List ℕ) (event : Event) → is_empty c.span ≡ true → step c values array security event ≡ step c others array security event
unfolding step stop
unloaded_blind c values others array security Start empty = refl
unloaded_blind c values others array security Stop empty =
    rw (stop_blind c.control c.span values others array security empty c.control.phase)
unloaded_blind c values others array security (Sent first byte) empty = refl
unloaded_blind c values others array security (Read nack) empty = refl
unloaded_blind c values others array security (Wp level) empty = refl
unloaded_blind c values others array security CycleOver empty = refl
unloaded_blind c values others array security PowerUp empty = refl

-- what an event makes of the values, where the chip is without a load after it, and where it has begun one
abbrev Leaves : Bool → (List ℕ → List ℕ) → Type 0
Leaves true after = (values : List ℕ) → after values ≡ values
Leaves false after = (values others : List ℕ) → after values ≡ after others

module _ (c : Chip) (values array security : List ℕ) (empty : is_empty c.span ≡ true) where
  stays : Leaves (is_empty c.span) (λ held. held)
  stays = rw empty (λ held. refl)

  drops : Leaves (is_empty (dropped c.span)) (λ held. held)
  drops held = refl

  begins : (byte at : ℕ) → Leaves (is_empty (grown_at (geometry_of c.control.part) at c.span)) (put_at (geometry_of c.control.part) at byte c.span)
  begins byte at = rw (grown_some _ (place_of (geometry_of c.control.part) at) c.span (sound_of c.control.part).page_some, empty) (λ held others. refl)

  data_leaves : (kind : Data) (byte : ℕ) → Leaves (is_empty (span_data kind c.span c.control)) (values_data kind c.span c.control byte)
  data_leaves ToArray byte = begins byte c.control.arraycounter
  data_leaves ToSecurity byte = begins byte c.control.securitycounter
  data_leaves (ToConfiguration came) byte = stays
  data_leaves (ToLock some) byte = either (λ (span : Span). Leaves (is_empty span) (λ held. held)) c.control.idlocked (dropped c.span) c.span drops stays
  data_leaves ToNowhere byte = stays

  take_leaves : (phase : Phase) (byte : ℕ) → Leaves (is_empty (span_in phase c.span c.control)) (values_in phase c.span c.control byte)
  take_leaves Standby byte = stays
  take_leaves Busy byte = stays
  take_leaves AwaitsAddress byte = stays
  take_leaves AwaitsChoice byte = stays
  take_leaves (AwaitsWord word) byte = stays
  take_leaves (TakesData kind) byte = data_leaves kind byte
  take_leaves (SendsByte source) byte = stays

  step_leaves : (event : Event) → Leaves (is_empty (step c values array security event).0.chip.span) (values_after c event)
  unfolding step values_after span_after taking.values_after
  step_leaves Start = either (λ (x : Chip). Leaves (is_empty x.span) (λ held. held)) (is_busy c.control.phase) c _ stays drops
  step_leaves Stop =
      either (λ (x : Chip × List ℕ × List ℕ). Leaves (is_empty x.0.span) (λ held. held)) (is_busy c.control.phase) (c, array, security) _ stays drops
  step_leaves (Sent first byte) = take_leaves c.control.phase byte
  step_leaves (Read nack) = stays
  step_leaves (Wp level) = stays
  step_leaves CycleOver = either (λ (x : Chip). Leaves (is_empty x.span) (λ held. held)) (is_busy c.control.phase) _ c stays stays
  step_leaves PowerUp = drops

-- a load that begins with this event finds no values of an earlier one
pub load_begins : (c : Chip) (values others array security : List ℕ) (event : Event) → is_empty c.span ≡ true → is_empty (step c values array security event).0.chip.span ≡ false
    → values_after c event values ≡ values_after c event others
load_begins c values others array security event empty begun =
    subst (λ (still : Bool). Leaves still (values_after c event)) begun (step_leaves c values array security empty event) values others

-- and where none begins the values stay
pub no_load_no_values : (c : Chip) (values array security : List ℕ) (event : Event) → is_empty c.span ≡ true → is_empty (step c values array security event).0.chip.span ≡ true
    → values_after c event values ≡ values
no_load_no_values c values array security event empty still =
    subst (λ (none : Bool). Leaves none (values_after c event)) still (step_leaves c values array security empty event) values
