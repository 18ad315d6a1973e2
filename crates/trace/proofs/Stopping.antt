-- What is said of a Stop is what it does. A chip that was not busy is busy afterwards exactly where something is said to be stored; its shares
-- are then the page that the rules store, and else they are as they were.
use Prim.Native.Nat.{ℕ, ◌<◌}
use native.Mathlib.Omega.{arith}
use mathlib.Core.Bool.{Bool, true, false}
use mathlib.Core.List.{List}
use mathlib.Core.Path.{◌≡◌, subst⁻¹}
use Rattle.parts.specs.Part.{geometry_of}
use Rattle.load.specs.declared.Span.{Span}
use Rattle.load.specs.Load.{load_of, store_page}
use Rattle.control.specs.declared.Control.{Control}
use Rattle.control.specs.declared.phase.Phase.{Phase}
use Rattle.control.specs.Phase.{is_busy}
use Rattle.cycle.specs.Stop.{writes_array, writes_security}
use Rattle.cycle.specs.Stop as cycle
use Rattle.chip.specs.declared.Chip.{Chip}
use Rattle.chip.specs.Chip.{stop}
use Rattle.chip.specs.Chip as chip
use Rattle.chip.specs.declared.event.Event.TheVariants as event
use Rattle.std.specs.Prelude.{Some, Ok}
use Rattle.refusal.specs.Checks.{first_of}
use Rattle.decode.specs.Decode.{addressed_of}
use Rattle.lineup.specs.Chips.{chip_at, control_at, places_of}
use Rattle.line.specs.Line.{array_share, security_share}
use Rattle.bus.specs.declared.Bus.{Bus}
use Rattle.bus.specs.Step.{step_checks, step}
use Rattle.bus.proofs.Entry.{Entered, entered}
use Rattle.bus.proofs.Typed.{OfItsType}
use Rattle.promises.proofs.Formed.{none_holds}
use Rattle.promises.proofs.Steps.{step_is_each_chips_own}
use Rattle.trace.specs.declared.ending.Ending.{Ending}
use Rattle.trace.specs.declared.ending.Ending.TheVariants.{Idle, ReadEnds, Stores, StoresNothing}
use Rattle.trace.specs.declared.ending.Stored.{Stored}
use Rattle.trace.specs.declared.ending.Stored.TheVariants.{InArray, InSecurity, Configuration, IdLock}
use Rattle.trace.specs.declared.role.Act.TheVariants.{Stop}
use Rattle.trace.specs.declared.chips.Test.TheVariants.{Partner}
use Rattle.trace.specs.Chips.{is_partner, who}
use Rattle.trace.specs.Ending.{ending_in, ending_of}
use Rattle.trace.specs.Role.{role_as, role_of}
use Rattle.trace.proofs.Partner.{the_partner_is_named}

-- something is said to be stored
abbrev pub stores : Ending → Bool
stores Idle = false
stores ReadEnds = false
stores (Stores stored) = true
stores (StoresNothing reason) = false

-- the two shares that are left where this is stored
abbrev pub stored_to : Stored → Control → Span → List ℕ → List ℕ → List ℕ → List ℕ × List ℕ
stored_to (InArray run) c span values array security =
    (store_page (geometry_of c.part) c.arraycounter (load_of span values) array, security)
stored_to (InSecurity run) c span values array security =
    (array, store_page (geometry_of c.part) c.securitycounter (load_of span values) security)
stored_to (Configuration byte0 byte1) c span values array security = (array, security)
stored_to IdLock c span values array security = (array, security)

abbrev pub shares_after : Ending → Control → Span → List ℕ → List ℕ → List ℕ → List ℕ × List ℕ
shares_after Idle c span values array security = (array, security)
shares_after ReadEnds c span values array security = (array, security)
shares_after (Stores stored) c span values array security = stored_to stored c span values array security
shares_after (StoresNothing reason) c span values array security = (array, security)

-- what was said holds of what was left
pub record Told (ending : Ending) (c : Control) (span : Span) (values array security : List ℕ) (left : Control × List ℕ × List ℕ) : Type 0 where
  pub busy : is_busy left.0.phase ≡ stores ending
  pub shares : (left.1, left.2) ≡ shares_after ending c span values array security

in_phase_lem : (phase : Phase) (c : Control) (span : Span) (values array security : List ℕ) → is_busy phase ≡ false
    → Told (ending_in phase c span) c span values array security (cycle.stop_in phase c (load_of span values) array security)
in_phase_lem phase c span values array security free = grind arith

-- a Stop of one chip
pub a_stop_is_told : (chip : Chip) (values array security : List ℕ) → is_busy chip.control.phase ≡ false
    → let after = stop chip values array security in
    Told (ending_of chip) chip.control chip.span values array security (after.0.control, after.1, after.2)
unfolding ending_of cycle.stop
a_stop_is_told chip values array security free =
    rw free (in_phase_lem chip.control.phase chip.control chip.span values array security free)

carried : (P : Chip → List ℕ → List ℕ → Type 0) {c next : Chip} {a kept s held : List ℕ} → c ≡ next → a ≡ kept → s ≡ held → P next kept held → P c a s
carried P {next = next} {a = a} {kept = kept} {s = s} chips arrays securities holds =
    subst⁻¹ (λ (x : Chip). P x a s) chips
    (subst⁻¹ (λ (x : List ℕ). P next x s) arrays
    (subst⁻¹ (λ (x : List ℕ). P next kept x) securities holds))

-- and of the bus: each chip that was not busy, on its own shares of the two stores
pub a_stop_of_the_bus_is_told : (bus : Bus) (array security : List ℕ) → OfItsType bus → first_of (step_checks bus array security 0x0200) ≡ Ok tt
    → (i : ℕ) → i < bus.count → is_busy (control_at bus.chips i).phase ≡ false
    → let after = step bus array security 0x0200 in
    let places = places_of bus.chips in
    Told (ending_of (chip_at bus.chips i)) (control_at bus.chips i) (chip_at bus.chips i).span bus.values (array_share places i array) (security_share places i security)
    (control_at after.0.bus.chips i, array_share places i after.1, security_share places i after.2)
unfolding addressed_of chip.step
a_stop_of_the_bus_is_told bus array security typed passes i below free =
    let each = step_is_each_chips_own bus array security 0x0200 typed passes i below in
    let c = chip_at bus.chips i in
    let a = array_share (places_of bus.chips) i array in
    let s = security_share (places_of bus.chips) i security in
    carried (λ (next : Chip) (kept held : List ℕ). Told (ending_of c) c.control c.span bus.values a s (next.control, kept, held))
    each.0
    each.1
    each.2
    (a_stop_is_told c bus.values a s free)

-- of a chip that is not the host's partner nothing is said
pub no_partner_ends : (phase : Phase) (c : Control) (span : Span) → is_partner phase ≡ false → ending_in phase c span ≡ Idle
no_partner_ends phase c span none = grind arith

partner_free : (phase : Phase) → is_partner phase ≡ true → is_busy phase ≡ false
partner_free phase partner = grind arith

-- a Stop is told of the host's partner, with the ending that it then has
pub record Ended (bus : Bus) (array security : List ℕ) (i : ℕ) : Type 0 where
  pub told : (named : ℕ) → role_of event.Stop named bus.count bus.chips ≡ role_as (Some i) (Stop (ending_of (chip_at bus.chips i)))
  pub done : let after = step bus array security 0x0200 in
      let places = places_of bus.chips in
      Told (ending_of (chip_at bus.chips i)) (control_at bus.chips i) (chip_at bus.chips i).span bus.values (array_share places i array) (security_share places i security)
      (control_at after.0.bus.chips i, array_share places i after.1, security_share places i after.2)

pub the_partner_ends_as_told : (bus : Bus) (array security : List ℕ) → OfItsType bus → first_of (step_checks bus array security 0x0200) ≡ Ok tt
    → (i : ℕ) → i < bus.count → is_partner (control_at bus.chips i).phase ≡ true → Ended bus array security i
unfolding role_of
the_partner_ends_as_told bus array security typed passes i below partner =
    let none = none_holds (step_checks bus array security 0x0200) passes in
    let enters : Entered bus array security = entered bus array security (rw (none.0, none.1.0)) in
    let is_named_lem : who Partner bus.count bus.chips ≡ Some i =
    the_partner_is_named bus.count bus.started bus.chips enters.formed i (omega (arith, enters.all_placed)) partner in
    record {
      told = λ named. rw is_named_lem;
      done = a_stop_of_the_bus_is_told bus array security typed passes i below (partner_free (control_at bus.chips i).phase partner);
    }
