-- A chip that is well formed stays so under every event, and a fresh one is well formed.
use Prim.Native.Nat.{ℕ}
use mathlib.Core.Bool.{Bool, true}
use mathlib.Core.List.{List}
use mathlib.Core.Path.{◌≡◌, refl, ap}
use Rattle.base.proofs.logic.Laws.{and_left, and_right, and_both, either_if, either}
use Rattle.parts.specs.Part.{geometry_of}
use Rattle.parts.proofs.part.Laws.{sound_of}
use Rattle.control.specs.declared.phase.Phase.TheVariants.{Standby, AwaitsAddress}
use Rattle.control.specs.declared.phase.Shown.TheVariants.{ShowsSecurity}
use Rattle.control.specs.declared.Control.{Control}
use Rattle.control.specs.Phase.{is_busy, takes_data}
use Rattle.control.proofs.phase.Laws.{busy_is}
use Rattle.taking.specs.Taking.{take, span_after}
use Rattle.sending.specs.Sending.{read}
use Rattle.cycle.specs.Stop.{stop}
use Rattle.chip.specs.declared.Chip.{Chip}
use Rattle.chip.specs.declared.event.Event.{Event}
use Rattle.chip.specs.declared.event.Event.TheVariants.{Start, Stop, Sent, Read, Wp, CycleOver, PowerUp}
use Rattle.chip.specs.Chip as chip
use Rattle.wellformed.specs.Wellformed.{well_formed}
use Rattle.promises.proofs.Keeping.Fits.{Fits, apart, together, in_phase_fits, showing_fits, array_fits, security_fits, wp_fits}
use Rattle.wellformed.specs.Wellformed.{is_set_up, control_fits}
use Rattle.wellformed.proofs.Laws.{zero_fits}
use Rattle.load.specs.declared.Span.{Span}
use Rattle.load.specs.Span.{empty_span, inside_page}
use Rattle.load.specs.Load.{load_of}
use Rattle.load.proofs.Spanning.{empty_span_inside}
use Rattle.control.specs.Control as control
use Rattle.promises.proofs.Keeping.Good.{Good, Inside, inside_of, unloaded_of, wp_spans, choice_dropped, standby, emptied_good}
use Rattle.promises.proofs.Keeping.Closed.{Closed, stop_keeps}
use Rattle.promises.proofs.Keeping.Registers.{Registers, leave}
use Rattle.promises.proofs.Keeping.Taking.{take_good}
use Rattle.promises.proofs.Keeping.Sending.{read_good}
use Rattle.promises.proofs.Keeping.Stopping.{stop_fits}

-- the clauses hold of a chip exactly when the test does
good_of : (c : Chip) → well_formed c ≡ true → Good c.control c.span
unfolding well_formed
good_of c formed = (apart c.control (and_left _ _ formed), and_right (control_fits c.control) _ formed)

formed_of : (c : Chip) → Good c.control c.span → well_formed c ≡ true
unfolding well_formed
formed_of c good = and_both _ _ (together c.control good.0) good.1

-- no setter changes the part, so a load stays inside its page
inside_closed : (span : Span) → Closed (λ (d : Control). Inside d span)
inside_closed span =
    leave (λ (r : Registers). inside_page (geometry_of r.part).page span ≡ true) (λ d unlocked is. is) (λ d byte0 byte1 unlocked is. is)

module _ (c : Chip) (values array security : List ℕ) (good : Good c.control c.span) where
  start_good : Good (chip.start c).control (chip.start c).span
  start_good =
      either (λ (x : Chip). Good x.control x.span) (is_busy c.control.phase) c _ good
      (emptied_good _ c.span (in_phase_fits c.control good.0 AwaitsAddress refl refl) (inside_of c.control c.span good.1))

  stop_good : Good (chip.stop c values array security).0.control (chip.stop c values array security).0.span
  unfolding stop
  stop_good =
      either (λ (x : Chip × List ℕ × List ℕ). Good x.0.control x.0.span) (is_busy c.control.phase) (c, array, security) _ good
      (emptied_good _ c.span (stop_fits c.control.phase c.control (load_of c.span values) array security refl good.0)
      (stop_keeps (λ (d : Control). Inside d c.span) (inside_closed c.span) c.control.phase c.control (load_of c.span values) array security (inside_of c.control c.span good.1)))

  power_up_good : Good (chip.power_up c).control (chip.power_up c).span
  power_up_good =
      let g = geometry_of c.control.part in
      let counted = security_fits _ (array_fits _ (choice_dropped c.control good.0) 0 (zero_fits g.array)) 0 (zero_fits g.security) in
      emptied_good _ c.span (in_phase_fits _ (showing_fits _ counted ShowsSecurity) Standby refl refl) (inside_of c.control c.span good.1)

  -- a busy chip holds no load, so it may go to standby
  over_good : Good (chip.cycle_over c).control (chip.cycle_over c).span
  over_good =
      either_if (λ (x : Chip). Good x.control x.span) (is_busy c.control.phase) _ c
      (λ busy. standby c.control c.span good.0 (unloaded_of c.control c.span (ap takes_data (busy_is c.control.phase busy)) good.1))
      good

  step_good : (event : Event) → Good (chip.step c values array security event).0.chip.control (chip.step c values array security event).0.chip.span
  unfolding chip.step span_after take read
  step_good Start = start_good
  step_good Stop = stop_good
  step_good (Sent first byte) = take_good c.control.phase c.control c.span first byte refl good
  step_good (Read nack) = read_good c.control.phase c.control c.span array security nack refl good
  step_good (Wp level) = (wp_fits c.control good.0 level, wp_spans c.control c.span level good.1)
  step_good CycleOver = over_good
  step_good PowerUp = power_up_good

pub kept : (c : Chip) (values array security : List ℕ) (event : Event) → well_formed c ≡ true → well_formed (chip.step c values array security event).0.chip ≡ true
kept c values array security event formed = formed_of _ (step_good c values array security (good_of c formed) event)

-- a chip as set up is well formed, where its part is known and its strap in range
pub fresh_is_well_formed : (part strap : ℕ) → is_set_up (control.fresh part strap) ≡ true → well_formed (chip.fresh part strap) ≡ true
fresh_is_well_formed part strap set_up_lem =
    let fits : Fits (control.fresh part strap) =
    record {
      set_up_lem = set_up_lem;
      array = zero_fits (geometry_of part).array;
      security = zero_fits (geometry_of part).security;
      unused = either (λ (clear : Bool). clear ≡ true) (geometry_of part).registers true true refl refl;
      place = refl;
      busy = refl;
      able = refl;
    } in
    formed_of (chip.fresh part strap) (emptied_good _ empty_span fits (empty_span_inside _ (sound_of part).page_some))

-- only a chip that identifies itself is chosen
pub chosen_identifies : (c : Chip) → well_formed c ≡ true → c.control.chosen ≡ true → (geometry_of c.control.part).identifies ≡ true
chosen_identifies c formed chosen = rw chosen at (good_of c formed).0.able
