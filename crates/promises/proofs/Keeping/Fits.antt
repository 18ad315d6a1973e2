-- The clauses of a chip's well-formedness one by one, and what each setter leaves of them.
use Prim.Native.Nat.{ℕ}
use mathlib.Core.Bool.{Bool, true, cond, not, ◌&&◌, ◌||◌}
use mathlib.Core.Path.{◌≡◌}
use lib.Dec.{eqb, ltb}
use Rattle.base.proofs.logic.Laws.{and_left, and_right, and_both}
use Rattle.parts.specs.Part.{geometry_of}
use Rattle.control.specs.declared.Control.{Control}
use Rattle.control.specs.declared.phase.Phase.{Phase}
use Rattle.control.specs.declared.phase.Shown.{Shown}
use Rattle.control.specs.Phase.{is_busy}
use Rattle.control.specs.Control.{in_phase, showing, choosing, arraycounter_at, securitycounter_at, idlocked_now, configured, wp_at}
use Rattle.wellformed.specs.Wellformed.{is_set_up, counter_fits, counters_fit, phase_fits, unused_bits_clear, busy_not_chosen, only_able_chosen, control_fits}

pub record Fits (c : Control) : Type 0 where
  pub set_up_lem : is_set_up c ≡ true
  pub array : counter_fits (geometry_of c.part).array c.arraycounter ≡ true
  pub security : counter_fits (geometry_of c.part).security c.securitycounter ≡ true
  pub unused : unused_bits_clear c ≡ true
  pub place : phase_fits (geometry_of c.part) c.phase ≡ true
  pub busy : busy_not_chosen c ≡ true
  pub able : only_able_chosen c ≡ true

pub apart : (c : Control) → control_fits c ≡ true → Fits c
apart c all =
    let front : (is_set_up c && counters_fit c) ≡ true = and_left _ _ all in
    let g = geometry_of c.part in
    let back : ((unused_bits_clear c && phase_fits g c.phase) && (busy_not_chosen c && only_able_chosen c)) ≡ true = and_right (is_set_up c && counters_fit c) _ all in
    let counters : counters_fit c ≡ true = and_right (is_set_up c) _ front in
    let places : (unused_bits_clear c && phase_fits g c.phase) ≡ true = and_left _ _ back in
    let choice : (busy_not_chosen c && only_able_chosen c) ≡ true = and_right (unused_bits_clear c && phase_fits g c.phase) _ back in
    record {
      set_up_lem = and_left _ _ front;
      array = and_left _ _ counters;
      security = and_right (counter_fits g.array c.arraycounter) _ counters;
      unused = and_left _ _ places;
      place = and_right (unused_bits_clear c) _ places;
      busy = and_left _ _ choice;
      able = and_right (busy_not_chosen c) _ choice;
    }

pub together : (c : Control) → Fits c → control_fits c ≡ true
together c f =
    and_both _ _
    (and_both _ _ f.set_up_lem (and_both _ _ f.array f.security))
    (and_both _ _ (and_both _ _ f.unused f.place) (and_both _ _ f.busy f.able))

module _ (c : Control) (f : Fits c) where
  -- what no clause speaks of may change
  pub showing_fits : (shown : Shown) → Fits (showing shown c)
  showing_fits shown = apart (showing shown c) (together c f)

  pub wp_fits : (level : Bool) → Fits (wp_at level c)
  wp_fits level = apart (wp_at level c) (together c f)

  -- what one clause speaks of, where that clause holds
  pub in_phase_fits : (phase : Phase) → phase_fits (geometry_of c.part) phase ≡ true → not (is_busy phase && c.chosen) ≡ true → Fits (in_phase phase c)
  in_phase_fits phase place busy =
      record { set_up_lem = f.set_up_lem; array = f.array; security = f.security; unused = f.unused; place = place; busy = busy; able = f.able }

  pub choosing_fits : (picked : Bool) → not (is_busy c.phase && picked) ≡ true → (not picked || (geometry_of c.part).identifies) ≡ true → Fits (choosing picked c)
  choosing_fits picked busy able =
      record { set_up_lem = f.set_up_lem; array = f.array; security = f.security; unused = f.unused; place = f.place; busy = busy; able = able }

  pub array_fits : (at : ℕ) → counter_fits (geometry_of c.part).array at ≡ true → Fits (arraycounter_at at c)
  array_fits at inside =
      record { set_up_lem = f.set_up_lem; array = inside; security = f.security; unused = f.unused; place = f.place; busy = f.busy; able = f.able }

  pub security_fits : (at : ℕ) → counter_fits (geometry_of c.part).security at ≡ true → Fits (securitycounter_at at c)
  security_fits at inside =
      record { set_up_lem = f.set_up_lem; array = f.array; security = inside; unused = f.unused; place = f.place; busy = f.busy; able = f.able }

  -- registers change only where the part has them
  module _ (has : (geometry_of c.part).registers ≡ true) where
    clear_bits : (byte0 byte1 : ℕ) (locked : Bool) → ltb byte0 4 ≡ true
        → cond (geometry_of c.part).registers (ltb byte0 4) ((eqb byte0 0 && eqb byte1 0) && not locked) ≡ true
    clear_bits byte0 byte1 locked clear = rw has clear

    pub idlocked_fits : Fits (idlocked_now c)
    idlocked_fits =
        record {
          set_up_lem = f.set_up_lem;
          array = f.array;
          security = f.security;
          unused = clear_bits c.config0 c.config1 true (rw has at f.unused);
          place = f.place;
          busy = f.busy;
          able = f.able;
        }

    pub configured_fits : (byte0 byte1 : ℕ) → ltb byte0 4 ≡ true → Fits (configured byte0 byte1 c)
    configured_fits byte0 byte1 clear =
        record {
          set_up_lem = f.set_up_lem;
          array = f.array;
          security = f.security;
          unused = clear_bits byte0 byte1 c.idlocked clear;
          place = f.place;
          busy = f.busy;
          able = f.able;
        }
