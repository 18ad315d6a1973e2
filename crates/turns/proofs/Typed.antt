-- Chips without a load that are values of their type, well formed or not: where part and strap are bytes, a fresh one is, in
-- standby or busy and with WP low or high; and so is a chip with another array counter. The values where no byte has come are of
-- theirs. So a bus of one chip of a bus is of its type.
use Prim.Native.Nat.{ℕ, zero, suc, ◌<◌, ◌^◌}
use mathlib.Core.Bool.{Bool, false}
use mathlib.Core.List.{[], ◌∷◌}
use mathlib.Core.Path.{refl}
use lib.Dec.{lit<, lit≤}
use lib.ListN.{replicate, length-replicate}
use mir.Val.{Val}
use denote.Laws.{Is}
use Rattle.base.specs.Every.{AllBytes}
use Rattle.base.proofs.logic.Laws.{either}
use Rattle.load.specs.Span.{empty_span}
use Rattle.load.specs.Load.{no_values}
use Rattle.control.specs.declared.Control.{Control}
use Rattle.control.specs.declared.phase.Phase.{Phase}
use Rattle.control.specs.declared.phase.Phase.TheVariants.{Standby, Busy}
use Rattle.control.specs.Control.{fresh, in_phase, arraycounter_at, wp_at}
use Rattle.control.specs.contracts.Control as controls
use Rattle.control.specs.contracts.phase.Phase as phases
use Rattle.chip.specs.declared.Chip.{Chip}
use Rattle.chip.proofs.Typed.{ChipTyped}
use Rattle.promises.proofs.Keeping.Typed.{span_typed}
use Rattle.lineup.specs.Chips.{chip_at}
use Rattle.bus.specs.Setup.{empty_chip}
use Rattle.bus.proofs.Typed.{OfItsType, ValuesTyped, values_typed, bus_typed, chip_typed}
use Rattle.promises.specs.Playing.{World}
use Rattle.turns.specs.Idle.{is_loading}
use Rattle.turns.specs.Alone.{alone}

abbrev pub ControlTyped : Control → Type 0
ControlTyped c = (u : Val) × Is controls.the_row c (u ∷ [])

abbrev pub PhaseTyped : Phase → Type 0
PhaseTyped phase = (u : Val) × Is phases.the_row phase (u ∷ [])

pub standby_typed : PhaseTyped Standby
standby_typed = (_, (_, (refl, (tt, (refl, tt)))))

pub busy_typed : PhaseTyped Busy
busy_typed = (_, (_, (refl, (tt, (refl, tt)))))

pub fresh_typed : (part strap : ℕ) → part < 256 → strap < 256 → (level : Bool) (phase : Phase) → PhaseTyped phase
    → ControlTyped (in_phase phase (wp_at level (fresh part strap)))
fresh_typed part strap fits fits' level phase typed = (
  _,
  (
    (_, (_, (_, (_, (_, (_, (_, (_, (_, (_, (_, tt))))))))))),
    (
      refl,
      (
        (refl, fits),
        (
          (refl, fits'),
          (
            refl,
            (
              (refl, lit< tt),
              (
                (refl, lit< tt),
                (
                  refl,
                  (
                    (refl, lit< tt),
                    (
                      (refl, lit< tt),
                      ((_, (refl, (tt, (refl, tt)))), (refl, (typed.1, tt))),
                    ),
                  ),
                ),
              ),
            ),
          ),
        ),
      ),
    ),
  ),
)

-- without a load
pub unloaded_typed : (c : Control) → ControlTyped c → ChipTyped (record { control = c; span = empty_span })
unloaded_typed c typed =
    record { value = _; is = ((_, (_, tt)), (refl, (typed.1, ((span_typed empty_span 256 (lit≤ tt) refl).1, tt)))) }

pub empty_typed : ChipTyped empty_chip
empty_typed = unloaded_typed (fresh 0 0) (fresh_typed 0 0 (lit< tt) (lit< tt) false Standby standby_typed)

-- with its array counter elsewhere
pub counter_typed : (c : Chip) (at : ℕ) → at < 2 ^ 32 → ChipTyped c → ChipTyped (record { control = arraycounter_at at c.control; span = c.span })
counter_typed c at fits typed =
    let f = typed.is.1.1.0.1.1 in
    record {
      value = _;
      is = (
        (_, (_, tt)),
        (
          refl,
          (
            (
              (_, (_, (_, (_, (_, (_, (_, (_, (_, (_, (_, tt))))))))))),
              (
                refl,
                (
                  f.0,
                  (
                    f.1.0,
                    (
                      f.1.1.0,
                      (
                        f.1.1.1.0,
                        (
                          f.1.1.1.1.0,
                          (
                            f.1.1.1.1.1.0,
                            (
                              (refl, fits),
                              (
                                f.1.1.1.1.1.1.1.0,
                                (f.1.1.1.1.1.1.1.1.0, (f.1.1.1.1.1.1.1.1.1.0, (f.1.1.1.1.1.1.1.1.1.1.0, tt))),
                              ),
                            ),
                          ),
                        ),
                      ),
                    ),
                  ),
                ),
              ),
            ),
            (typed.is.1.1.1.0, tt),
          ),
        ),
      );
    }

-- the values where no byte has come
zeros : (n : ℕ) → AllBytes (replicate n 0)
zeros zero = tt
zeros (suc n) = (lit< tt, zeros n)

pub no_values_typed : ValuesTyped no_values
no_values_typed = record { long = length-replicate {A = ℕ} 256 0; bytes = zeros 256 }

-- a chip of a bus, alone on the line: its values are the bus's, or those
pub alone_typed : (world : World) (k : ℕ) → k < 4 → OfItsType world.0 → OfItsType (alone k world).0
alone_typed world k below typed =
    bus_typed 1 _ _ _ (lit< tt) refl (chip_typed typed k below, (empty_typed, (empty_typed, (empty_typed, tt))))
    (either ValuesTyped (is_loading (chip_at world.0.chips k)) world.0.values no_values (values_typed typed) no_values_typed)
