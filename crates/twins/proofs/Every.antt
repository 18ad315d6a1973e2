-- Every AT24CM01 has a twin: a 24CSM01 with its array side and all else as set up. For what 10 asks of the array side is the same of both figures, and
-- the rest of a 24CSM01 as set up passes 10. So what is proved of twins is true of every line of an AT24CM01.
use Prim.Native.Nat.{ℕ, ◌<◌}
use native.Mathlib.Omega.{arith}
use mathlib.Core.Bool.{true, false, not, ◌&&◌, false≢true}
use mathlib.Core.List.{List}
use mathlib.Core.Path.{◌≡◌, ◌∙◌, refl, sym, ap}
use lib.Dec.{ltb, lit<}
use lib.ListN.{length, length-replicate}
use borrow.Author.Tests.{not-true}
use Rattle.base.specs.Fold.{up_to}
use Rattle.base.proofs.logic.Laws.{and_left, and_right, and_both, or_either}
use Rattle.parts.specs.declared.part.Geometry.{Geometry}
use Rattle.parts.specs.Part.{geometry_at24cm01, is_part, geometry_of}
use Rattle.load.specs.declared.Span.{Span}
use Rattle.load.specs.Span.{inside_page}
use Rattle.control.specs.declared.Control.{Control}
use Rattle.control.specs.declared.phase.Phase.{Phase}
use Rattle.control.specs.Phase.{is_busy}
use Rattle.chip.specs.declared.Chip.{Chip}
use Rattle.chip.proofs.Typed.{ChipTyped}
use Rattle.wellformed.specs.Wellformed.{counter_fits, phase_fits, control_fits, only_data_loads, next_runs_on, span_fits, well_formed}
use Rattle.std.specs.Prelude.{Ok}
use Rattle.board.specs.Board.{board_verdict}
use Rattle.board.specs.declared.shares.Region.TheVariants.{Array}
use Rattle.board.specs.Stores.{array_of, security_of}
use Rattle.lineup.specs.Chips.{places_of}
use Rattle.bus.proofs.Typed.{values_typed, bus_typed, chip_typed}
use Rattle.promises.specs.Playing.{World, bus_of}
use Rattle.promises.proofs.Formed.{of_formed, of_entry}
use Rattle.promises.proofs.Keeping.Fits.{Fits, apart, together}
use Rattle.promises.proofs.Keeping.Typed.{chip_bytes, typed_of}
use Rattle.turns.specs.Alone.{only_chips}
use Rattle.turns.proofs.Alone.{shares_fit}
use Rattle.turns.proofs.Typed.{empty_typed}
use Rattle.twins.specs.ArrayTurns.{only_array}
use Rattle.twins.specs.Twins.{only_chip, LineOfOne, TwinLines, twin_of, twin_line, AsTwins}
use Rattle.twins.proofs.Step.{by_phase}
use Rattle.twins.proofs.Line.{entry, formed, here, whole, as_a_24csm01}

module _ (old : World) (line : LineOfOne old) (older : geometry_of (only_chip old).control.part ≡ geometry_at24cm01) where
  abbrev c : Control
  c = (only_chip old).control

  abbrev span : Span
  span = (only_chip old).span

  abbrev new : Chip
  new = twin_of (only_chip old)

  well : well_formed (only_chip old) ≡ true
  well = (formed old line).fit 0 (here old line)

  fits : Fits c
  unfolding well_formed
  fits = apart c (and_left _ _ well)

  spans : span_fits c span ≡ true
  unfolding well_formed
  spans = and_right (control_fits c) _ well

  place : phase_fits geometry_at24cm01 c.phase ≡ true
  place = rw older at fits.place

  strap_below : ltb c.strap geometry_at24cm01.straps ≡ true
  strap_below = rw older at (and_right (is_part c.part) _ fits.set_up_lem)

  counter_inside : counter_fits geometry_at24cm01.array c.arraycounter ≡ true
  counter_inside = rw older at fits.array

  unchosen : c.chosen ≡ false
  unchosen = not-true _ (or_either (not c.chosen) false (rw older at fits.able) (λ is. is) (λ never. absurd (false≢true never)))

  -- the clauses of its twin: those of the array side are its own, in every phase that it has
  twin_fits : Fits new.control
  unfolding geometry_of
  twin_fits =
      record {
        set_up_lem = strap_below;
        array = counter_inside;
        security = refl;
        unused = refl;
        place = by_phase c.phase place (λ (phase : Phase). phase_fits (geometry_of 1) phase ≡ true) refl refl refl (λ a16. refl) (λ a16 first. refl) refl refl;
        busy = by_phase c.phase place (λ (phase : Phase). not (is_busy phase && false) ≡ true) refl refl refl (λ a16. refl) (λ a16 first. refl) refl refl;
        able = refl;
      }

  runs : next_runs_on c.phase c span ≡ true → next_runs_on c.phase new.control span ≡ true
  unfolding geometry_of
  runs =
      by_phase c.phase place (λ (phase : Phase). next_runs_on phase c span ≡ true → next_runs_on phase new.control span ≡ true)
      (λ is. is) (λ is. is) (λ is. is) (λ a16 is. is) (λ a16 first is. is)
      (λ is. rw older at is)
      (λ is. is)

  twin_spans : span_fits new.control span ≡ true
  unfolding geometry_of
  twin_spans =
      let inside : inside_page geometry_at24cm01.page span ≡ true = rw older at (and_left (inside_page (geometry_of c.part).page span) _ spans) in
      let rest : (only_data_loads c span && next_runs_on c.phase c span) ≡ true = and_right (inside_page (geometry_of c.part).page span) _ spans in
      and_both _ _ inside (and_both (only_data_loads c span) _ (and_left _ _ rest) (runs (and_right (only_data_loads c span) _ rest)))

  twin_well : well_formed new ≡ true
  unfolding well_formed
  twin_well = and_both _ _ (together new.control twin_fits) twin_spans

  twin_typed : ChipTyped new
  twin_typed = let held = chip_bytes (only_chip old) (chip_typed line.typed 0 (lit< tt)) in typed_of new twin_well (lit< tt, (lit< tt, held.1.1))

  -- and of its line
  set_up_lem : board_verdict 1 (places_of (only_chips new)) ≡ Ok tt
  unfolding board_verdict places_of up_to geometry_of
  set_up_lem = rw strap_below

  array_long : length (array_of old) ≡ geometry_at24cm01.array
  array_long =
      let below : 0 < (bus_of old).count = omega (arith, line.one) in
      ap length (sym (whole old line Array (array_of old) (entry old line).array_fits))
      ∙ (shares_fit old line.enters 0 below).0
      ∙ ap (λ (g : Geometry). g.array) older

  twin_line_lem : LineOfOne (twin_line old)
  unfolding up_to places_of geometry_of
  twin_line_lem =
      record {
        typed = bus_typed 1 _ _ _ (lit< tt) refl (twin_typed, (empty_typed, (empty_typed, (empty_typed, tt)))) (values_typed line.typed);
        enters =
            of_entry (bus_of (twin_line old)) (array_of (twin_line old)) (security_of (twin_line old)) (
              of_formed 1 (bus_of old).started (only_chips new) (
                  record {
                    set_up_lem = set_up_lem;
                    fit = λ i first. let is : i ≡ 0 = omega arith in rw is twin_well;
                    apart = λ i j first before. absurd (omega arith);
                    heed = λ i first. let is : i ≡ 0 = omega arith in rw is ((formed old line).heed 0 (here old line));
                  }
                  ),
              array_long,
              length-replicate {A = ℕ} 512 0xFF,
            );
        one = refl;
      }

  pub has_a_twin : TwinLines old (twin_line old)
  unfolding geometry_of
  has_a_twin =
      record {
        old_line = line;
        new_line = twin_line_lem;
        twins = record {
          controls = record {
            older = older;
            newer = refl;
            ewpm_clear = refl;
            strap = refl;
            wp = refl;
            arraycounter = refl;
            phase = refl;
            old_unchosen = unchosen;
            new_unchosen = refl;
          };
          span = refl;
        };
        started = refl;
        values = λ loads. refl;
        array = refl;
      }

  pub every_at24cm01_as_a_24csm01 : (events : List ℕ) → only_array (bus_of old).started events ≡ true → AsTwins old (twin_line old) events
  every_at24cm01_as_a_24csm01 events only = as_a_24csm01 old (twin_line old) has_a_twin events only
