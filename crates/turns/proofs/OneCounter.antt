-- The fault of one array counter for the line. It is not seen as a malformed state: a bus that enters still enters with it.
use Prim.Native.Nat.{ℕ, zero, suc, ◌%◌, ◌<◌, ◌^◌}
use native.Mathlib.Nat.{mod-lt}
use native.Mathlib.Omega.{arith}
use mathlib.Core.Bool.{true}
use mathlib.Core.List.{List, [], ◌∷◌, map}
use mathlib.Core.Path.{◌≡◌, ◌∙◌, refl, sym, ap, subst}
use lib.ListN.{length, length-map, set, replicate}
use Rattle.base.proofs.logic.Laws.{and_left, and_right, and_both, either_if}
use Rattle.base.proofs.Fold.{up_same}
use Rattle.base.proofs.Every.{every_of}
use Rattle.parts.specs.Part.{geometry_of}
use Rattle.parts.proofs.part.Laws.{sound_of}
use Rattle.load.specs.Span.{is_empty}
use Rattle.control.specs.declared.Control.{Control}
use Rattle.control.specs.Control.{arraycounter_at}
use Rattle.chip.specs.declared.Chip.{Chip}
use Rattle.chip.proofs.Typed.{ChipTyped}
use Rattle.wellformed.specs.Wellformed.{control_fits}
use Rattle.wellformed.specs.Wellformed as one_chip
use Rattle.wellformed.proofs.Laws.{below_fits}
use Rattle.wellformed.specs.Beside.{side_by_side}
use Rattle.std.specs.Prelude.{Ok}
use Rattle.refusal.specs.Checks.{first_of}
use Rattle.board.specs.Place.{nowhere}
use Rattle.board.proofs.Laws.{placed_most}
use Rattle.lineup.specs.Chips.{no_chip, chip_at, control_at, place_of, places_of}
use Rattle.bus.specs.declared.Bus.{Bus}
use Rattle.bus.specs.Step.{entry_checks, bus_with}
use Rattle.bus.proofs.Typed.{OfItsType, count_fits, has_four, values_typed, bus_typed, chip_typed}
use Rattle.promises.proofs.Keeping.Fits.{Fits, apart, together, array_fits}
use Rattle.promises.proofs.Keeping.Good.{inside_of, unloaded_fits}
use Rattle.promises.proofs.Formed.{formed_of, of_formed, entry_of, of_entry}
use Rattle.turns.specs.Benches.{moved_to, shared}
use Rattle.turns.proofs.Entering.{Entering}
use Rattle.turns.proofs.Computing.{Keeps}
use Rattle.turns.proofs.Typed.{counter_typed}

module _ (at : ℕ) where
  each_moves : (chips : List Chip) (i : ℕ) → i < length chips → chip_at (map (moved_to at) chips) i ≡ moved_to at (chip_at chips i)
  each_moves [] i below = absurd (omega arith)
  each_moves (c ∷ chips) zero below = refl
  each_moves (c ∷ chips) (suc i) below = each_moves chips i (omega arith)

  -- the counter that all share is inside every array
  counter_inside : (part : ℕ) → at % (geometry_of part).array < (geometry_of part).array
  counter_inside part = let sound = sound_of part in mod-lt at (omega (arith, sound.zone_eight, sound.zone_some))

  counter_small : (part : ℕ) → at % (geometry_of part).array < 2 ^ 32
  counter_small part = omega (arith, counter_inside part, (sound_of part).array_most)

  abbrev elsewhere : Chip → Chip
  elsewhere c = record { control = arraycounter_at (at % (geometry_of c.control.part).array) c.control; span = c.span }

  -- what holds of a chip, and of it with its counter moved, holds of it after the fault
  moves_or_stays : (P : Chip → Type 0) (c : Chip) → (is_empty c.span ≡ true → P (elsewhere c)) → P c → P (moved_to at c)
  moves_or_stays P c = either_if P (is_empty c.span) (elsewhere c) c

  -- a chip with no load may have its counter anywhere in its array
  still_formed : (c : Chip) → one_chip.well_formed c ≡ true → one_chip.well_formed (moved_to at c) ≡ true
  unfolding one_chip.well_formed
  still_formed c formed = moves_or_stays (λ (d : Chip). one_chip.well_formed d ≡ true) c moved formed
    where
      moved : is_empty c.span ≡ true → one_chip.well_formed (elsewhere c) ≡ true
      moved empty =
          let held : Control = c.control in
          let fits : Fits held = apart held (and_left _ _ formed) in
          and_both _ _
          (together (elsewhere c).control (array_fits held fits _ (below_fits _ _ (counter_inside held.part))))
          (unloaded_fits (elsewhere c).control c.span (inside_of held c.span (and_right (control_fits held) _ formed), empty))

  same_beside : (c d : Chip) → side_by_side (moved_to at c).control (moved_to at d).control ≡ side_by_side c.control d.control
  same_beside c d =
      moves_or_stays (λ (x : Chip). side_by_side x.control (moved_to at d).control ≡ side_by_side c.control d.control) c (λ empty. second) second
    where
      second : side_by_side c.control (moved_to at d).control ≡ side_by_side c.control d.control
      second = moves_or_stays (λ (y : Chip). side_by_side c.control y.control ≡ side_by_side c.control d.control) d (λ empty. refl) refl

  same_phase : (c : Chip) → (moved_to at c).control.phase ≡ c.control.phase
  same_phase c = moves_or_stays (λ (x : Chip). x.control.phase ≡ c.control.phase) c (λ empty. refl) refl

  same_place : (c : Chip) → place_of (moved_to at c).control ≡ place_of c.control
  same_place c = moves_or_stays (λ (x : Chip). place_of x.control ≡ place_of c.control) c (λ empty. refl) refl

  module _ (bus : Bus) (array security : List ℕ) (typed : OfItsType bus) where
    abbrev moved : Bus
    moved = bus_with bus.count bus.started (map (moved_to at) bus.chips) bus.values

    here : (i : ℕ) → i < 4 → chip_at moved.chips i ≡ moved_to at (chip_at bus.chips i)
    here i below = each_moves bus.chips i (omega (arith, has_four typed))

    same_places : places_of moved.chips ≡ places_of bus.chips
    unfolding places_of
    same_places =
        up_same _ _ 4
        (λ i places below. ap (set places i) (ap (λ (c : Chip). place_of c.control) (here i below) ∙ same_place (chip_at bus.chips i)))
        (replicate 4 nowhere)

    moved_typed : OfItsType moved
    moved_typed =
        let four : length moved.chips ≡ 4 = length-map bus.chips (moved_to at) ∙ has_four typed in
        bus_typed bus.count bus.started moved.chips bus.values (count_fits typed) four
        (every_of ChipTyped moved.chips no_chip (λ i below.
        let inside : i < 4 = omega (arith, below, four) in
        let own = chip_typed typed i inside in
        subst ChipTyped (sym (here i inside))
        (moves_or_stays ChipTyped (chip_at bus.chips i) (λ empty. counter_typed (chip_at bus.chips i) _ (counter_small (chip_at bus.chips i).control.part) own) own)))
        (values_typed typed)

    still_enters : first_of (entry_checks bus array security) ≡ Ok tt → Entering (moved, array, security)
    still_enters passed =
        let (formed, array_fits, security_fits) = entry_of bus array security passed in
        let was = formed_of _ _ _ formed in
        let most = placed_most bus.count in
        let now =
        of_formed bus.count bus.started moved.chips
        (record {
          set_up_lem = rw same_places was.set_up_lem;
          fit = λ i below. rw (here i (omega (arith, most))) (still_formed (chip_at bus.chips i) (was.fit i below));
          apart = λ i j below before.
              rw (control_at, here i (omega (arith, most)), here j (omega (arith, most)), same_beside (chip_at bus.chips i) (chip_at bus.chips j)) (was.apart i j below before);
          heed = λ i below. rw (control_at, here i (omega (arith, most)), same_phase (chip_at bus.chips i)) (was.heed i below);
        }) in
        record { typed = moved_typed; enters = of_entry moved array security (now, rw same_places array_fits, rw same_places security_fits) }

pub shared_keeps : Keeps shared
shared_keeps world word made e = still_enters _ made.0.bus made.1 made.2 e.typed e.enters
