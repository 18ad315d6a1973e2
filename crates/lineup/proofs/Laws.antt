-- What the lists of a line's places and of its controls hold, and what a test of each of their first n, or of each two of them, says of the
-- chips.
use Prim.Native.Nat.{ℕ, ◌<◌, ◌≤◌}
use native.Mathlib.Omega.{arith}
use mathlib.Core.Bool.{Bool, ◌&&◌}
use mathlib.Core.List.{List}
use mathlib.Core.Path.{◌≡◌, ◌∙◌, ap, sym}
use lib.ListN.{length, get_or, replicate, take}
use lib.Seq.{take_all, length-take-le}
use Rattle.std.specs.List.{list_all, enumerate_from}
use Rattle.std.proofs.lemmas.List.{get_or-take}
use Rattle.base.specs.Fold.{all_below, all_pairs}
use Rattle.base.proofs.Fold.{up_same, all_below-list, all_pairs-list}
use Rattle.control.specs.declared.Control.{Control}
use Rattle.control.specs.Control.{fresh}
use Rattle.chip.specs.declared.Chip.{Chip}
use Rattle.std.specs.Result.{is_ok}
use Rattle.std.proofs.Math.Bool.{and_assoc}
use Rattle.board.specs.Place.{nowhere, place_at, placed}
use Rattle.board.specs.Board.{board_verdict}
use Rattle.board.proofs.Laws.{placed_most}
use Rattle.wellformed.specs.Wellformed as one
use Rattle.wellformed.specs.Beside.{side_by_side}
use Rattle.lineup.specs.Chips.{no_chip, chip_at, control_at, place_of, places_of, controls_of}
use Rattle.lineup.specs.Wellformed.{set_up_passes, well_formed}
use Rattle.lineup.proofs.Filled.{filled_at, filled_length}

-- a place is its chip's part and strap
pub place_at_lem : (chips : List Chip) (i : ℕ) → i < 4 → place_at (places_of chips) i ≡ place_of (control_at chips i)
unfolding places_of
place_at_lem chips i below = filled_at (λ (k : ℕ). place_of (control_at chips k)) (replicate 4 nowhere) 4 i nowhere (omega arith) below

pub control_at_lem : (chips : List Chip) (i : ℕ) → i < 4 → get_or (controls_of chips) i (fresh 0 0) ≡ control_at chips i
unfolding controls_of
control_at_lem chips i below = filled_at (control_at chips) (replicate 4 (fresh 0 0)) 4 i (fresh 0 0) (omega arith) below

controls_length : (chips : List Chip) → length (controls_of chips) ≡ 4
unfolding controls_of
controls_length chips = filled_length (control_at chips) (replicate 4 (fresh 0 0)) 4

module _ (chips : List Chip) (n : ℕ) (most : n ≤ 4) where
  controls : List Control
  controls = take n (controls_of chips)

  controls_fit : n ≤ length controls
  unfolding controls
  controls_fit = omega (arith, length-take-le n (controls_of chips) (omega (arith, controls_length chips)))

  controls_all : take n controls ≡ controls
  unfolding controls
  controls_all = take_all n _ (omega (arith, length-take-le n (controls_of chips) (omega (arith, controls_length chips))))

  control_is : (i : ℕ) → i < n → get_or controls i (fresh 0 0) ≡ control_at chips i
  unfolding controls
  control_is i below = get_or-take n (controls_of chips) i (fresh 0 0) below ∙ control_at_lem chips i (omega arith)

  pub apart_all : list_all (λ (q : ℕ × Control). list_all (side_by_side q.1) (take q.0 (take n (controls_of chips)))) (enumerate_from 0 (take n (controls_of chips)))
      ≡ all_pairs (λ (i j : ℕ). side_by_side (control_at chips i) (control_at chips j)) n
  unfolding controls
  apart_all =
      ap (λ (cs : List Control). list_all (λ (q : ℕ × Control). list_all (side_by_side q.1) (take q.0 controls)) (enumerate_from 0 cs)) (sym controls_all)
      ∙ all_pairs-list side_by_side controls (fresh 0 0) n controls_fit
      ∙ up_same _ _ n
      (λ i ok below. ap (λ (fits : Bool). fits && ok)
      (up_same _ _ i
      (λ j fits before. rw (control_is i below, control_is j (omega arith)))
      _))
      _

  pub heed_all : (started : Bool) → list_all (λ (c : Control). one.heeds_start started c.phase) (take n (controls_of chips)) ≡ all_below (λ (i : ℕ). one.heeds_start started (control_at chips i).phase) n
  heed_all started =
      all_below-list (λ (c : Control). one.heeds_start started c.phase) (controls_of chips) (fresh 0 0) n (omega (arith, controls_length chips))
      ∙ up_same _ _ n (λ i ok below. ap (λ (c : Control). one.heeds_start started c.phase && ok) (control_at_lem chips i (omega arith))) _

  pub fit_all : n ≤ length chips → list_all one.well_formed (take n chips) ≡ all_below (λ (i : ℕ). one.well_formed (chip_at chips i)) n
  fit_all fits = all_below-list one.well_formed chips no_chip n fits

-- what makes a state well formed, by its first chips and their controls
pub in_turn : (count : ℕ) (started : Bool) (chips : List Chip) (n : ℕ) → n ≡ placed count → n ≤ length chips
    → (((is_ok (board_verdict count (places_of chips)) && list_all one.well_formed (take n chips))
    && list_all (λ (q : ℕ × Control). list_all (side_by_side q.1) (take q.0 (take n (controls_of chips)))) (enumerate_from 0 (take n (controls_of chips))))
    && list_all (λ (c : Control). one.heeds_start started c.phase) (take n (controls_of chips)))
    ≡ well_formed count started chips
unfolding well_formed
in_turn count started chips n is fits =
    let most : n ≤ 4 = omega (arith, placed_most count, is) in
    and_assoc (set_up_passes count chips && list_all one.well_formed (take n chips)) _ _
    ∙ and_assoc (set_up_passes count chips) (list_all one.well_formed (take n chips)) _
    ∙ rw (fit_all chips n most fits, apart_all chips n most, heed_all chips n most started, is)
