-- A bus that set-up lets through is well formed, and its stores are of the right length: its chips are fresh, at places that agree with
-- the board's as far as the count goes. The empty state is not well formed.
use Prim.Native.Nat.{ℕ, ◌+◌, ◌<◌}
use native.Mathlib.Omega.{arith}
use mathlib.Core.Bool.{Bool, true, false, false≢true, ◌||◌}
use mathlib.Core.List.{List}
use mathlib.Core.Path.{◌≡◌, ◌∙◌, refl, sym, ap}
use lib.Dec.{ltb}
use lib.ListN.{length, replicate}
use borrow.Author.Tests.{not-false}
use Rattle.base.specs.Fold.{up_to, any_below}
use Rattle.base.proofs.logic.Laws.{and_both}
use Rattle.base.proofs.Fold.{up_same, any_none}
use Rattle.parts.specs.declared.part.Geometry.{Geometry}
use Rattle.parts.specs.Part.{is_part, geometry_of}
use Rattle.chip.specs.declared.Chip.{Chip}
use Rattle.chip.specs.Chip as chip
use Rattle.wellformed.specs.Wellformed as alone
use Rattle.promises.proofs.Keeping.Wellformed.{fresh_is_well_formed}
use Rattle.refusal.specs.Verdict.{Verdict}
use Rattle.std.specs.Prelude.{Ok, Err}
use Rattle.refusal.specs.Checks.{first_of}
use Rattle.std.specs.Result.{is_ok}
use Rattle.refusal.proofs.Checks.{NoneHolds}
use Rattle.board.specs.declared.Place.{Place}
use Rattle.board.specs.Place.{place_at, placed}
use Rattle.board.specs.Board.{unknown_part, strap_outside, shared_address, board_checks, board_verdict}
use Rattle.board.specs.Shares.{figures_at}
use Rattle.board.proofs.Laws.{placed_most}
use Rattle.lineup.proofs.Laws.{place_at_lem}
use Rattle.lineup.specs.Chips.{no_chip, chip_at, control_at, place_of, places_of}
use Rattle.lineup.specs.Wellformed.{well_formed}
use Rattle.bus.specs.Setup.{set_up_checks, empty_chip, empty, fresh_chips, fresh_bus, set_up_by, set_up}
use Rattle.bus.specs.Step.{entry_checks}
use Rattle.lineup.proofs.Filled.{filled_at}
use Rattle.promises.proofs.Formed.{none_holds, Formed, of_formed, right_lengths, EntryHolds, of_entry}

-- two boards whose places agree as far as the count goes
any_same : (test test' : ℕ → Bool) (n : ℕ) → ((i : ℕ) → i < n → test i ≡ test' i) → any_below test n ≡ any_below test' n
any_same test test' n agree = up_same _ _ n (λ i found below. ap (λ (b : Bool). b || found) (agree i below)) false

module _ (count : ℕ) (some others : List Place) (same : (i : ℕ) → i < placed count → place_at some i ≡ place_at others i) where
  checks_same : board_checks count some ≡ board_checks count others
  checks_same =
      rw (
        any_same (unknown_part some) (unknown_part others) (placed count) (λ i below. rw (same i below)),
        any_same (strap_outside some) (strap_outside others) (placed count) (λ i below. rw (same i below)),
        any_same (λ (i : ℕ). any_below (shared_address some i) i) (λ (i : ℕ). any_below (shared_address others i) i) (placed count)
            (λ i below. any_same (shared_address some i) (shared_address others i) i (λ j before. rw (same i below, same j (omega arith)))),
      )

  -- the shares of either store start alike
  starts_same : (size : Geometry → ℕ) → up_to (λ (j at : ℕ). at + size (figures_at some j)) (placed count) 0 ≡ up_to (λ (j at : ℕ). at + size (figures_at others j)) (placed count) 0
  starts_same size = up_same _ _ (placed count) (λ i at below. rw (same i below)) 0

abbrev fresh_at : List Place → ℕ → Chip
fresh_at board i = chip.fresh (place_at board i).part (place_at board i).strap

-- a set-up that passes
module _ (count : ℕ) (board : List Place) (array security : List ℕ) (passed : first_of (set_up_checks count board array security) ≡ Ok tt) where
  abbrev line : List Chip
  line = fresh_chips board (placed count)

  none : NoneHolds (set_up_checks count board array security)
  none = none_holds (set_up_checks count board array security) passed

  fresh_at_lem : (i : ℕ) → i < placed count → chip_at line i ≡ fresh_at board i
  fresh_at_lem i = filled_at (fresh_at board) (replicate 4 empty_chip) (placed count) i no_chip (omega (arith, placed_most count))

  place_same : (i : ℕ) → i < placed count → place_at (places_of line) i ≡ place_at board i
  place_same i below = place_at_lem line i (omega (arith, placed_most count)) ∙ ap (λ (c : Chip). place_of c.control) (fresh_at_lem i below)

  fresh_fits : (i : ℕ) → i < placed count → alone.well_formed (fresh_at board i) ≡ true
  fresh_fits i below =
      let known : is_part (place_at board i).part ≡ true = not-false _ (any_none (unknown_part board) (placed count) i none.1.0 below) in
      let in_range : ltb (place_at board i).strap (geometry_of (place_at board i).part).straps ≡ true = not-false _ (any_none (strap_outside board) (placed count) i none.1.1.0 below) in
      fresh_is_well_formed _ _ (and_both _ _ known in_range)

  fresh_formed : Formed count false line
  unfolding board_verdict
  fresh_formed =
      record {
        set_up_lem = ap first_of (checks_same count (places_of line) board place_same) ∙ rw (none.0, none.1.0, none.1.1.0, none.1.1.1.0);
        fit = λ i below. rw (fresh_at_lem i below) (fresh_fits i below);
        apart = λ i j below before. rw (control_at, fresh_at_lem i below, fresh_at_lem j (omega arith));
        heed = λ i below. rw (control_at, fresh_at_lem i below);
      }

  fresh_entry : EntryHolds (fresh_bus count board) array security
  fresh_entry =
      let (array_fits, security_fits) = right_lengths count board (length array) (length security) none.1.1.1.1.0 in
      let starts = starts_same count (places_of line) board place_same in
      (of_formed count false line fresh_formed, array_fits ∙ sym (starts (λ g. g.array)), security_fits ∙ sym (starts (λ g. g.security)))

pub set_up_is_well_formed : (count : ℕ) (places : List Place) (array security : List ℕ) → (set_up count places array security).verdict ≡ Ok tt
    → first_of (entry_checks (set_up count places array security).bus array security) ≡ Ok tt
unfolding set_up
set_up_is_well_formed count board array security passed = go (first_of (set_up_checks count board array security)) refl passed
  where
    go : (verdict : Verdict) → first_of (set_up_checks count board array security) ≡ verdict → (set_up_by verdict count board).verdict ≡ Ok tt
        → first_of (entry_checks (set_up_by verdict count board).bus array security) ≡ Ok tt
    go (Ok tt) is now = of_entry (fresh_bus count board) array security (fresh_entry count board array security is)
    go (Err refusal) is now = absurd (false≢true (ap is_ok now))

pub empty_is_not_well_formed : well_formed empty.count empty.started empty.chips ≡ false
unfolding well_formed board_verdict
empty_is_not_well_formed = refl
