-- What the tests of a well-formed bus say, clause by clause: where they pass, each clause holds of each chip and of each two chips; and
-- where all of that holds, they pass.
use Prim.Native.Nat.{ℕ, ◌<◌}
use native.Mathlib.Omega.{arith}
use mathlib.Core.Bool.{Bool, true, false, not}
use mathlib.Core.List.{List}
use mathlib.Core.Path.{◌≡◌, ap}
use lib.Dec.{eqb}
use lib.ListN.{length}
use borrow.Author.Tests.{eqb-true, eq-eqb, not-false}
use Rattle.base.proofs.logic.Laws.{and_left, and_right, and_both, or_none}
use Rattle.base.proofs.Fold.{all_each, all_at, all_pairs_each, all_pairs_at, any_pair_none}
use Rattle.parts.specs.Part.{geometry_of}
use Rattle.parts.specs.Address.{share_address}
use Rattle.chip.specs.declared.Chip.{Chip}
use Rattle.wellformed.specs.Wellformed.{heeds_start}
use Rattle.wellformed.specs.Wellformed as alone
use Rattle.wellformed.specs.Beside.{side_by_side}
use Rattle.std.specs.Prelude.{Ok}
use Rattle.refusal.specs.Refusal.{status_of}
use Rattle.refusal.specs.Checks.{first_of}
use Rattle.std.specs.Result.{is_ok}
use Rattle.refusal.proofs.Checks.{Checks, NoneHolds, passed_exactly_when}
use Rattle.board.specs.declared.Place.{Place}
use Rattle.board.specs.Place.{placed}
use Rattle.board.specs.Board.{shared_address, board_checks, board_verdict}
use Rattle.board.specs.Shares.{array_start, security_start, wrong_length}
use Rattle.board.proofs.Laws.{placed_most}
use Rattle.lineup.specs.Chips.{chip_at, control_at, places_of}
use Rattle.lineup.proofs.Laws.{place_at_lem}
use Rattle.lineup.specs.Wellformed.{set_up_passes, chips_fit, chips_apart, well_formed}
use Rattle.bus.specs.declared.Bus.{Bus}
use Rattle.bus.specs.Step.{entry_checks}
use Rattle.bus.proofs.Entry.{passed, entered}

-- checks that pass find nothing
pub none_holds : (checks : Checks) → first_of checks ≡ Ok tt → NoneHolds checks
none_holds checks passed = (passed_exactly_when checks).0 (ap status_of passed)

-- what `well_formed` tests
pub record Formed (count : ℕ) (started : Bool) (chips : List Chip) : Type 0 where
  pub set_up_lem : board_verdict count (places_of chips) ≡ Ok tt
  pub fit : (i : ℕ) → i < placed count → alone.well_formed (chip_at chips i) ≡ true
  pub apart : (i j : ℕ) → i < placed count → j < i → side_by_side (control_at chips i) (control_at chips j) ≡ true
  pub heed : (i : ℕ) → i < placed count → heeds_start started (control_at chips i).phase ≡ true

module _ (count : ℕ) (started : Bool) (chips : List Chip) where
  abbrev fits : ℕ → Bool
  fits i = alone.well_formed (chip_at chips i)

  abbrev beside : ℕ → ℕ → Bool
  beside i j = side_by_side (control_at chips i) (control_at chips j)

  abbrev heeds : ℕ → Bool
  heeds i = heeds_start started (control_at chips i).phase

  pub formed_of : well_formed count started chips ≡ true → Formed count started chips
  unfolding well_formed
  formed_of test =
      let rest = and_right (set_up_passes count chips) _ test in
      let line = and_right (chips_fit count chips) _ rest in
      record {
        set_up_lem = passed _ (and_left _ _ test);
        fit = λ i below. all_at fits (placed count) i (and_left (chips_fit count chips) _ rest) below;
        apart = λ i j below before. all_pairs_at beside (placed count) i j (and_left (chips_apart count chips) _ line) below before;
        heed = λ i below. all_at heeds (placed count) i (and_right (chips_apart count chips) _ line) below;
      }

  pub of_formed : Formed count started chips → well_formed count started chips ≡ true
  unfolding well_formed
  of_formed formed =
      and_both (set_up_passes count chips) _ (ap is_ok formed.set_up_lem)
      (and_both (chips_fit count chips) _ (all_each fits (placed count) formed.fit)
      (and_both (chips_apart count chips) _ (all_pairs_each beside (placed count) formed.apart) (all_each heeds (placed count) formed.heed)))

-- no two chips match one address byte: the last of set-up's checks, of places and of chips
pub unshared_places : {count : ℕ} {started : Bool} {chips : List Chip} → Formed count started chips → (i j : ℕ) → i < placed count → j < i → shared_address (places_of chips) i j ≡ false
unfolding board_verdict
unshared_places {count} {started} {chips} formed i j =
    any_pair_none (shared_address (places_of chips)) (placed count) i j (none_holds (board_checks count (places_of chips)) formed.set_up_lem).1.1.1.0

pub unshared : {count : ℕ} {started : Bool} {chips : List Chip} → Formed count started chips → (i j : ℕ) → i < placed count → j < i
    → let c = control_at chips i in let d = control_at chips j in share_address (geometry_of c.part) c.strap (geometry_of d.part) d.strap ≡ false
unshared {count} {started} {chips} formed i j below before =
    rw (place_at_lem chips i (omega (arith, placed_most count)), place_at_lem chips j (omega (arith, placed_most count))) at (unshared_places formed i j below before)

-- what the checks at entry ask
pub right_lengths : (count : ℕ) (places : List Place) (array security : ℕ) → wrong_length count places array security ≡ false
    → (array ≡ array_start places (placed count)) × (security ≡ security_start places (placed count))
right_lengths count places array security right =
    let both = or_none (not (eqb array (array_start places (placed count)))) _ right in
    (eqb-true _ _ (not-false _ both.0), eqb-true _ _ (not-false _ both.1))

module _ (bus : Bus) (array security : List ℕ) where
  abbrev places : List Place
  places = places_of bus.chips

  abbrev pub EntryHolds : Type 0
  EntryHolds =
      (well_formed bus.count bus.started bus.chips ≡ true)
      × (length array ≡ array_start places (placed bus.count))
      × (length security ≡ security_start places (placed bus.count))

  pub entry_of : first_of (entry_checks bus array security) ≡ Ok tt → EntryHolds
  entry_of enters = let e = entered bus array security enters in (e.formed, e.array_fits, e.security_fits)

  pub of_entry : EntryHolds → first_of (entry_checks bus array security) ≡ Ok tt
  of_entry entry = rw (entry.0, eq-eqb _ _ entry.1, eq-eqb _ _ entry.2)
