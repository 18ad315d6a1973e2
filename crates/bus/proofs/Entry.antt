-- What a state and stores that pass the entry checks are: well formed, so of one to four chips, and of the right lengths. And a step
-- by all its checks.
use Prim.Native.Nat.{ℕ, ◌+◌, ◌<◌, ◌≤◌}
use native.Mathlib.Omega.{arith}
use mathlib.Core.Bool.{true, false, not, false≢true}
use mathlib.Core.List.{List, ◌++◌}
use mathlib.Core.Path.{◌≡◌, ◌∙◌, refl, sym, ap}
use lib.Dec.{eqb}
use lib.ListN.{length}
use borrow.Author.Tests.{eqb-true, leb-false, not-false}
use Rattle.base.proofs.logic.Laws.{and_left, or_none}
use Rattle.refusal.specs.Verdict.{Verdict}
use Rattle.std.specs.Prelude.{Ok, Err}
use Rattle.refusal.specs.Refusal.{status_of}
use Rattle.refusal.specs.Checks.{first_of}
use Rattle.std.specs.Result.{is_ok}
use Rattle.refusal.proofs.Checks.{Checks, passed_exactly_when, refused_first, passed_first}
use Rattle.board.specs.Stores.{WithStores}
use Rattle.board.specs.Place.{placed}
use Rattle.board.specs.Board.{wrong_count, board_checks, board_verdict}
use Rattle.board.specs.Shares.{figures_at, array_start, security_start}
use Rattle.board.proofs.Laws.{right_count, placed_all, ends_before}
use Rattle.lineup.specs.Chips.{places_of}
use Rattle.lineup.specs.Wellformed.{well_formed}
use Rattle.bus.specs.declared.Bus.{Bus}
use Rattle.bus.specs.declared.Stepped.{Stepped}
use Rattle.bus.specs.Step.{entry_checks, chip_checks, event_checks, step_checks, step_by, event, step_given, step}

pub passed : (verdict : Verdict) → is_ok verdict ≡ true → verdict ≡ Ok tt
passed (Ok tt) is = refl
passed (Err refusal) is = absurd (false≢true is)

pub record Entered (bus : Bus) (array security : List ℕ) : Type 0 where
  pub formed : well_formed bus.count bus.started bus.chips ≡ true
  pub chips_some : 1 ≤ bus.count
  pub chips_most : bus.count ≤ 4
  pub all_placed : placed bus.count ≡ bus.count
  pub array_fits : length array ≡ array_start (places_of bus.chips) (placed bus.count)
  pub security_fits : length security ≡ security_start (places_of bus.chips) (placed bus.count)

-- a well-formed state passes set-up's count
pub counted : (bus : Bus) → well_formed bus.count bus.started bus.chips ≡ true → wrong_count bus.count ≡ false
unfolding well_formed board_verdict
counted bus formed =
    let board : first_of (board_checks bus.count (places_of bus.chips)) ≡ Ok tt = passed _ (and_left _ _ formed) in
    ((passed_exactly_when (board_checks bus.count (places_of bus.chips))).0 (ap status_of board)).0

pub entered : (bus : Bus) (array security : List ℕ) → first_of (entry_checks bus array security) ≡ Ok tt → Entered bus array security
entered bus array security enters =
    let none = (passed_exactly_when (entry_checks bus array security)).0 (ap status_of enters) in
    let formed : well_formed bus.count bus.started bus.chips ≡ true = not-false _ none.0 in
    let right : wrong_count bus.count ≡ false = counted bus formed in
    let lengths = or_none (not (eqb (length array) (array_start (places_of bus.chips) (placed bus.count)))) _ none.1.0 in
    record {
      formed = formed;
      chips_some = (right_count bus.count right).0;
      chips_most = (right_count bus.count right).1;
      all_placed = placed_all bus.count right;
      array_fits = eqb-true _ _ (not-false _ lengths.0);
      security_fits = eqb-true _ _ (not-false _ lengths.1);
    }

-- and what a chip that passes 7 too is: one of them, with its share in the array store
pub record Named (bus : Bus) (array security : List ℕ) (chip : ℕ) : Type 0 where
  pub enters : Entered bus array security
  pub chip_there : chip < bus.count
  pub chip_below : chip < 4
  pub share_fits : array_start (places_of bus.chips) chip + (figures_at (places_of bus.chips) chip).array ≤ length array

pub named : (bus : Bus) (array security : List ℕ) (chip : ℕ) → first_of (chip_checks bus array security chip) ≡ Ok tt → Named bus array security chip
named bus array security chip passes =
    let none = (passed_exactly_when (chip_checks bus array security chip)).0 (ap status_of passes) in
    let enters = entered bus array security (rw (none.0, none.1.0)) in
    let there : chip < bus.count = leb-false _ _ none.1.1.0 in
    record {
      enters = enters;
      chip_there = there;
      chip_below = omega (arith, enters.chips_most);
      share_fits =
          omega (
            arith,
            ends_before (λ (i : ℕ). (figures_at (places_of bus.chips) i).array) chip bus.count there,
            enters.array_fits ∙ ap (array_start (places_of bus.chips)) enters.all_placed,
          );
    }

-- a step is made by the first of all its checks
pub step_by_checks : (bus : Bus) (array security : List ℕ) (word : ℕ) → step bus array security word ≡ step_by (first_of (step_checks bus array security word)) bus array security word
unfolding step event
step_by_checks bus array security word = go (first_of entry) refl
  where
    entry : Checks
    entry = entry_checks bus array security

    by : Verdict → WithStores Stepped
    by verdict = step_by verdict bus array security word

    go : (verdict : Verdict) → first_of entry ≡ verdict → step_given verdict bus array security word ≡ by (first_of (entry ++ event_checks bus word))
    go (Ok tt) is = ap by (sym (passed_first entry (event_checks bus word) is))
    go (Err refusal) is = ap by (sym (refused_first entry (event_checks bus word) refusal is))
