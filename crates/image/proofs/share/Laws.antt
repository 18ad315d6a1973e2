-- A chip that passes 10, 5 and 7 has its share in the array store: the next share starts where it ends.
use Prim.Native.Nat.{ℕ, ◌+◌, ◌-◌, ◌≤◌}
use native.Mathlib.Numerals.{add-one}
use native.Mathlib.Omega.{arith}
use mathlib.Core.List.{List}
use mathlib.Core.Path.{◌≡◌, ◌∙◌, sym, ap}
use lib.ListN.{length, take, drop}
use Rattle.std.specs.declared.ops.Range.{Range}
use Rattle.base.specs.Fold.{up_to}
use Rattle.base.proofs.Store.{span_length}
use Rattle.base.proofs.number.Laws.{least_first}
use Rattle.board.specs.declared.Place.{Place}
use Rattle.board.specs.Place.{placed}
use Rattle.board.specs.Shares.{figures_at, array_start}
use Rattle.lineup.specs.Chips.{places_of}
use Rattle.line.specs.Line.{array_share}
use Rattle.bus.specs.declared.Bus.{Bus}
use Rattle.bus.proofs.Entry.{Named}
use Rattle.image.specs.Share.{share_of}

-- where it lies, how long it is, and what is lent of the store
pub record Lies (bus : Bus) (array : List ℕ) (k : ℕ) (share : Range ℕ) : Type 0 where
  pub starts : share.start ≡ array_start (places_of bus.chips) k
  pub ends : share.end ≡ share.start + (figures_at (places_of bus.chips) k).array
  pub fits : share.end ≤ length array
  pub lent : take (share.end - share.start) (drop share.start array) ≡ array_share (places_of bus.chips) k array

next_start : (places : List Place) (k : ℕ) → array_start places (k + 1) ≡ array_start places k + (figures_at places k).array
unfolding up_to
next_start places k = rw add-one

module _ (bus : Bus) (array security : List ℕ) (k : ℕ) (is : Named bus array security k) where
  pub share_length : length (array_share (places_of bus.chips) k array) ≡ (figures_at (places_of bus.chips) k).array
  share_length = span_length (array_start (places_of bus.chips) k) (figures_at (places_of bus.chips) k).array array is.share_fits

  pub lies : {share : Range ℕ} → share ≡ share_of bus k → Lies bus array k share
  lies {share} said =
      let places = places_of bus.chips in
      let here : placed k ≡ k = least_first k 4 (omega (arith, is.chip_below)) in
      let next : placed (placed k + 1) ≡ k + 1 = ap (λ (n : ℕ). placed (n + 1)) here ∙ least_first (k + 1) 4 (omega (arith, is.chip_below)) in
      let starts : share.start ≡ array_start places k = ap (λ (s : Range ℕ). s.start) said ∙ ap (array_start places) here in
      let ends : share.end ≡ share.start + (figures_at places k).array =
      ap (λ (s : Range ℕ). s.end) said ∙ ap (array_start places) next ∙ next_start places k ∙ ap (λ (n : ℕ). n + (figures_at places k).array) (sym starts)
      in
      let size : share.end - share.start ≡ (figures_at places k).array = omega arith in
      record {
        starts = starts;
        ends = ends;
        fits = omega (arith, is.share_fits);
        lent = ap (λ (n : ℕ). take n (drop share.start array)) size ∙ ap (λ (from : ℕ). take (figures_at places k).array (drop from array)) starts;
      }
