-- A count fills at most four places, and one that set-up lets through as many as it says. Shares stand end to end, so each ends before
-- the next starts. Sharing an address byte goes both ways. And what a chain over the filled places computes, by their places.
use Prim.Native.Nat.{ℕ, zero, suc, ◌+◌, ◌*◌, ◌^◌, ◌<◌, ◌≤◌}
use native.Mathlib.Decide.{dec_lt}
use native.Mathlib.Omega.{arith}
use mathlib.Core.Bool.{Bool, true, false, ◌&&◌, and_comm}
use mathlib.Core.List.{List}
use mathlib.Core.Path.{◌≡◌}
use lib.Dec.{ltb, leb}
use borrow.Author.Tests.{leb-true, not-false}
use lib.ListN.{length, take}
use Rattle.std.specs.List.{list_any}
use Rattle.base.specs.Fold.{up_to, any_below, any_pair}
use Rattle.base.proofs.Fold.{up_to-list, any_below-list, any_pair-slice}
use Rattle.base.proofs.logic.Laws.{and_left, and_right}
use Rattle.base.proofs.number.Laws.{least_first, least_most}
use Rattle.parts.specs.Address.{codes_of, first_code}
use Rattle.parts.specs.Part.{geometry_of}
use Rattle.board.specs.declared.Place.{Place}
use Rattle.board.specs.Place.{nowhere, place_at, placed}
use Rattle.board.specs.Board.{wrong_count, is_unknown, unknown_part, is_outside, strap_outside, match_alike, some_alike, shared_address}
use Rattle.board.specs.declared.shares.Region.{Region}
use Rattle.board.specs.Shares.{figures_at, size_in, sizes_of, start_in}

pub placed_most : (count : ℕ) → placed count ≤ 4
placed_most count = (least_most count 4).1

pub right_count : (count : ℕ) → wrong_count count ≡ false → (1 ≤ count) × (count ≤ 4)
right_count count right =
    let both : (leb 1 count && leb count 4) ≡ true = not-false _ right in
    (leb-true _ _ (and_left _ _ both), leb-true _ _ (and_right (leb 1 count) _ both))

pub placed_all : (count : ℕ) → wrong_count count ≡ false → placed count ≡ count
placed_all count right = least_first count 4 (right_count count right).1

-- a sum of shares, over any figure of the parts
abbrev pub start_of : (ℕ → ℕ) → ℕ → ℕ
start_of share i = up_to (λ (j at : ℕ). at + share j) i 0

pub ends_before : (share : ℕ → ℕ) (i n : ℕ) → i < n → start_of share i + share i ≤ start_of share n
unfolding up_to
ends_before share i zero before = absurd (omega arith)
ends_before share i (suc n) before = go (dec_lt i n) (ends_before share i n)
  where
    go : Dec (i < n) → (i < n → start_of share i + share i ≤ start_of share n) → start_of share i + share i ≤ start_of share n + share n
    go (yes p) earlier = let so_far = earlier p in omega arith
    go (no p) earlier = let last : i ≡ n = omega arith in rw last (omega arith)

-- where every share is small, so is every start
pub start_most : (share : ℕ → ℕ) → ((i : ℕ) → share i ≤ 2 ^ 24) → (n : ℕ) → start_of share n ≤ n * 2 ^ 24
unfolding up_to
start_most share small zero = omega arith
start_most share small (suc n) = omega (arith, small n, start_most share small n)

-- two chips match one address byte, whichever is named first
pub shared_sym : (places : List Place) (i j : ℕ) → shared_address places i j ≡ shared_address places j i
shared_sym places i j = and_comm (starts_before i j) (starts_before j i)
  where
    starts_before : ℕ → ℕ → Bool
    starts_before i j =
        ltb (first_code (figures_at places i) (place_at places i).strap) (first_code (figures_at places j) (place_at places j).strap + codes_of (figures_at places j))

-- what set-up asks of the chips as a list, by their places
module _ (count : ℕ) (places : List Place) (four : length places ≡ 4) where
  fits : placed count ≤ length places
  fits = omega (arith, placed_most count, four)

  pub unknown_chips : list_any is_unknown (take (placed count) places) ≡ any_below (unknown_part places) (placed count)
  unknown_chips = any_below-list is_unknown places nowhere (placed count) fits

  pub outside_chips : list_any is_outside (take (placed count) places) ≡ any_below (strap_outside places) (placed count)
  outside_chips = any_below-list is_outside places nowhere (placed count) fits

  pub alike_chips : some_alike (take (placed count) places) ≡ any_pair (shared_address places) (placed count)
  unfolding some_alike
  alike_chips = any_pair-slice match_alike places nowhere (placed count) fits

  -- what their shares come to is where the next one starts
  pub sizes_start : (region : Region) → sizes_of region (take (placed count) places) ≡ start_in region places (placed count)
  unfolding sizes_of
  sizes_start region = up_to-list (λ (at : ℕ) (p : Place). at + size_in region (geometry_of p.part)) 0 places nowhere (placed count) fits

-- what set-up's checks stand on
pub ruleset of_chips = (placed_most, unknown_chips, outside_chips, alike_chips)
