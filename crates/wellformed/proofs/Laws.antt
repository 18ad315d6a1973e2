-- A counter inside its region, which may have no bytes: 0 is inside every region, and so is the address that follows whatever address.
use Prim.Native.Nat.{ℕ, ◌+◌, ◌<◌, ◌≤◌}
use native.Mathlib.Decide.{dec_lt}
use native.Mathlib.Omega.{arith}
use mathlib.Core.Bool.{true}
use mathlib.Core.Path.{◌≡◌}
use borrow.Author.Tests.{lt-ltb, ltb-true, le-ltb, eq-eqb, eqb-true, ne_eqb}
use Rattle.regions.specs.Page.{next_in}
use Rattle.regions.proofs.page.Laws.{next_below}
use Rattle.wellformed.specs.Wellformed.{counter_fits}

module _ (size at : ℕ) where
  pub below_fits : at < size → counter_fits size at ≡ true
  below_fits below = rw (ne_eqb size 0 (omega (arith, below))) (lt-ltb _ _ below)

  pub fits_below : 0 < size → counter_fits size at ≡ true → at < size
  fits_below some fits = ltb-true _ _ (rw (ne_eqb size 0 (omega (arith, some))) at fits)

-- whatever the region, an address that fits is no larger than its size
pub fits_most : (size at : ℕ) → counter_fits size at ≡ true → at ≤ size
fits_most size at fits = go (dec_lt 0 size)
  where
    go : Dec (0 < size) → at ≤ size
    go (yes some) = omega (arith, fits_below size at some fits)
    go (no none) = let empty : size ≡ 0 = omega arith in omega (arith, eqb-true at 0 (rw empty at fits), empty)

pub zero_fits : (size : ℕ) → counter_fits size 0 ≡ true
zero_fits size = go (dec_lt 0 size)
  where
    go : Dec (0 < size) → counter_fits size 0 ≡ true
    go (yes some) = below_fits size 0 some
    go (no none) = rw (eq-eqb size 0 (omega arith))

pub next_fits : (size at : ℕ) → counter_fits size (next_in size at) ≡ true
next_fits size at = go (dec_lt 0 size)
  where
    go : Dec (0 < size) → counter_fits size (next_in size at) ≡ true
    go (yes some) = below_fits _ _ (next_below size at some)
    go (no none) = let over : size ≤ at + 1 = omega arith in rw (le-ltb _ _ over) (zero_fits size)
