-- The smaller of two numbers is at most each, and is one of them.
use Prim.Native.Nat.{ℕ, ◌≤◌}
use native.Mathlib.Decide.{dec_le}
use native.Mathlib.Omega.{arith}
use mathlib.Core.Path.{◌≡◌}
use borrow.Author.Tests.{le-leb, lt-leb}
use Rattle.base.specs.Least.{least}

module _ (a b : ℕ) where
  pub least_first : a ≤ b → least a b ≡ a
  least_first short = rw (le-leb a b short)

  pub least_second : b ≤ a → least a b ≡ b
  least_second long = go (dec_le a b)
    where
      go : Dec (a ≤ b) → least a b ≡ b
      go (yes p) = rw (le-leb a b p) (omega arith)
      go (no p) = rw (lt-leb a b (omega arith))

  pub least_most : (least a b ≤ a) × (least a b ≤ b)
  least_most = go (dec_le a b)
    where
      go : Dec (a ≤ b) → (least a b ≤ a) × (least a b ≤ b)
      go (yes p) = rw (le-leb a b p) (omega arith, p)
      go (no p) = rw (lt-leb a b (omega arith)) (omega arith, omega arith)
