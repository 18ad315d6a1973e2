-- A table's rule, once for all entries: a test that antt computes over the whole list gives the rule at each place of it.
use Prim.Native.Nat.{ℕ, zero, suc, ◌+◌, ◌<◌}
use native.Mathlib.Nat.{add-zero, zero-add, add-suc, suc-add}
use native.Mathlib.Omega.{arith}
use mathlib.Core.Bool.{Bool, true, ◌&&◌}
use mathlib.Core.List.{List, [], ◌∷◌}
use mathlib.Core.Path.{◌≡◌}
use lib.Dec.{eqb}
use borrow.Author.Tests.{eqb-true}
use lib.ListN.{length, get_or}
use Rattle.base.proofs.logic.Laws.{and_left, and_right}

-- each entry, counted from k, is what the rule says of its place
abbrev pub follows : (ℕ → ℕ) → ℕ → List ℕ → Bool
follows rule k [] = true
follows rule k (x ∷ xs) = eqb x (rule k) && follows rule (suc k) xs

module _ (rule : ℕ → ℕ) where
  from : (table : List ℕ) (k i : ℕ) → follows rule k table ≡ true → i < length table → get_or table i 0 ≡ rule (k + i)
  from [] k i all below = absurd (omega arith)
  from (x ∷ xs) k zero all below = rw add-zero (eqb-true x (rule k) (and_left _ _ all))
  from (x ∷ xs) k (suc i) all below = rw (add-suc, ← suc-add) (from xs (suc k) i (and_right (eqb x (rule k)) _ all) (omega arith))

  pub table_at : (table : List ℕ) → follows rule 0 table ≡ true → (i : ℕ) → i < length table → get_or table i 0 ≡ rule i
  table_at table all i below = rw zero-add at (from table 0 i all below)
