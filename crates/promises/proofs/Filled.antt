-- A loop that fills a store share by share: what it has passed holds the new values, and the rest is as it was. Shares do not overlap,
-- since each starts behind those before it.
use Prim.Native.Nat.{ℕ, zero, suc, ◌+◌, ◌-◌, ◌<◌, ◌≤◌}
use native.Mathlib.Decide.{dec_lt}
use native.Mathlib.Omega.{arith}
use mathlib.Core.List.{List}
use mathlib.Core.Path.{◌≡◌, ◌∙◌, refl}
use lib.ListN.{length}
use Rattle.base.specs.Fold.{up_to}
use Rattle.base.specs.Store.{span, patched}
use Rattle.base.proofs.Store.{span_length, patched_length, patched_here, patched_before, patched_behind}
use Rattle.board.proofs.Laws.{start_of, ends_before}

-- the first n shares of a store exchanged
abbrev pub stored : (ℕ → ℕ) → (ℕ → List ℕ) → ℕ → List ℕ → List ℕ
stored share values n store = up_to (λ (i : ℕ) (rest : List ℕ). patched (start_of share i) (values i) rest) n store

-- what the store then holds: its length, the shares that were passed, and the others
pub record Stored (share : ℕ → ℕ) (values : ℕ → List ℕ) (store : List ℕ) (n : ℕ) : Type 0 where
  pub long : length (stored share values n store) ≡ length store
  pub here : (i : ℕ) → i < n → span (start_of share i) (share i) (stored share values n store) ≡ values i
  pub past : (i : ℕ) → n ≤ i → span (start_of share i) (share i) (stored share values n store) ≡ span (start_of share i) (share i) store

-- shares that fill the store, and values as long as what they replace
module _ (share : ℕ → ℕ) (values : ℕ → List ℕ) (store : List ℕ) (most : ℕ) (room : length store ≡ start_of share most) (as_long : (i : ℕ) → length (values i) ≡ length (span (start_of share i) (share i) store)) where
  abbrev now : ℕ → List ℕ
  now n = stored share values n store

  exact : (i : ℕ) → i < most → length (values i) ≡ share i
  exact i below = as_long i ∙ span_length (start_of share i) (share i) store (omega (arith, room, ends_before share i most below))

  fits : (n : ℕ) → n < most → length (now n) ≡ length store → start_of share n + length (values n) ≤ length (now n)
  fits n below long = omega (arith, long, room, exact n below, ends_before share n most below)

  length_kept : (n : ℕ) → n ≤ most → length (now n) ≡ length store
  unfolding up_to
  length_kept zero below = refl
  length_kept (suc n) below =
      let long : length (now n) ≡ length store = length_kept n (omega arith) in
      patched_length (start_of share n) (values n) (now n) (fits n below long) ∙ long

  inside : (n : ℕ) → n < most → start_of share n + length (values n) ≤ length (now n)
  inside n below = fits n below (length_kept n (omega arith))

  stored_past : (n : ℕ) → n ≤ most → (i : ℕ) → n ≤ i → span (start_of share i) (share i) (now n) ≡ span (start_of share i) (share i) store
  unfolding up_to
  stored_past zero below i past = refl
  stored_past (suc n) below i past =
      let at = start_of share n + length (values n) in
      let behind : at + (start_of share i - at) ≡ start_of share i = omega (arith, exact n below, ends_before share n i past) in
      (rw behind at (patched_behind (start_of share n) (values n) (now n) (inside n below) (start_of share i - at) (share i)))
      ∙ stored_past n (omega arith) i (omega arith)

  stored_here : (n : ℕ) → n ≤ most → (i : ℕ) → i < n → span (start_of share i) (share i) (now n) ≡ values i
  unfolding up_to
  stored_here zero below i passed = absurd (omega arith)
  stored_here (suc n) below i passed = go (dec_lt i n) (stored_here n (omega arith) i)
    where
      go : Dec (i < n) → (i < n → span (start_of share i) (share i) (now n) ≡ values i) → span (start_of share i) (share i) (patched (start_of share n) (values n) (now n)) ≡ values i
      go (yes p) earlier =
          patched_before (start_of share n) (values n) (now n) (inside n below) (start_of share i) (share i) (ends_before share i n p) ∙ earlier p
      go (no p) earlier =
          let last : i ≡ n = omega arith in
          rw (last, ← exact n below) (patched_here (start_of share n) (values n) (now n) (inside n below))

  pub all_stored : (n : ℕ) → n ≤ most → Stored share values store n
  all_stored n below = record { long = length_kept n below; here = stored_here n below; past = stored_past n below }
