-- The laws by which a loop meets `up_to`: where it begins, one iteration more, where it ends. What a test over every index, or
-- over some index, says of one index. And what a chain over a list, or over the numbers below n, computes, in these words.
use Prim.Native.Nat.{ℕ, zero, suc, ◌+◌, ◌<◌, ◌≤◌}
use native.Mathlib.Decide.{dec_lt}
use native.Mathlib.Nat.{zero-add}
use native.Mathlib.Numerals.{add-one}
use native.Mathlib.Omega.{arith}
use mathlib.Core.Bool.{Bool, true, false, ◌&&◌, ◌||◌, false≢true, and_comm, or_comm}
use mathlib.Core.List.{List}
use mathlib.Core.Path.{◌≡◌, ◌∙◌, refl, ap, subst, sym}
use lib.Dec.{eqb}
use lib.ListN.{length, get_or, take}
use lib.Seq.{take_all, length-take-le}
use borrow.Author.Tests.{eqb-true, eqb-false}
use Rattle.std.specs.List.{list_any, list_all, fold, range_with_len, enumerate_from}
use Rattle.std.proofs.lemmas.List.{get_or-take, take-take}
use Rattle.std.proofs.lemmas.List.Folds.{list_any_more, list_all_more}
use Rattle.std.proofs.lemmas.List.FromFn.{length-range_with_len, get_or-range_with_len, length-enumerate_from, get_or-enumerate_from}
use Rattle.std.proofs.lemmas.List.Sums.{fold_more}
use Rattle.base.specs.Fold.{up_to, all_below, any_below, all_pairs, any_pair}
use Rattle.base.proofs.logic.Laws.{and_left, and_right, and_both, or_left, or_right, or_none, or_either}

module _ {A : Type 0} (f : ℕ → A → A) where
  pub up_none : (a : A) → a ≡ up_to f 0 a
  unfolding up_to
  up_none a = refl

  pub up_more : (n : ℕ) (a : A) {x y : A} → x ≡ up_to f n a → y ≡ f n x → y ≡ up_to f (n + 1) a
  unfolding up_to
  up_more n a so_far iteration = rw add-one (iteration ∙ ap (f n) so_far)

  -- the first iteration, taken off the front
  pub up_first : (n : ℕ) (a : A) → up_to f (suc n) a ≡ up_to (λ (i : ℕ). f (suc i)) n (f 0 a)
  unfolding up_to
  up_first zero a = refl
  up_first (suc n) a = ap (f (suc n)) (up_first n a)

  -- what each iteration keeps, the loop keeps
  pub up_keeps : (P : A → Type 0) → ((i : ℕ) (x : A) → P x → P (f i x)) → (n : ℕ) (a : A) → P a → P (up_to f n a)
  unfolding up_to
  up_keeps P iteration zero a start = start
  up_keeps P iteration (suc n) a start = iteration n (up_to f n a) (up_keeps P iteration n a start)

  -- or what each iteration below n keeps
  pub up_keeps_below : (P : A → Type 0) (n : ℕ) → ((i : ℕ) (x : A) → i < n → P x → P (f i x)) → (a : A) → P a → P (up_to f n a)
  unfolding up_to
  up_keeps_below P zero iteration a start = start
  up_keeps_below P (suc n) iteration a start =
      iteration n (up_to f n a) (omega arith) (up_keeps_below P n (λ i x below. iteration i x (omega arith)) a start)

  -- two loops whose iterations agree end alike
  pub up_same : (g : ℕ → A → A) (n : ℕ) → ((i : ℕ) (x : A) → i < n → f i x ≡ g i x) → (a : A) → up_to f n a ≡ up_to g n a
  unfolding up_to
  up_same g zero agree a = refl
  up_same g (suc n) agree a =
      agree n (up_to f n a) (omega arith) ∙ ap (g n) (up_same g n (λ i x below. agree i x (omega arith)) a)

  pub up_end : {n m : ℕ} (a : A) {x : A} → n ≡ m → x ≡ up_to f n a → x ≡ up_to f m a
  up_end a ends so_far = rw ends at so_far

module _ (test : ℕ → Bool) where
  pub all_each : (n : ℕ) → ((i : ℕ) → i < n → test i ≡ true) → all_below test n ≡ true
  unfolding up_to
  all_each zero each = refl
  all_each (suc n) each = and_both (test n) _ (each n (omega arith)) (all_each n (λ i below. each i (omega arith)))

  pub all_at : (n i : ℕ) → all_below test n ≡ true → i < n → test i ≡ true
  unfolding up_to
  all_at zero i all below = absurd (omega arith)
  all_at (suc n) i all below = go (dec_lt i n) (λ (p : i < n). all_at n i (and_right (test n) _ all) p)
    where
      go : Dec (i < n) → (i < n → test i ≡ true) → test i ≡ true
      go (yes p) earlier = earlier p
      go (no p) earlier = let last : n ≡ i = omega arith in subst (λ (k : ℕ). test k ≡ true) last (and_left (test n) _ all)

  pub any_at : (n i : ℕ) → i < n → test i ≡ true → any_below test n ≡ true
  unfolding up_to
  any_at zero i below here = absurd (omega arith)
  any_at (suc n) i below here = go (dec_lt i n) (λ (p : i < n). any_at n i p here)
    where
      go : Dec (i < n) → (i < n → any_below test n ≡ true) → (test n || any_below test n) ≡ true
      go (yes p) earlier = or_right (test n) _ (earlier p)
      go (no p) earlier = let last : i ≡ n = omega arith in or_left (test n) _ (subst (λ (k : ℕ). test k ≡ true) last here)

  pub any_none : (n i : ℕ) → any_below test n ≡ false → i < n → test i ≡ false
  unfolding up_to
  any_none zero i none below = absurd (omega arith)
  any_none (suc n) i none below = go (dec_lt i n) (λ (p : i < n). any_none n i (or_none (test n) _ none).1 p)
    where
      go : Dec (i < n) → (i < n → test i ≡ false) → test i ≡ false
      go (yes p) earlier = earlier p
      go (no p) earlier = let last : n ≡ i = omega arith in subst (λ (k : ℕ). test k ≡ false) last (or_none (test n) _ none).0

  pub none_any : (n : ℕ) → ((i : ℕ) → i < n → test i ≡ false) → any_below test n ≡ false
  unfolding up_to
  none_any zero none = refl
  none_any (suc n) none = rw (none n (omega arith)) (none_any n (λ i below. none i (omega arith)))

  -- a test that holds of some index holds of one that can be named
  pub any_some : (n : ℕ) → any_below test n ≡ true → (i : ℕ) × ((i < n) × (test i ≡ true))
  unfolding up_to
  any_some zero some = absurd (false≢true some)
  any_some (suc n) some =
      or_either (test n) _ some
      (λ is. (n, (omega arith, is)))
      (λ earlier. let (i, (below, holds)) = any_some n earlier in (i, (omega arith, holds)))

  -- a test that fails at every index but one
  pub any_one : (n k : ℕ) → k < n → ((j : ℕ) → j < n → (j ≡ k → ⊥) → test j ≡ false) → any_below test n ≡ test k
  any_one n k below others = go (test k) refl
    where
      at : (j : ℕ) → j < n → (same : Bool) → eqb j k ≡ same → test k ≡ false → test j ≡ false
      at j before true is none = rw (eqb-true j k is) none
      at j before false is none = others j before (eqb-false j k is)

      go : (here : Bool) → test k ≡ here → any_below test n ≡ here
      go true is = any_at n k below is
      go false is = none_any n (λ j before. at j before (eqb j k) refl is)

-- tests of pairs
module _ (test : ℕ → ℕ → Bool) (n : ℕ) where
  pub all_pairs_each : ((i j : ℕ) → i < n → j < i → test i j ≡ true) → all_pairs test n ≡ true
  all_pairs_each each = all_each (λ (i : ℕ). all_below (test i) i) n (λ i below. all_each (test i) i (λ j before. each i j below before))

  pub all_pairs_at : (i j : ℕ) → all_pairs test n ≡ true → i < n → j < i → test i j ≡ true
  all_pairs_at i j all below before = all_at (test i) i j (all_at (λ (k : ℕ). all_below (test k) k) n i all below) before

  pub any_pair_none : (i j : ℕ) → any_pair test n ≡ false → i < n → j < i → test i j ≡ false
  any_pair_none i j none below before = any_none (test i) i j (any_none (λ (k : ℕ). any_below (test k) k) n i none below) before

-- a fold over the first n of a list; a `sum_by` is one
module _ {A B : Type 0} (f : B → A → B) (a : B) where
  pub up_to-list : (xs : List A) (d : A) (n : ℕ) → n ≤ length xs → fold f a (take n xs) ≡ up_to (λ (i : ℕ) (x : B). f x (get_or xs i d)) n a
  unfolding up_to
  up_to-list xs d zero fits = refl
  up_to-list xs d (suc n) fits =
      ap (λ (m : ℕ). fold f a (take m xs)) (sym (add-one n))
      ∙ fold_more f a xs n d (omega arith)
      ∙ ap (λ (x : B). f x (get_or xs n d)) (up_to-list xs d n (omega arith))

-- the numbers below n as a list
module _ (n : ℕ) where
  all_below_n : take n (range_with_len 0 n) ≡ range_with_len 0 n
  all_below_n = take_all n _ (omega (arith, length-range_with_len 0 n))

  at_below_n : (i : ℕ) → i < n → get_or (range_with_len 0 n) i 0 ≡ i
  at_below_n i below = get_or-range_with_len 0 n i 0 below ∙ zero-add i

  below_n_fits : n ≤ length (range_with_len 0 n)
  below_n_fits = omega (arith, length-range_with_len 0 n)

  -- a fold over them
  pub up_to-range : {B : Type 0} (f : B → ℕ → B) (a : B) → fold f a (range_with_len 0 n) ≡ up_to (λ (i : ℕ) (x : B). f x i) n a
  up_to-range {B} f a =
      ap (fold f a) (sym all_below_n)
      ∙ up_to-list f a (range_with_len 0 n) 0 n below_n_fits
      ∙ up_same _ (λ (i : ℕ) (x : B). f x i) n (λ i x below. ap (f x) (at_below_n i below)) a

-- a test of each of the first n of a list, and of some
module _ {A : Type 0} (p : A → Bool) (xs : List A) (d : A) where
  pub any_below-list : (n : ℕ) → n ≤ length xs → list_any p (take n xs) ≡ any_below (λ (i : ℕ). p (get_or xs i d)) n
  unfolding up_to
  any_below-list zero fits = refl
  any_below-list (suc n) fits =
      ap (λ (m : ℕ). list_any p (take m xs)) (sym (add-one n))
      ∙ list_any_more p xs n d (omega arith)
      ∙ or_comm (list_any p (take n xs)) (p (get_or xs n d))
      ∙ ap (λ (found : Bool). p (get_or xs n d) || found) (any_below-list n (omega arith))

  pub all_below-list : (n : ℕ) → n ≤ length xs → list_all p (take n xs) ≡ all_below (λ (i : ℕ). p (get_or xs i d)) n
  unfolding up_to
  all_below-list zero fits = refl
  all_below-list (suc n) fits =
      ap (λ (m : ℕ). list_all p (take m xs)) (sym (add-one n))
      ∙ list_all_more p xs n d (omega arith)
      ∙ and_comm (list_all p (take n xs)) (p (get_or xs n d))
      ∙ ap (λ (ok : Bool). p (get_or xs n d) && ok) (all_below-list n (omega arith))

  -- of the whole list
  pub any_below-whole : list_any p xs ≡ any_below (λ (i : ℕ). p (get_or xs i d)) (length xs)
  any_below-whole = ap (list_any p) (sym (take_all (length xs) xs (omega arith))) ∙ any_below-list (length xs) (omega arith)

  pub all_below-whole : list_all p xs ≡ all_below (λ (i : ℕ). p (get_or xs i d)) (length xs)
  all_below-whole = ap (list_all p) (sym (take_all (length xs) xs (omega arith))) ∙ all_below-list (length xs) (omega arith)

-- of the numbers below n
module _ (test : ℕ → Bool) (n : ℕ) where
  pub any_below-range : list_any test (range_with_len 0 n) ≡ any_below test n
  any_below-range =
      ap (list_any test) (sym (all_below_n n))
      ∙ any_below-list test (range_with_len 0 n) 0 n (below_n_fits n)
      ∙ up_same _ (λ (i : ℕ) (found : Bool). test i || found) n (λ i found below. ap (λ (k : ℕ). test k || found) (at_below_n n i below)) false

  pub all_below-range : list_all test (range_with_len 0 n) ≡ all_below test n
  all_below-range =
      ap (list_all test) (sym (all_below_n n))
      ∙ all_below-list test (range_with_len 0 n) 0 n (below_n_fits n)
      ∙ up_same _ (λ (i : ℕ) (ok : Bool). test i && ok) n (λ i ok below. ap (λ (k : ℕ). test k && ok) (at_below_n n i below)) true

-- of the first n of a list, each with its place
module _ {A : Type 0} (p : ℕ × A → Bool) (xs : List A) (d : A) (n : ℕ) (fits : n ≤ length xs) where
  first : List A
  first = take n xs

  numbered : List (ℕ × A)
  unfolding first
  numbered = enumerate_from 0 first

  all_numbered : take n numbered ≡ numbered
  unfolding numbered first
  all_numbered = take_all n _ (omega (arith, length-enumerate_from 0 first, length-take-le n xs fits))

  numbered_fits : n ≤ length numbered
  unfolding numbered first
  numbered_fits = omega (arith, length-enumerate_from 0 first, length-take-le n xs fits)

  at_number : (i : ℕ) → i < n → get_or numbered i (0, d) ≡ (i, get_or xs i d)
  unfolding numbered first
  at_number i below =
      let inside : i < length first = omega (arith, length-take-le n xs fits) in
      get_or-enumerate_from 0 first i (0, d) inside
      ∙ ap (λ (k : ℕ). (k, get_or first i d)) (zero-add i)
      ∙ ap (λ (x : A). (i, x)) (get_or-take n xs i d below)

  pub any_below-enumerate : list_any p (enumerate_from 0 (take n xs)) ≡ any_below (λ (i : ℕ). p (i, get_or xs i d)) n
  unfolding numbered first
  any_below-enumerate =
      ap (list_any p) (sym all_numbered)
      ∙ any_below-list p numbered (0, d) n numbered_fits
      ∙ up_same _ (λ (i : ℕ) (found : Bool). p (i, get_or xs i d) || found) n (λ i found below. ap (λ (q : ℕ × A). p q || found) (at_number i below)) false

  pub all_below-enumerate : list_all p (enumerate_from 0 (take n xs)) ≡ all_below (λ (i : ℕ). p (i, get_or xs i d)) n
  unfolding numbered first
  all_below-enumerate =
      ap (list_all p) (sym all_numbered)
      ∙ all_below-list p numbered (0, d) n numbered_fits
      ∙ up_same _ (λ (i : ℕ) (ok : Bool). p (i, get_or xs i d) && ok) n (λ i ok below. ap (λ (q : ℕ × A). p q && ok) (at_number i below)) true

-- of each two of the first n of a list, the later one first, and of some two
module _ {A : Type 0} (test : A → A → Bool) (xs : List A) (d : A) (n : ℕ) (fits : n ≤ length xs) where
  pub any_pair-list : list_any (λ (q : ℕ × A). list_any (test q.1) (take q.0 xs)) (enumerate_from 0 (take n xs)) ≡ any_pair (λ (i j : ℕ). test (get_or xs i d) (get_or xs j d)) n
  any_pair-list =
      any_below-enumerate _ xs d n fits
      ∙ up_same _ (λ (i : ℕ) (found : Bool). any_below (λ (j : ℕ). test (get_or xs i d) (get_or xs j d)) i || found) n
      (λ i found below. ap (λ (some : Bool). some || found) (any_below-list (test (get_or xs i d)) xs d i (omega arith))) false

  pub all_pairs-list : list_all (λ (q : ℕ × A). list_all (test q.1) (take q.0 xs)) (enumerate_from 0 (take n xs)) ≡ all_pairs (λ (i j : ℕ). test (get_or xs i d) (get_or xs j d)) n
  all_pairs-list =
      all_below-enumerate _ xs d n fits
      ∙ up_same _ (λ (i : ℕ) (ok : Bool). all_below (λ (j : ℕ). test (get_or xs i d) (get_or xs j d)) i && ok) n
      (λ i ok below. ap (λ (each : Bool). each && ok) (all_below-list (test (get_or xs i d)) xs d i (omega arith))) true

  -- where the first n are a slice of their own
  pub any_pair-slice : list_any (λ (q : ℕ × A). list_any (test q.1) (take q.0 (take n xs))) (enumerate_from 0 (take n xs)) ≡ any_pair (λ (i j : ℕ). test (get_or xs i d) (get_or xs j d)) n
  any_pair-slice =
      any_below-enumerate _ xs d n fits
      ∙ up_same _ (λ (i : ℕ) (found : Bool). any_below (λ (j : ℕ). test (get_or xs i d) (get_or xs j d)) i || found) n
      (λ i found below.
      ap (λ (some : Bool). some || found)
      (ap (list_any (test (get_or xs i d))) (take-take i n xs (omega arith)) ∙ any_below-list (test (get_or xs i d)) xs d i (omega arith))) false
