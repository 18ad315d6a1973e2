-- A loop that fills a list place by place: what it has passed holds the new values, and the rest is as it was.
use Prim.Native.Nat.{ℕ, zero, suc, ◌<◌, ◌≤◌}
use native.Mathlib.Decide.{dec_lt}
use native.Mathlib.Omega.{arith}
use mathlib.Core.List.{List}
use mathlib.Core.Path.{◌≡◌, ◌∙◌, refl, sym}
use Rattle.std.proofs.lemmas.List.{ext_get_or}
use lib.ListN.{length, get_or, set, length-set, replicate}
use lib.Seq.{get_or-set_same, get_or-set_other}
use Rattle.base.specs.Fold.{up_to}
use Rattle.base.proofs.Fold.{up_keeps}

-- the first n places of a list exchanged
abbrev pub filled : {A : Type 0} → (ℕ → A) → ℕ → List A → List A
filled {A} value n list = up_to (λ (i : ℕ) (xs : List A). set xs i (value i)) n list

module _ {A : Type 0} (value : ℕ → A) (list : List A) where
  pub filled_length : (n : ℕ) → length (filled value n list) ≡ length list
  filled_length n =
      up_keeps _ (λ (xs : List A). length xs ≡ length list) (λ i xs long. length-set xs i (value i) ∙ long) n list refl

  pub filled_past : (n i : ℕ) (d : A) → n ≤ i → get_or (filled value n list) i d ≡ get_or list i d
  unfolding up_to
  filled_past zero i d past = refl
  filled_past (suc n) i d past =
      get_or-set_other (filled value n list) n i (value n) d (λ (is : i ≡ n). absurd (omega arith)) ∙ filled_past n i d (omega arith)

  pub filled_at : (n i : ℕ) (d : A) → n ≤ length list → i < n → get_or (filled value n list) i d ≡ value i
  unfolding up_to
  filled_at zero i d fits below = absurd (omega arith)
  filled_at (suc n) i d fits below = go (dec_lt i n) (λ (p : i < n). filled_at n i d (omega arith) p)
    where
      go : Dec (i < n) → (i < n → get_or (filled value n list) i d ≡ value i) → get_or (set (filled value n list) n (value n)) i d ≡ value i
      go (yes p) earlier = get_or-set_other (filled value n list) n i (value n) d (λ (is : i ≡ n). absurd (omega arith)) ∙ earlier p
      go (no p) earlier =
          let last : i ≡ n = omega arith in
          rw last (get_or-set_same (filled value n list) n (value n) d (omega (arith, filled_length n)))

-- an array that holds at each place what a function makes of another's element there
pub mapped : {A B : Type 0} (f : A → B) (d : A) (e : B) (xs : List A) (ys : List B) → length ys ≡ 4 → ((i : ℕ) → i < 4 → get_or ys i e ≡ f (get_or xs i d))
    → ys ≡ filled (λ (i : ℕ). f (get_or xs i d)) 4 (replicate 4 e)
mapped f d e xs ys long each =
    ext_get_or e ys _ (long ∙ sym (filled_length (λ (i : ℕ). f (get_or xs i d)) (replicate 4 e) 4))
    (λ i below. let p : i < 4 = omega (arith, below, long) in each i p ∙ sym (filled_at (λ (k : ℕ). f (get_or xs k d)) (replicate 4 e) 4 i e (omega arith) p))
