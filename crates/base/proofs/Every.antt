-- What holds of every element of a list holds of every element of its parts, of two lists joined, and with one element exchanged for
-- another of which it holds.
use Prim.Native.Nat.{ℕ, zero, suc, ◌<◌}
use native.Mathlib.Nat.{not-suc-le-zero, le_of_suc-le-suc}
use native.Mathlib.Omega.{arith}
use mathlib.Core.List.{List, [], ◌∷◌, ◌++◌, map}
use lib.ListN.{length, get_or, take, drop, set}
use mir.Val.{Val}
use base.Fml.{Fml}
use denote.Array.{each}
use denote.Shadow.{shadow}
use Rattle.base.specs.Store.{span, patched}
use Rattle.base.specs.Every.{Every}

module _ {A : Type 0} (P : A → Type 0) where
  pub every_at : (xs : List A) (i : ℕ) (d : A) → Every P xs → P d → P (get_or xs i d)
  every_at [] i d all none = none
  every_at (x ∷ xs) zero d all none = all.0
  every_at (x ∷ xs) (suc i) d all none = every_at xs i d all.1 none

  pub every_below : (xs : List A) (i : ℕ) (d : A) → Every P xs → i < length xs → P (get_or xs i d)
  every_below [] i d all below = absurd (not-suc-le-zero below)
  every_below (x ∷ xs) zero d all below = all.0
  every_below (x ∷ xs) (suc i) d all below = every_below xs i d all.1 (le_of_suc-le-suc below)

  -- from what holds at each place
  pub every_of : (xs : List A) (d : A) → ((i : ℕ) → i < length xs → P (get_or xs i d)) → Every P xs
  every_of [] d each = tt
  every_of (x ∷ xs) d each = (each 0 (omega arith), every_of xs d (λ i below. each (suc i) (omega arith)))

  -- and what follows from it
  pub every_so : (Q : A → Type 0) → ((x : A) → P x → Q x) → (xs : List A) → Every P xs → Every Q xs
  every_so Q so [] all = tt
  every_so Q so (x ∷ xs) all = (so x all.0, every_so Q so xs all.1)

  pub every_set : (xs : List A) (i : ℕ) (a : A) → Every P xs → P a → Every P (set xs i a)
  every_set [] i a all new = tt
  every_set (x ∷ xs) zero a all new = (new, all.1)
  every_set (x ∷ xs) (suc i) a all new = (all.0, every_set xs i a all.1 new)

  every_take : (n : ℕ) (xs : List A) → Every P xs → Every P (take n xs)
  every_take zero xs all = tt
  every_take (suc n) [] all = tt
  every_take (suc n) (x ∷ xs) all = (all.0, every_take n xs all.1)

  every_drop : (n : ℕ) (xs : List A) → Every P xs → Every P (drop n xs)
  every_drop zero xs all = all
  every_drop (suc n) [] all = tt
  every_drop (suc n) (x ∷ xs) all = every_drop n xs all.1

  pub every_append : (xs ys : List A) → Every P xs → Every P ys → Every P (xs ++ ys)
  every_append [] ys all more = more
  every_append (x ∷ xs) ys all more = (all.0, every_append xs ys all.1 more)

  pub every_span : (at n : ℕ) (store : List A) → Every P store → Every P (span at n store)
  every_span at n store all = every_take n (drop at store) (every_drop at store all)

  pub every_patched : (at : ℕ) (values store : List A) → Every P values → Every P store → Every P (patched at values store)
  every_patched at values store new all =
      every_append (take at store) _ (every_take at store all)
      (every_append values _ new (every_drop (length values) (drop at store) (every_drop at store all)))

-- by the relation that the checker has for an array: what is so of whatever it may hold is so of every element
pub each_every : {X Y : Type 0} (into : X → Y) (f : Y → List Val → Fml) (P : X → Type 0) → ((x : X) (u : Val) → shadow (f (into x) (u ∷ [])) → P x)
    → (xs : List X) (us : List Val) → shadow (each Y f (map into xs) us) → Every P xs
each_every into f P so [] us all = tt
each_every into f P so (x ∷ xs) [] all = absurd all
each_every into f P so (x ∷ xs) (u ∷ us) all = (so x u all.0, each_every into f P so xs us all.1)

-- and the other way: an array whose elements are values, each of which is one that it may hold
pub every_each : {X Y : Type 0} (into : X → Y) (f : Y → List Val → Fml) (P : X → Type 0) (value : (x : X) → P x → Val) → ((x : X) (p : P x) → shadow (f (into x) (value x p ∷ [])))
    → (xs : List X) → Every P xs → (us : List Val) × shadow (each Y f (map into xs) us)
every_each into f P value so [] all = ([], tt)
every_each into f P value so (x ∷ xs) all = let (us, rest) = every_each into f P value so xs all.1 in (value x all.0 ∷ us, (so x all.0, rest))
