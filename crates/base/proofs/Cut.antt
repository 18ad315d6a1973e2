-- A span that reaches past its store is cut at the store's end: how code that cuts it there meets `span` and `patched`, which need no
-- cut. And a span put back unchanged.
use Prim.Native.Nat.{ℕ, zero, suc, ◌+◌, ◌-◌, ◌≤◌}
use native.Mathlib.Decide.{dec_le}
use native.Mathlib.Omega.{arith}
use mathlib.Core.List.{List, [], ◌∷◌, ◌++◌}
use mathlib.Core.Path.{◌≡◌, ◌∙◌, refl, sym, ap}
use lib.ListN.{length, take, drop, length-drop, take-append-drop, drop_of_length-le}
use lib.Seq.{length-take-le, take_all, take-nil, drop-nil}
use Rattle.base.specs.Least.{least}
use Rattle.base.specs.Store.{span, patched}
use Rattle.base.proofs.number.Laws.{least_first, least_second, least_most}

module _ {A : Type 0} where
  take_rest : (n : ℕ) (store : List A) → take n store ++ drop (length (take n store)) store ≡ store
  take_rest zero store = refl
  take_rest (suc n) [] = refl
  take_rest (suc n) (x ∷ store) = ap (λ (rest : List A). x ∷ rest) (take_rest n store)

  pub patched_same : (at n : ℕ) (store : List A) → patched at (span at n store) store ≡ store
  patched_same at n store = ap (λ (rest : List A). take at store ++ rest) (take_rest n (drop at store)) ∙ take-append-drop at store

-- where the cut of a sum is the cut of the sum of a cut
pub least_step : (a b most : ℕ) → least (least a most + b) most ≡ least (a + b) most
least_step a b most = go (dec_le a most)
  where
    go : Dec (a ≤ most) → least (least a most + b) most ≡ least (a + b) most
    go (yes p) = rw (least_first a most p)
    go (no p) =
        let all : least a most ≡ most = least_second a most (omega arith) in
        rw all (least_second (most + b) most (omega arith) ∙ sym (least_second (a + b) most (omega arith)))

module _ {A : Type 0} (at n : ℕ) (store : List A) where
  abbrev from : ℕ
  from = least at (length store)

  abbrev to : ℕ
  to = least (at + n) (length store)

  -- a span that starts behind the store's end is empty
  behind : length store ≤ at → (drop from store ≡ []) × (drop at store ≡ [])
  behind past =
      let all : length store ≤ from = omega (arith, least_second at (length store) past) in
      (drop_of_length-le store all, drop_of_length-le store past)

  pub span_cut : take (to - from) (drop from store) ≡ span at n store
  span_cut = go (dec_le at (length store)) (dec_le (at + n) (length store))
    where
      go : Dec (at ≤ length store) → Dec (at + n ≤ length store) → take (to - from) (drop from store) ≡ span at n store
      go (yes p) (yes q) =
          let size : at + n - at ≡ n = omega arith in
          rw (least_first at (length store) p, least_first (at + n) (length store) q, size)
      go (yes p) (no q) =
          let rest : length (drop at store) ≡ length store - at = length-drop at store in
          rw (least_first at (length store) p, least_second (at + n) (length store) (omega arith))
          (take_all (length store - at) (drop at store) (omega (arith, rest)) ∙ sym (take_all n (drop at store) (omega (arith, rest))))
      go (no p) q =
          let (cut, past) = behind (omega arith) in
          rw (cut, past) (take-nil (to - from) ∙ sym (take-nil n))

  pub patched_cut : (values : List A) → length values ≡ length (take (to - from) (drop from store))
      → take from store ++ (values ++ drop (to - from) (drop from store)) ≡ patched at values store
  patched_cut values kept = go (dec_le at (length store))
    where
      go : Dec (at ≤ length store) → take from store ++ (values ++ drop (to - from) (drop from store)) ≡ patched at values store
      go (yes p) =
          let fits : to - from ≤ length (drop from store) = omega (arith, length-drop from store, least_most (at + n) (length store)) in
          let size : length values ≡ to - from = kept ∙ length-take-le (to - from) (drop from store) fits in
          ap (λ (m : ℕ). take from store ++ (values ++ drop m (drop from store))) (sym size)
          ∙ ap (λ (start : ℕ). take start store ++ (values ++ drop (length values) (drop start store))) (least_first at (length store) p)
      go (no p) =
          let (cut, past) = behind (omega arith) in
          let all : length store ≤ from = omega (arith, least_second at (length store) (omega arith)) in
          ap (λ (rest : List A). take from store ++ (values ++ drop (to - from) rest)) cut
          ∙ ap (λ (rest : List A). take from store ++ (values ++ rest)) (drop-nil (to - from) ∙ sym (drop-nil (length values)))
          ∙ ap (λ (rest : List A). take from store ++ (values ++ drop (length values) rest)) (sym past)
          ∙ ap (λ (front : List A). front ++ (values ++ drop (length values) (drop at store))) (take_all from store all ∙ sym (take_all at store (omega arith)))
