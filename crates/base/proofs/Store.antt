-- Laws of a store and its spans, over any element: lengths, and what a span holds after an exchange there, before it or behind it. And
-- values written one right behind the other, which are one exchange.
use Prim.Native.Nat.{ℕ, zero, suc, ◌+◌, ◌-◌, ◌<◌, ◌≤◌}
use native.Mathlib.Numerals.{add-one}
use native.Mathlib.Omega.{arith}
use mathlib.Core.List.{List, [], ◌∷◌, ◌++◌, append_assoc}
use mathlib.Core.Path.{◌≡◌, ◌∙◌, refl, sym, ap}
use lib.ListN.{length, take, drop, get_or, set, length-append, length-take, length-drop, length-set, take-append-drop}
use lib.Seq.{length-take-le, take_all, take_at, drop_at, take-append-le, drop-append-le, drop-append-add, drop-drop, get_or-take, get_or-drop, set_split}
use Rattle.base.specs.Store.{span, patched}

module _ {A : Type 0} where
  -- inside a list no default is read
  pub at_any : (xs : List A) (i : ℕ) (d e : A) → i < length xs → get_or xs i d ≡ get_or xs i e
  at_any [] i d e inside = absurd (omega arith)
  at_any (x ∷ xs) zero d e inside = refl
  at_any (x ∷ xs) (suc i) d e inside = at_any xs i d e (omega arith)

  -- what is left from a place on
  pub rest_all : (store : List A) (at : ℕ) → take (length store - at) (drop at store) ≡ drop at store
  rest_all store at = take_all (length store - at) (drop at store) (omega (arith, length-drop at store))

  -- a span that fits is as long as was asked
  pub span_length : (at n : ℕ) (store : List A) → at + n ≤ length store → length (span at n store) ≡ n
  span_length at n store fits = simp (length-take, length-drop) (omega arith)

  -- what stands in a span stands in the store
  pub span_at : (at n : ℕ) (store : List A) (i : ℕ) (d : A) → i < n → get_or (span at n store) i d ≡ get_or store (at + i) d
  span_at at n store i d below = rw (get_or-take, get_or-drop)

  -- a span of the first of two lists, and of the second
  pub span_front : (at n : ℕ) (xs ys : List A) → at + n ≤ length xs → span at n (xs ++ ys) ≡ span at n xs
  span_front at n xs ys fits =
      let short : at ≤ length xs = omega arith in
      let rest : n ≤ length (drop at xs) = simp length-drop (omega arith) in
      rw (drop-append-le, take-append-le)

  pub span_behind : (k n : ℕ) (xs ys : List A) → span (length xs + k) n (xs ++ ys) ≡ span k n ys
  span_behind k n xs ys = rw drop-append-add

module _ {A : Type 0} (at : ℕ) (values store : List A) (fits : at + length values ≤ length store) where
  front : length (take at store) ≡ at
  front = length-take-le at store (omega arith)

  -- an exchange keeps the store's length
  pub patched_length : length (patched at values store) ≡ length store
  patched_length = simp (length-append, length-take, length-drop) (omega arith)

  -- the span that was exchanged holds the new values
  pub patched_here : span at (length values) (patched at values store) ≡ values
  patched_here =
      ap (take (length values)) (drop_at (take at store) _ at front) ∙ take_at values _ (length values) refl

  -- a span before it, and one behind it, are as they were
  pub patched_before : (k n : ℕ) → k + n ≤ at → span k n (patched at values store) ≡ span k n store
  patched_before k n before =
      let short : k + n ≤ length (take at store) = omega (arith, front) in
      span_front k n (take at store) _ short
      ∙ sym (span_front k n (take at store) (drop at store) short)
      ∙ ap (span k n) (take-append-drop at store)

  pub patched_behind : (k n : ℕ) → span (at + length values + k) n (patched at values store) ≡ span (at + length values + k) n store
  patched_behind k n =
      let long : length (take at store ++ values) ≡ at + length values = length-append (take at store) values ∙ omega (arith, front) in
      ap (span (at + length values + k) n) (sym (append_assoc (take at store) values _))
      ∙ ap (λ (m : ℕ). span (m + k) n (take at store ++ values ++ drop (length values) (drop at store))) (sym long)
      ∙ span_behind k n (take at store ++ values) (drop (length values) (drop at store))
      ∙ ap (λ (rest : List A). span k n rest) (drop-drop (length values) at store)
      ∙ ap (take n) (drop-drop k (at + length values) store)

module _ {A : Type 0} where
  -- nothing written
  pub patched_none : (at : ℕ) (store : List A) → patched at [] store ≡ store
  patched_none at store = take-append-drop at store

  -- one value written is a `set`
  pub patched_one : (at : ℕ) (a : A) (store : List A) → at < length store → set store at a ≡ patched at (a ∷ []) store
  patched_one at a store inside =
      set_split store at a inside
      ∙ ap (λ (rest : List A). take at store ++ (a ∷ rest)) (ap (λ (n : ℕ). drop n store) (sym (add-one at)) ∙ sym (drop-drop 1 at store))

  -- what is written right behind what was written
  pub patched_on : (at : ℕ) (xs ys store : List A) → at + length xs + length ys ≤ length store
      → patched (at + length xs) ys (patched at xs store) ≡ patched at (xs ++ ys) store
  patched_on at xs ys store fits =
      let front_length : length (take at store) ≡ at = length-take-le at store (omega arith) in
      let long : length (take at store ++ xs) ≡ at + length xs = length-append (take at store) xs ∙ omega (arith, front_length) in
      let rest : List A = drop (length xs) (drop at store) in
      let joined : patched at xs store ≡ take at store ++ xs ++ rest = sym (append_assoc (take at store) xs rest) in
      ap (patched (at + length xs) ys) joined
      ∙ ap (λ (p : List A). p ++ (ys ++ drop (length ys) (drop (at + length xs) (take at store ++ xs ++ rest)))) (take_at (take at store ++ xs) rest (at + length xs) long)
      ∙ ap (λ (q : List A). take at store ++ xs ++ (ys ++ drop (length ys) q)) (drop_at (take at store ++ xs) rest (at + length xs) long)
      ∙ append_assoc (take at store) xs (ys ++ drop (length ys) rest)
      ∙ ap (λ (q : List A). take at store ++ q) (sym (append_assoc xs ys (drop (length ys) rest)))
      ∙ ap (λ (q : List A). take at store ++ (xs ++ ys ++ q)) (drop-drop (length ys) (length xs) (drop at store) ∙ ap (λ (n : ℕ). drop n (drop at store)) (sym (length-append xs ys)))

  -- the same, of stores and a place that are known by equations
  pub patched_next : (at place : ℕ) (xs ys store : List A) {before after : List A}
      → at + length xs + length ys ≤ length store
      → before ≡ patched at xs store
      → after ≡ patched place ys before
      → place ≡ at + length xs
      → after ≡ patched at (xs ++ ys) store
  patched_next at place xs ys store {before} fits so_far more here =
      more
      ∙ ap (λ (n : ℕ). patched n ys before) here
      ∙ ap (patched (at + length xs) ys) so_far
      ∙ patched_on at xs ys store fits

  -- two values, one after the other
  pub patched_two : (at : ℕ) (a b : A) (store : List A) → at + 2 ≤ length store → set (set store at a) (at + 1) b ≡ patched at (a ∷ b ∷ []) store
  patched_two at a b store fits =
      patched_next at (at + 1) (a ∷ []) (b ∷ []) store (omega arith)
      (patched_one at a store (omega arith))
      (patched_one (at + 1) b (set store at a) (omega (arith, length-set store at a)))
      refl
