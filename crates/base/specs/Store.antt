-- A span of a store, and a store with one span exchanged: how the rule for slices lends a part out and takes it back.
use Rattle.std.specs.Prelude.{ℕ, List, ◌++◌, length, take, drop}

-- the n values from a place
abbrev pub span : {A : Type 0} → ℕ → ℕ → List A → List A
span at n store = take n (drop at store)

-- the store with these values in place of as many from a place
abbrev pub patched : {A : Type 0} → ℕ → List A → List A → List A
patched at values store = take at store ++ (values ++ drop (length values) (drop at store))
