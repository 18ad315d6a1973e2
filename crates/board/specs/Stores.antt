-- Something beside the two stores: the array store, then the security store (paper, "The two memories").
use Rattle.std.specs.Prelude.{ℕ, List}

abbrev pub WithStores : Type 0 → Type 0
WithStores A = A × List ℕ × List ℕ

abbrev pub array_of : {A : Type 0} → WithStores A → List ℕ
array_of held = held.1

abbrev pub security_of : {A : Type 0} → WithStores A → List ℕ
security_of held = held.2
