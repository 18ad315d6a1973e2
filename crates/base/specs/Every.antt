-- What holds of every element of a list; a list of bytes.
use Rattle.std.specs.Prelude.{ℕ, ◌<◌, List, [], ◌∷◌}

abbrev pub Every : {A : Type 0} → (A → Type 0) → List A → Type 0
Every P [] = Unit {0}
Every P (x ∷ xs) = P x × Every P xs

abbrev pub FitsByte : ℕ → Type 0
FitsByte n = n < 256

abbrev pub AllBytes : List ℕ → Type 0
AllBytes = Every FitsByte
