-- The word trace.
use Rattle.std.specs.Prelude.{ℕ, Bool, ◌&&◌, List, [], ◌∷◌, eqb, length}
use Rattle.asking.specs.Asking.{opens}

-- "trace"
abbrev pub tracing : List ℕ
tracing = 116 ∷ 114 ∷ 97 ∷ 99 ∷ 101 ∷ []

-- all of it, and nothing more
abbrev pub asks_trace : List ℕ → Bool
asks_trace word = eqb (length word) 5 && opens tracing word
