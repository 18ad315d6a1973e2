-- The smaller of two numbers.
use Rattle.std.specs.Prelude.{ℕ, cond, leb}

abbrev pub least : ℕ → ℕ → ℕ
least a b = cond (leb a b) a b
