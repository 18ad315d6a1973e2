-- The words of a trace: bytes at the start of a buffer, none of them LF, so that they stay on the line of their answer.
use Rattle.std.specs.Prelude.{ℕ, ◌≤◌, ◌<◌, List, ◌≡◌, length, get_or}
use Rattle.transcript.specs.Frame.{lf}

-- the buffer has n bytes, and the first n are no LF
pub record Plain (n : ℕ) (out : List ℕ) : Type 0 where
  pub there : n ≤ length out
  pub no_lf : (i : ℕ) → i < n → get_or out i 0 ≡ lf → ⊥
