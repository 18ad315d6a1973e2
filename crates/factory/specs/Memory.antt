-- Arrays and security registers are FFh (paper, "The transcript").
use Rattle.std.specs.Prelude.{ℕ, ◌*◌, List, replicate}
use Rattle.parts.specs.Part.{geometry_24csm01}

abbrev pub erased : ℕ → List ℕ
erased size = replicate size 255

-- four arrays, and four security registers, of the largest part
abbrev pub arrays_size : ℕ
arrays_size = 4 * geometry_24csm01.array

abbrev pub registers_size : ℕ
registers_size = 4 * geometry_24csm01.security
