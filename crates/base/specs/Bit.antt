-- One bit of a byte; past the eighth there is none set.
use Rattle.std.specs.Prelude.{ℕ, ◌/◌, ◌%◌, ◌^◌, Bool, eqb}

abbrev pub bit_of : ℕ → ℕ → Bool
bit_of byte at = eqb (byte / 2 ^ at % 2) 1
