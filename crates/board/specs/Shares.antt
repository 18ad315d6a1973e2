-- The array store holds the arrays end to end in chip order; the security store does the same for the security registers (paper,
-- "The two memories").
use Rattle.std.specs.Prelude.{ℕ, ◌+◌, Bool, not, ◌||◌, List, eqb, sum_by}
use Rattle.base.specs.Fold.{up_to}
use Rattle.parts.specs.declared.part.Geometry.{Geometry}
use Rattle.parts.specs.Part.{geometry_of}
use Rattle.board.specs.declared.Place.{Place}
use Rattle.board.specs.declared.shares.Region.{Region}
use Rattle.board.specs.declared.shares.Region.TheVariants.{Array, Security}
use Rattle.board.specs.Place.{place_at, placed}

-- the figures of the chip at a place
abbrev pub figures_at : List Place → ℕ → Geometry
figures_at places i = geometry_of (place_at places i).part

-- the size of a chip's share of a store, by its region
abbrev pub size_in : Region → Geometry → ℕ
size_in Array g = g.array
size_in Security g = g.security

-- what the shares of these chips come to
unfoldable pub sizes_of : Region → List Place → ℕ
sizes_of region chips = sum_by (λ (place : Place). size_in region (geometry_of place.part)) chips

-- where the share starts: behind those of the chips before it
abbrev pub start_in : Region → List Place → ℕ → ℕ
start_in region places i = up_to (λ (j at : ℕ). at + size_in region (figures_at places j)) i 0

-- in the array store, and in the security store
abbrev pub array_start : List Place → ℕ → ℕ
array_start places i = start_in Array places i

abbrev pub security_start : List Place → ℕ → ℕ
security_start places i = start_in Security places i

-- sizes must match exactly: the array store, then the security store, is of the wrong length
abbrev pub wrong_length : ℕ → List Place → ℕ → ℕ → Bool
wrong_length count places array security =
    not (eqb array (array_start places (placed count))) || not (eqb security (security_start places (placed count)))
