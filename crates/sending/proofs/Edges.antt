-- The places of the ID and what is read there, computed: from the last place to the first, and past it.
use Prim.Native.Nat.{ℕ}
use mathlib.Core.List.{List, [], ◌∷◌, map}
use mathlib.Core.Path.{◌≡◌, refl}
use Rattle.parts.specs.Part.{geometry_24csm01, geometry_24cs32}
use Rattle.sending.specs.Sending.{id_byte, next_id_place}

-- what the definition gives, and what it must give
pub id_edges : List (ℕ × ℕ)
id_edges =
    -- after the third ID byte the first (request E5)
    (next_id_place 0, 1)
    ∷ (next_id_place 1, 2)
    ∷ (next_id_place 2, 0)
    -- past the last place, where no bus lets a chip be: the first again, and FFh there (D55)
    ∷ (next_id_place 3, 0)
    ∷ (next_id_place 255, 0)
    ∷ (id_byte geometry_24csm01 2, 0xD0)
    ∷ (id_byte geometry_24csm01 3, 0xFF)
    ∷ (id_byte geometry_24cs32 2, 0xA8)
    ∷ (id_byte geometry_24cs32 3, 0xFF)
    ∷ (id_byte geometry_24cs32 255, 0xFF)
    ∷ []

pub id_edges_hold : map (λ (edge : ℕ × ℕ). edge.0) id_edges ≡ map (λ (edge : ℕ × ℕ). edge.1) id_edges
unfolding id_edges
id_edges_hold = refl
