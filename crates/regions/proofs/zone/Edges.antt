-- Zones at the array's end and past it, computed for both parts. The edges that the paper marks (P) are in `promises`.
use Prim.Native.Nat.{ℕ}
use mathlib.Core.List.{List, [], ◌∷◌, map}
use mathlib.Core.Path.{◌≡◌, refl}
use Rattle.parts.specs.Part.{geometry_24csm01, geometry_24cs32}
use Rattle.regions.specs.Zone.{zone_of}

-- what the definition gives, and what it must give: past the array there is no zone, and 8 says so (D15)
pub zone_edges : List (ℕ × ℕ)
zone_edges =
    -- the last address of the array, and the one after it
    (zone_of geometry_24csm01 0x1FFFF, 7)
    ∷ (zone_of geometry_24csm01 0x20000, 8)
    ∷ (zone_of geometry_24cs32 0xFFF, 7)
    ∷ (zone_of geometry_24cs32 0x1000, 8)
    -- a zone further on, where the bare quotient turns to 9
    ∷ (zone_of geometry_24csm01 0x23FFF, 8)
    ∷ (zone_of geometry_24csm01 0x24000, 8)
    ∷ (zone_of geometry_24cs32 0x11FF, 8)
    ∷ (zone_of geometry_24cs32 0x1200, 8)
    -- the last number of 32 bits
    ∷ (zone_of geometry_24csm01 0xFFFFFFFF, 8)
    ∷ (zone_of geometry_24cs32 0xFFFFFFFF, 8)
    ∷ []

pub zone_edges_hold : map (λ (edge : ℕ × ℕ). edge.0) zone_edges ≡ map (λ (edge : ℕ × ℕ). edge.1) zone_edges
unfolding zone_edges
zone_edges_hold = refl
