-- Boards with an AT24CM01 (request E7), computed: both sides of each of set-up's checks that it meets, and the two stores that such boards need.
use Prim.Native.Nat.{ℕ}
use mathlib.Core.List.{List, [], ◌∷◌, map, ◌++◌}
use mathlib.Core.Path.{◌≡◌, refl}
use lib.ListN.{replicate}
use Rattle.base.specs.Fold.{up_to}
use Rattle.parts.specs.Part.{geometry_of}
use Rattle.refusal.specs.Refusal.{status_of}
use Rattle.board.specs.declared.Place.{Place}
use Rattle.board.specs.Place.{nowhere}
use Rattle.board.specs.Shares.{array_start, security_start}
use Rattle.bus.specs.Setup.{set_up}

-- the parts by their numbers: 24CSM01, 24CS32, AT24CM01, and a number that is none
abbrev place : ℕ → ℕ → Place
place part strap = record { part = part; strap = strap }

abbrev two : Place → Place → List Place
two one other = one ∷ other ∷ nowhere ∷ nowhere ∷ []

-- what set-up answers, with stores of these lengths
abbrev set_up_with : ℕ → ℕ → Place → Place → ℕ
set_up_with array security one other = status_of (set_up 2 (two one other) (replicate array 0xFF) (replicate security 0xFF)).verdict

-- 3:0 beside 1:0 is 4, beside 1:1 accepted; beside a 24CS32 at straps 0 and 1 it is 4, at strap 2 accepted; strap 3 is the last, and part 4 is none.
-- A board 3:0 2:4 needs 135,168 and 64 bytes
pub set_up_on_both_sides :
    set_up_with 262144 512 (place 3 0) (place 1 0)
    ∷ set_up_with 262144 512 (place 3 0) (place 1 1)
    ∷ set_up_with 135168 64 (place 3 0) (place 2 0)
    ∷ set_up_with 135168 64 (place 3 0) (place 2 1)
    ∷ set_up_with 135168 64 (place 3 0) (place 2 2)
    ∷ set_up_with 262144 0 (place 3 3) (place 3 2)
    ∷ set_up_with 262144 0 (place 3 3) (place 3 3)
    ∷ set_up_with 135168 64 (place 3 4) (place 2 4)
    ∷ set_up_with 135168 64 (place 4 0) (place 2 4)
    ∷ set_up_with 135168 64 (place 3 0) (place 2 4)
    ∷ set_up_with 135167 64 (place 3 0) (place 2 4)
    ∷ set_up_with 135168 63 (place 3 0) (place 2 4)
    ∷ set_up_with 135168 576 (place 3 0) (place 2 4)
    ∷ []
    ≡ 4 ∷ 0 ∷ 4 ∷ 4 ∷ 0 ∷ 0 ∷ 4 ∷ 3 ∷ 2 ∷ 0 ∷ 5 ∷ 5 ∷ 5 ∷ []
unfolding set_up up_to geometry_of
set_up_on_both_sides = refl

-- where the shares of 2:0 3:1 1:2 begin, and where the last of them ends: that of the AT24CM01 in the security store has no bytes
abbrev between : List Place
between = place 2 0 ∷ place 3 1 ∷ place 1 2 ∷ nowhere ∷ []

pub shares_between_two_others :
    map (array_start between) (0 ∷ 1 ∷ 2 ∷ 3 ∷ []) ++ map (security_start between) (0 ∷ 1 ∷ 2 ∷ 3 ∷ [])
    ≡ (0 ∷ 4096 ∷ 135168 ∷ 266240 ∷ []) ++ (0 ∷ 64 ∷ 64 ∷ 576 ∷ [])
unfolding up_to geometry_of
shares_between_two_others = refl
