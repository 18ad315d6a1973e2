-- Every part is sound, so every number has sound figures: each fact about figures is proved over any sound ones.
use Prim.Native.Nat.{ℕ, ◌<◌, ◌≤◌}
use native.Mathlib.Omega.{arith}
use mathlib.Core.Bool.{Bool, true, false, cond}
use mathlib.Core.List.{[], ◌∷◌, map}
use mathlib.Core.Path.{◌≡◌, refl, subst, subst⁻¹}
use lib.Dec.{eqb}
use borrow.Author.Tests.{eqb-true}
use Rattle.base.proofs.logic.Laws.{or_either}
use Rattle.parts.specs.declared.part.Geometry.{Geometry}
use Rattle.parts.specs.Part.{geometry_24csm01, geometry_24cs32, geometry_at24cm01, is_part, geometry_of, Sound}

pub sound_24csm01 : Sound geometry_24csm01
sound_24csm01 = omega arith

pub sound_24cs32 : Sound geometry_24cs32
sound_24cs32 = omega arith

pub sound_at24cm01 : Sound geometry_at24cm01
sound_at24cm01 = omega arith

either : (first third : Bool) → Sound (cond first geometry_24csm01 (cond third geometry_at24cm01 geometry_24cs32))
either true third = sound_24csm01
either false true = sound_at24cm01
either false false = sound_24cs32

pub sound_of : (part : ℕ) → Sound (geometry_of part)
unfolding geometry_of
sound_of part = either (eqb part 1) (eqb part 3)

-- what `geometry_of` returns is sound
pub sound_is : (part : ℕ) {g : Geometry} → g ≡ geometry_of part → Sound g
sound_is part is = subst⁻¹ Sound is (sound_of part)

-- parts 1 and 2 have registers and identify themselves, part 3 does neither (request E7)
pub abilities_each : map {B = Bool × Bool} (λ (part : ℕ). ((geometry_of part).registers, (geometry_of part).identifies)) (1 ∷ 2 ∷ 3 ∷ []) ≡ (true, true) ∷ (true, true) ∷ (false, false) ∷ []
unfolding geometry_of
abilities_each = refl

-- a part's number is 1, 2 or 3
pub part_most : (part : ℕ) → is_part part ≡ true → part ≤ 3
part_most part is =
    or_either (eqb part 1) _ is (λ one. omega (arith, eqb-true part 1 one)) λ others.
    or_either (eqb part 2) _ others (λ two. omega (arith, eqb-true part 2 two)) (λ three. omega (arith, eqb-true part 3 three))

-- an array has a byte
pub array_some : {g : Geometry} → Sound g → 0 < g.array
array_some sound = omega (arith, sound.zone_eight, sound.zone_some)

-- a part with registers has a byte of security register, one without has none
pub security_of_lem : {g : Geometry} → Sound g → g.registers ≡ true → 0 < g.security
security_of_lem {g} sound has = subst (λ (able : Bool). cond able 1 0 ≤ g.security) has sound.security_some

pub no_security : {g : Geometry} → Sound g → g.registers ≡ false → g.security ≡ 0
no_security {g} sound has = subst (λ (able : Bool). cond able 0 g.security ≡ 0) has sound.security_none
