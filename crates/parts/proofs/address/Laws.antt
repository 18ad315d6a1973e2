-- Two chips match one address byte exactly when some code is answered by both: a chip answers a run of codes, and two runs
-- overlap exactly when the later of their first codes lies in both.
use Prim.Native.Nat.{ℕ, ◌+◌, ◌/◌, ◌<◌, ◌≤◌, ◌^◌}
use native.Mathlib.Nat.{div-eq_of_lt-le, div-mul-le_self, lt-div-mul-add, le-div_iff_mul-le, div-le_self, mul-le-mul_left, mul-le-mul_right, mul_comm, add-mul, one-mul}
use native.Mathlib.Decide.{dec_le}
use native.Mathlib.Omega.{arith}
use mathlib.Core.Bool.{true}
use mathlib.Core.Logic.{◌↔◌}
use mathlib.Core.Path.{◌≡◌, refl}
use lib.Dec.{ltb}
use borrow.Author.Tests.{lt-ltb, ltb-true, eq-eqb, eqb-true}
use Rattle.base.proofs.logic.Laws.{and_left, and_right, and_both}
use Rattle.parts.specs.declared.part.Geometry.{Geometry}
use Rattle.parts.specs.Part.{geometry_24csm01, geometry_24cs32, geometry_at24cm01, geometry_of, Sound}
use Rattle.parts.proofs.part.Laws.{sound_of}
use Rattle.parts.specs.Address.{codes_of, answers, first_code, share_address}

module _ (g : Geometry) (sound : Sound g) where
  pub codes_some : 0 < codes_of g
  codes_some = (le-div_iff_mul-le sound.straps_some).1 (omega arith)

  -- a chip's codes fit 16 bits whatever its strap
  pub codes_end : (strap : ℕ) → strap < 256 → first_code g strap + codes_of g < 2 ^ 16
  codes_end strap byte =
      let few : codes_of g ≤ 8 = div-le_self 8 g.straps in
      omega (arith, mul-le-mul_left strap few)

  -- the codes that a chip answers are a run: from its first, as many as its part has
  in_run : (strap code : ℕ) → answers g strap code ≡ true → (first_code g strap ≤ code) × (code < first_code g strap + codes_of g)
  in_run strap code yes_code =
      let is : code / codes_of g ≡ strap = eqb-true _ _ yes_code in
      rw (← is) (div-mul-le_self code (codes_of g), lt-div-mul-add codes_some)

  run_in : (strap code : ℕ) → first_code g strap ≤ code → code < first_code g strap + codes_of g → answers g strap code ≡ true
  run_in strap code from to =
      eq-eqb _ _ (div-eq_of_lt-le {k = strap} (codes_of g) {m = code} from (omega (arith, add-mul strap 1 (codes_of g), one-mul (codes_of g))))

  pub answers_exactly_when : (strap code : ℕ) → (answers g strap code ≡ true) ↔ ((first_code g strap ≤ code) × (code < first_code g strap + codes_of g))
  answers_exactly_when strap code = (in_run strap code, λ run. run_in strap code run.0 run.1)

  -- a strap in its part's range answers codes of three bits alone
  pub answers_below : (strap code : ℕ) → strap < g.straps → answers g strap code ≡ true → code < 8
  answers_below strap code in_range yes_code =
      let run : (first_code g strap ≤ code) × (code < first_code g strap + codes_of g) = in_run strap code yes_code in
      omega (
        arith,
        mul-le-mul_right (codes_of g) in_range,
        add-mul strap 1 (codes_of g),
        one-mul (codes_of g),
        mul_comm g.straps (codes_of g),
        div-mul-le_self 8 g.straps,
      )

-- the 24CSM01 and the AT24CM01 at strap s answer 2s and 2s + 1, the 24CS32 at strap t answers t
pub codes_each : (codes_of geometry_24csm01 ≡ 2) × (codes_of geometry_24cs32 ≡ 1) × (codes_of geometry_at24cm01 ≡ 2)
codes_each = (refl, refl, refl)

abbrev pub Both : Geometry → ℕ → Geometry → ℕ → ℕ → Type 0
Both g strap h beside code = (answers g strap code ≡ true) × (answers h beside code ≡ true)

module _ (g : Geometry) (strap : ℕ) (h : Geometry) (beside : ℕ) (sound_g : Sound g) (sound_h : Sound h) where
  found : Dec (first_code g strap ≤ first_code h beside) → first_code g strap < first_code h beside + codes_of h → first_code h beside < first_code g strap + codes_of g → (code : ℕ) × Both g strap h beside code
  found (yes before) one two =
      (first_code h beside, (run_in g sound_g strap _ before two, run_in h sound_h beside _ (omega arith) (omega (arith, codes_some h sound_h))))
  found (no behind) one two =
      (first_code g strap, (run_in g sound_g strap _ (omega arith) (omega (arith, codes_some g sound_g)), run_in h sound_h beside _ (omega arith) one))

  pub share_exactly_when : (share_address g strap h beside ≡ true) ↔ ((code : ℕ) × Both g strap h beside code)
  share_exactly_when = (
    λ shared. found (dec_le _ _) (ltb-true _ _ (and_left _ (ltb (first_code h beside) _) shared)) (ltb-true _ _ (and_right (ltb (first_code g strap) _) _ shared)),
    λ both.
        let (code, (one, two)) = both in
        let run : (first_code g strap ≤ code) × (code < first_code g strap + codes_of g) = in_run g sound_g strap code one in
        let other : (first_code h beside ≤ code) × (code < first_code h beside + codes_of h) = in_run h sound_h beside code two in
        let before : first_code g strap < first_code h beside + codes_of h = omega arith in
        let behind : first_code h beside < first_code g strap + codes_of g = omega arith in
        and_both _ _ (lt-ltb _ _ before) (lt-ltb _ _ behind),
  )

-- every number's part shares its codes out over some straps, so that a chip answers some
pub straps_of_part : (part : ℕ) → 0 < (geometry_of part).straps
straps_of_part part = (sound_of part).straps_some

pub codes_of_part : (part : ℕ) → 0 < codes_of (geometry_of part)
codes_of_part part = codes_some (geometry_of part) (sound_of part)

pub ruleset of_codes = (straps_of_part, codes_of_part)
