-- Zones, over any sound figures: no page crosses a zone, and there are eight.
use Prim.Native.Nat.{ℕ, ◌/◌, ◌<◌}
use native.Mathlib.Nat.{mul_comm, div-div-eq-div-mul, div-lt_iff_lt-mul}
use native.Mathlib.Omega.{arith}
use mathlib.Core.Path.{◌≡◌, ◌∙◌, sym, ap}
use borrow.Author.Tests.{lt-ltb}
use Rattle.parts.specs.declared.part.Geometry.{Geometry}
use Rattle.parts.specs.Part.{Sound}
use Rattle.regions.specs.Page.{page_of}
use Rattle.regions.specs.Zone.{zone_of}

module _ (g : Geometry) (sound : Sound g) where
  -- in the array the zone is the quotient
  pub zone_is_quotient : (at : ℕ) → at < g.array → zone_of g at ≡ at / g.zone
  zone_is_quotient at inside = rw (lt-ltb _ _ inside)

  pub zone_below : (at : ℕ) → at < g.array → zone_of g at < 8
  zone_below at inside = rw (lt-ltb _ _ inside) ((div-lt_iff_lt-mul sound.zone_some).1 (omega (arith, sound.zone_eight)))

  -- the quotient is one of the page
  by_page : (at : ℕ) → at / g.zone ≡ page_of g at / (g.zone / g.page)
  by_page at =
      ap (λ (n : ℕ). at / n) (sym (mul_comm g.page (g.zone / g.page) ∙ sound.zone_whole))
      ∙ sym (div-div-eq-div-mul at g.page (g.zone / g.page))

  -- no page crosses a zone
  pub page_in_zone : (at to : ℕ) → at < g.array → to < g.array → page_of g at ≡ page_of g to → zone_of g at ≡ zone_of g to
  page_in_zone at to at_inside to_inside one_page =
      zone_is_quotient at at_inside
      ∙ by_page at
      ∙ ap (λ (p : ℕ). p / (g.zone / g.page)) one_page
      ∙ sym (by_page to)
      ∙ sym (zone_is_quotient to to_inside)
