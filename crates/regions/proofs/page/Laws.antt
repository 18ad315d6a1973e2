-- Pages, over any sound figures: an address is its page and its place there, and a load goes round its page.
use Prim.Native.Nat.{ℕ, ◌+◌, ◌*◌, ◌/◌, ◌%◌, ◌<◌, ◌≤◌, ◌^◌}
use native.Mathlib.Nat.{mod-lt, mod_self, mod-eq_of_lt, div-add-mod', div-lt_iff_lt-mul, mul-add-div_right, mul-add-mod_self_right, div-eq_of_lt, mul-le-mul_right, le-div_iff_mul-le, add-mul, one-mul}
use native.Mathlib.Decide.{dec_lt}
use native.Mathlib.Omega.{arith}
use mathlib.Core.Path.{◌≡◌, ◌∙◌, sym, ap}
use borrow.Author.Tests.{lt-ltb, le-ltb}
use Rattle.parts.specs.declared.part.Geometry.{Geometry}
use Rattle.parts.specs.Part.{Sound}
use Rattle.regions.specs.Page.{page_of, place_of, next_in, next_in_page}

-- going round a region stays in it, and is the sum modulo its size
pub next_below : (size at : ℕ) → 0 < size → next_in size at < size
next_below size at some = go (dec_lt (at + 1) size)
  where
    go : Dec (at + 1 < size) → next_in size at < size
    go (yes p) = rw (lt-ltb _ _ p) p
    go (no p) = let over : size ≤ at + 1 = omega arith in rw (le-ltb _ _ over) some

pub next_is_mod : (size at : ℕ) → at < size → next_in size at ≡ (at + 1) % size
next_is_mod size at inside = go (dec_lt (at + 1) size)
  where
    go : Dec (at + 1 < size) → next_in size at ≡ (at + 1) % size
    go (yes p) = rw (lt-ltb _ _ p) (sym (mod-eq_of_lt p))
    go (no p) = let last : at + 1 ≡ size = omega arith in let over : size ≤ at + 1 = omega arith in rw (le-ltb _ _ over) (sym (ap (λ (n : ℕ). n % size) last ∙ mod_self size))

-- so whoever begins at 0 and has gone on n times is at n modulo the size
pub next_of_mod : (size n : ℕ) → 0 < size → next_in size (n % size) ≡ (n + 1) % size
next_of_mod size n some =
    next_is_mod size (n % size) (mod-lt n some)
    ∙ sym (mul-add-mod_self_right (n / size) size (n % size + 1))
    ∙ ap (λ (m : ℕ). m % size) (omega (arith, div-add-mod' n size))

module _ (g : Geometry) (sound : Sound g) (at : ℕ) where
  pub place_below : place_of g at < g.page
  place_below = mod-lt at sound.page_some

  -- a place is the index of a byte in a load of the largest page
  pub place_small : place_of g at < 256
  place_small = omega (arith, place_below, sound.page_most)

  pub next_place_below : next_in g.page (place_of g at) < g.page
  next_place_below = next_below g.page (place_of g at) sound.page_some

  -- where a region is whole pages, the page of an address in it ends in it
  pub page_inside : (size : ℕ) → size / g.page * g.page ≡ size → at < size → page_of g at * g.page + g.page ≤ size
  page_inside size whole inside =
      let below : page_of g at < size / g.page = (div-lt_iff_lt-mul sound.page_some).1 (omega (arith, whole)) in
      omega (arith, mul-le-mul_right g.page below, add-mul (page_of g at) 1 g.page, one-mul g.page, whole)

  -- the page of an address of 32 bits ends below 2 ^ 32
  pub page_ends : at < 2 ^ 32 → page_of g at * g.page + g.page ≤ 2 ^ 32
  page_ends = page_inside (2 ^ 32) sound.page_fits

  -- where an edge lies between pages, the page of an address behind it begins behind it
  pub page_behind : (edge : ℕ) → edge / g.page * g.page ≡ edge → edge ≤ at → edge ≤ page_of g at * g.page
  page_behind edge whole behind =
      let pages : edge / g.page ≤ page_of g at = (le-div_iff_mul-le sound.page_some).1 (omega (arith, whole)) in
      omega (arith, whole, mul-le-mul_right g.page pages)

  -- and a load that goes round its page stays in the region
  pub next_inside : (size : ℕ) → size / g.page * g.page ≡ size → at < size → next_in_page g at < size
  next_inside size whole inside = omega (arith, page_inside size whole inside, next_place_below)

  -- an address is in the page that it is counted from
  pub page_of_place : (place : ℕ) → place < g.page → page_of g (page_of g at * g.page + place) ≡ page_of g at
  page_of_place place below =
      mul-add-div_right sound.page_some (page_of g at) place ∙ ap (λ (n : ℕ). page_of g at + n) (div-eq_of_lt below) ∙ omega arith

  -- the next place stays in the page, and is the one after
  pub next_stays : page_of g (next_in_page g at) ≡ page_of g at
  next_stays = page_of_place (next_in g.page (place_of g at)) next_place_below

  pub next_place : place_of g (next_in_page g at) ≡ next_in g.page (place_of g at)
  next_place =
      mul-add-mod_self_right (page_of g at) g.page (next_in g.page (place_of g at)) ∙ mod-eq_of_lt next_place_below
