-- What laying a choice on a page leaves at each address: every place of the page is laid once, and no other address. Over any choice.
use Prim.Native.Nat.{ℕ, zero, suc, ◌+◌, ◌*◌, ◌<◌}
use native.Mathlib.Decide.{ℕ_discrete}
use native.Mathlib.Nat.{div-add-mod'}
use native.Mathlib.Omega.{arith}
use mathlib.Core.Bool.{Bool, true, false, cond}
use mathlib.Core.List.{List}
use mathlib.Core.Option.{Option, none, some}
use mathlib.Core.Path.{◌≡◌, ◌∙◌, refl, sym, ap, subst}
use lib.Dec.{eqb}
use lib.ListN.{length, get_or, set, length-set}
use lib.Seq.{get_or-set_same, get_or-set_other}
use borrow.Author.Tests.{eqb-true, eqb-false}
use Rattle.base.specs.Fold.{up_to}
use Rattle.base.proofs.Fold.{up_keeps, up_keeps_below}
use Rattle.parts.specs.declared.part.Geometry.{Geometry}
use Rattle.parts.specs.Part.{Sound}
use Rattle.regions.specs.Page.{page_of, place_of}
use Rattle.regions.proofs.page.Laws.{place_below, page_of_place}
use Rattle.load.specs.Choice.{Choice, byte_or, lay_byte, laid}

-- a byte is laid, or the store stays
lay_either : (P : List ℕ → Type 0) (byte : Option ℕ) (at : ℕ) (store : List ℕ) → P store → ((value : ℕ) → P (set store at value)) → P (lay_byte byte at store)
lay_either P none at store stays lays = stays
lay_either P (some value) at store stays lays = lays value

-- the bytes of the first n places laid, on the page that starts at `start`
module _ (choice : Choice) (start : ℕ) (store : List ℕ) where
  abbrev lay : ℕ → List ℕ → List ℕ
  lay place now = lay_byte (choice place) (start + place) now

  abbrev so_far : ℕ → List ℕ
  so_far n = up_to lay n store

  length_so_far : (n : ℕ) → length (so_far n) ≡ length store
  length_so_far n =
      up_keeps lay (λ (now : List ℕ). length now ≡ length store)
      (λ place now long. lay_either (λ (next : List ℕ). length next ≡ length store) (choice place) (start + place) now long (λ value. length-set now (start + place) value ∙ long))
      n
      store
      refl

  -- an address that is none of those places
  elsewhere : (n i d : ℕ) → ((place : ℕ) → place < n → i ≡ start + place → ⊥) → get_or (so_far n) i d ≡ get_or store i d
  elsewhere n i d other =
      up_keeps_below lay (λ (now : List ℕ). get_or now i d ≡ get_or store i d) n
      (λ place now below same.
      lay_either (λ (next : List ℕ). get_or next i d ≡ get_or store i d) (choice place) (start + place) now same
      (λ value. get_or-set_other now (start + place) i value d (other place below) ∙ same))
      store
      refl

  -- the address of one of them
  there : (n place d : ℕ) → place < n → start + place < length store → get_or (so_far n) (start + place) d ≡ byte_or (choice place) (get_or store (start + place) d)
  unfolding up_to
  there zero place d below inside = absurd (omega arith)
  there (suc n) place d below inside = go (ℕ_discrete place n) (λ before. there n place d before inside)
    where
      last : (byte : Option ℕ) → get_or (lay_byte byte (start + place) (so_far place)) (start + place) d ≡ byte_or byte (get_or store (start + place) d)
      last none = elsewhere place (start + place) d (λ other before same. absurd (omega arith))
      last (some value) = get_or-set_same (so_far place) (start + place) value d (omega (arith, length_so_far place))

      Holds : ℕ → Type 0
      Holds m = get_or (so_far m) (start + place) d ≡ byte_or (choice place) (get_or store (start + place) d)

      go : Dec (place ≡ n) → (place < n → Holds n) → Holds (suc n)
      go (yes here) earlier = rw (sym here) (last (choice place))
      go (no other) earlier =
          lay_either (λ (next : List ℕ). get_or next (start + place) d ≡ get_or (so_far n) (start + place) d) (choice n) (start + n) (so_far n) refl
          (λ value. get_or-set_other (so_far n) (start + n) (start + place) value d (λ same. absurd (omega (arith, same))))
          ∙ earlier (omega arith)

module _ (g : Geometry) (start : ℕ) (choice : Choice) (store : List ℕ) where
  -- the store keeps its length, and every address off the page what it has
  pub laid_length : length (laid g start choice store) ≡ length store
  unfolding laid
  laid_length = length_so_far choice start store g.page

  pub laid_elsewhere : (i d : ℕ) → ((place : ℕ) → place < g.page → i ≡ start + place → ⊥) → get_or (laid g start choice store) i d ≡ get_or store i d
  unfolding laid
  laid_elsewhere i d other = elsewhere choice start store g.page i d other

  pub laid_there : (place d : ℕ) → place < g.page → start + place < length store
      → get_or (laid g start choice store) (start + place) d ≡ byte_or (choice place) (get_or store (start + place) d)
  unfolding laid
  laid_there place d below inside = there choice start store g.page place d below inside

-- so at each address of the store there is the byte of the choice where it lies in the page and its place has one, and else what was there
pub laid_at_lem : (g : Geometry) → Sound g → (at : ℕ) (choice : Choice) (store : List ℕ) (i d : ℕ) → i < length store
    → get_or (laid g (page_of g at * g.page) choice store) i d ≡ cond (eqb (page_of g i) (page_of g at)) (byte_or (choice (place_of g i)) (get_or store i d)) (get_or store i d)
laid_at_lem g sound at choice store i d inside = go (eqb (page_of g i) (page_of g at)) refl
  where
    start : ℕ
    start = page_of g at * g.page

    go : (same : Bool) → eqb (page_of g i) (page_of g at) ≡ same
        → get_or (laid g start choice store) i d ≡ cond same (byte_or (choice (place_of g i)) (get_or store i d)) (get_or store i d)
    go true is =
        let split : start + place_of g i ≡ i = ap (λ (page : ℕ). page * g.page + place_of g i) (sym (eqb-true _ _ is)) ∙ div-add-mod' i g.page in
        subst (λ (k : ℕ). get_or (laid g start choice store) k d ≡ byte_or (choice (place_of g i)) (get_or store k d)) split
        (laid_there g start choice store (place_of g i) d (place_below g sound i) (omega (arith, split)))
    go false is =
        laid_elsewhere g start choice store i d (λ place below there. eqb-false _ _ is (ap (page_of g) there ∙ page_of_place g sound at place below))
