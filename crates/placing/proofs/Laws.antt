-- Which words name a place, and which place: a digit, a colon, a digit, and the place of those digits. Every other word names none.
-- Each of the tests that a word passes shows a part of that form, and a word of that form passes them all.
use Prim.Native.Nat.{ℕ}
use native.Mathlib.Omega.{arith}
use mathlib.Core.Bool.{Bool, true, false, cond, ◌&&◌}
use mathlib.Core.List.{List, [], ◌∷◌}
use mathlib.Core.Logic.{◌↔◌}
use mathlib.Core.Path.{◌≡◌, refl}
use lib.Dec.{eqb}
use lib.ListN.{length, get_or}
use borrow.Author.Tests.{eqb-true}
use Rattle.base.proofs.logic.Laws.{and_left, and_right}
use Rattle.board.specs.declared.Place.{Place}
use Rattle.transcript.specs.Digit.{is_digit}
use Rattle.std.specs.Prelude.{Some, None}
use Rattle.placing.specs.Placing.{colon, is_place, place_of, place_named, places_in, Names}

abbrev passes : List ℕ → Bool
passes word = eqb (length word) 3 && is_place (get_or word 0 0) (get_or word 1 0) (get_or word 2 0)

abbrev named : List ℕ → Place
named word = place_of (get_or word 0 0) (get_or word 2 0)

names : (word : List ℕ) → passes word ≡ true → Names word (named word)
names word is = go word (eqb-true (length word) 3 (and_left _ _ is)) (and_right (eqb (length word) 3) _ is)
  where
    go : (word : List ℕ) → length word ≡ 3 → is_place (get_or word 0 0) (get_or word 1 0) (get_or word 2 0) ≡ true → Names word (named word)
    go [] long is = absurd (omega arith)
    go (a ∷ []) long is = absurd (omega arith)
    go (a ∷ b ∷ []) long is = absurd (omega arith)
    go (a ∷ b ∷ c ∷ []) long is =
        let before = and_left (is_digit a && eqb b colon) _ is in
        record {
          part = a;
          strap = c;
          form = rw (eqb-true b colon (and_right (is_digit a) _ before));
          first = and_left (is_digit a) _ before;
          second = and_right (is_digit a && eqb b colon) _ is;
          digits = refl;
        }
    go (a ∷ b ∷ c ∷ d ∷ more) long is = absurd (omega arith)

is_named_lem : (word : List ℕ) (place : Place) → Names word place → places_in (place_named word) ≡ place ∷ []
is_named_lem word place n = rw (n.form, n.first, n.second, n.digits)

pub named_exactly_when : (word : List ℕ) (place : Place) → (places_in (place_named word) ≡ place ∷ []) ↔ Names word place
named_exactly_when word place = (go (passes word) refl, is_named_lem word place)
  where
    go : (test : Bool) → passes word ≡ test → places_in (cond test (Some (named word)) None) ≡ place ∷ [] → Names word place
    go true is same = let this : named word ≡ place = cc in rw this at (names word is)
    go false is same = let no : ◌≡◌ {A = ℕ} 0 1 = cc in absurd (omega arith)

pub none_exactly_when : (word : List ℕ) → (places_in (place_named word) ≡ []) ↔ ((place : Place) → Names word place → ⊥)
none_exactly_when word = (some, go (passes word) refl)
  where
    some : places_in (place_named word) ≡ [] → (place : Place) → Names word place → ⊥
    some none place n = let one = is_named_lem word place n in let no : ◌≡◌ {A = ℕ} 0 1 = cc in omega arith

    go : (test : Bool) → passes word ≡ test → ((place : Place) → Names word place → ⊥) → places_in (cond test (Some (named word)) None) ≡ []
    go true is without = absurd (without (named word) (names word is))
    go false is without = refl
