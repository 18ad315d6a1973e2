-- A word that names a place on a board: the part's digit, a colon, the strap's digit. Digits are the transcript's.
use Rattle.std.specs.Prelude.{ℕ, Bool, true, cond, ◌&&◌, List, [], ◌∷◌, ◌≡◌, eqb, length, get_or, Option, Some, None}
use Rattle.board.specs.declared.Place.{Place}
use Rattle.transcript.specs.Digit.{digit_of, is_digit}

abbrev pub colon : ℕ
colon = 58

abbrev pub is_place : ℕ → ℕ → ℕ → Bool
is_place part between strap = is_digit part && eqb between colon && is_digit strap

abbrev pub place_of : ℕ → ℕ → Place
place_of part strap = record { part = digit_of part; strap = digit_of strap }

-- three bytes that are a place; a word of another form names none
abbrev pub place_named : List ℕ → Option Place
place_named word =
    cond (eqb (length word) 3 && is_place (get_or word 0 0) (get_or word 1 0) (get_or word 2 0)) (Some (place_of (get_or word 0 0) (get_or word 2 0))) None

-- the places that a word stands for
abbrev pub places_in : Option Place → List Place
places_in (Some place) = place ∷ []
places_in None = []

-- a word of the form PART:STRAP, a digit each, and the place of those digits
pub record Names (word : List ℕ) (place : Place) : Type 0 where
  pub part : ℕ
  pub strap : ℕ
  pub form : word ≡ part ∷ colon ∷ strap ∷ []
  pub first : is_digit part ≡ true
  pub second : is_digit strap ≡ true
  pub digits : place ≡ place_of part strap
