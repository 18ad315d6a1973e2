-- What set-up asks of a board, in its order: refusals 1 to 4 (paper, "Events and replies").
use Rattle.std.specs.Prelude.{ℕ, Bool, not, ◌&&◌, List, [], ◌∷◌, ltb, leb, take}
use Rattle.std.specs.List.{list_any, enumerate_from}
use Rattle.base.specs.Fold.{any_below, any_pair}
use Rattle.parts.specs.Part.{is_part, geometry_of}
use Rattle.parts.specs.Address.{share_address}
use Rattle.refusal.specs.declared.Refusal.{Refusal}
use Rattle.refusal.specs.declared.Refusal.TheVariants.{WrongCount, UnknownPart, StrapOutside, SharedAddress}
use Rattle.refusal.specs.Verdict.{Verdict}
use Rattle.refusal.specs.Checks.{first_of}
use Rattle.board.specs.declared.Place.{Place}
use Rattle.board.specs.Place.{place_at, placed}

-- no chips, or more than four
abbrev pub wrong_count : ℕ → Bool
wrong_count count = not (leb 1 count && leb count 4)

-- a part other than 1, 2 or 3
abbrev pub is_unknown : Place → Bool
is_unknown place = not (is_part place.part)

abbrev pub unknown_part : List Place → ℕ → Bool
unknown_part places i = is_unknown (place_at places i)

-- a strap outside its part's range
abbrev pub is_outside : Place → Bool
is_outside place = not (ltb place.strap (geometry_of place.part).straps)

abbrev pub strap_outside : List Place → ℕ → Bool
strap_outside places i = is_outside (place_at places i)

-- two chips match one address byte
abbrev pub match_alike : Place → Place → Bool
match_alike place other = share_address (geometry_of place.part) place.strap (geometry_of other.part) other.strap

unfoldable pub some_alike : List Place → Bool
some_alike chips = list_any (λ (p : ℕ × Place). list_any (match_alike p.1) (take p.0 chips)) (enumerate_from 0 chips)

abbrev pub shared_address : List Place → ℕ → ℕ → Bool
shared_address places i j = match_alike (place_at places i) (place_at places j)

abbrev pub board_checks : ℕ → List Place → List (Bool × Refusal)
board_checks count places =
    (wrong_count count, WrongCount)
    ∷ (any_below (unknown_part places) (placed count), UnknownPart)
    ∷ (any_below (strap_outside places) (placed count), StrapOutside)
    ∷ (any_pair (shared_address places) (placed count), SharedAddress)
    ∷ []

unfoldable pub board_verdict : ℕ → List Place → Verdict
board_verdict count places = first_of (board_checks count places)
