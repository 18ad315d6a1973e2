-- A turn of chip k: a single event 05, 06 or 07 naming k, or a run that begins with 01, ends with its only 02, and between holds only 01,
-- 03, 04 and events 05 to 07 naming k, each with a value allowed for its kind. Each Start in it is followed at once by a host byte: a 1010 or
-- 1011 address byte of k, 08h to 0Fh, F9h, or F8h followed at once by a 1010 address byte of k (paper, "Whose turn it is").
use Rattle.std.specs.Prelude.{ℕ, ◌/◌, ◌%◌, Bool, false, cond, ◌&&◌, ◌||◌, List, [], ◌∷◌, eqb, ltb, leb, length}
use Rattle.base.specs.Word.{word_of}
use Rattle.parts.specs.Part.{geometry_of}
use Rattle.parts.specs.Address.{answers}
use Rattle.board.specs.declared.Place.{Place}
use Rattle.board.specs.Place.{place_at}
use Rattle.decode.specs.Decode.{kind_of, value_of}

-- whose it is, and its events: the label belongs to the turn, since 0100 03F9 0200 could be anybody's
pub record Turn : Type 0 where
  pub chip : ℕ
  pub events : List ℕ

abbrev pub is_start : ℕ → Bool
is_start word = eqb word (word_of 1 0)

abbrev pub is_stop : ℕ → Bool
is_stop word = eqb word (word_of 2 0)

abbrev pub is_sent : ℕ → Bool
is_sent word = eqb (kind_of word) 3

-- the byte F8h
abbrev pub is_f8 : ℕ → Bool
is_f8 word = eqb word (word_of 3 0xF8)

abbrev pub is_read : ℕ → Bool
is_read word = eqb (kind_of word) 4 && leb (value_of word) 1

-- 05, 06 or 07 naming k
abbrev pub is_naming : ℕ → ℕ → Bool
is_naming k word = (leb 5 (kind_of word) && leb (kind_of word) 7) && eqb (value_of word) k

-- an address byte that opens with 1010 or 1011, of the chip at a place; the read bit may be either
abbrev pub is_address_of : ℕ → Place → ℕ → Bool
is_address_of opening place byte = eqb (byte / 16) opening && answers (geometry_of place.part) place.strap (byte / 2 % 8)

-- what follows a Start, but for F8h: a 1010 or 1011 address byte of the chip, 08h to 0Fh, or F9h
abbrev pub is_first_byte : Place → ℕ → Bool
is_first_byte place byte =
    (is_address_of 0b1010 place byte || is_address_of 0b1011 place byte) || ((leb 0x08 byte && leb byte 0x0F) || eqb byte 0xF9)

-- what must come next: anything, the byte that follows a Start at once, or the one that follows its F8h at once
pub data Next : Type 0 where
  Anything AddressByte ChoiceByte : Next

-- the rest of a run, up to its only Stop
unfoldable pub is_rest_of_turn : Place → ℕ → Next → List ℕ → Bool
is_rest_of_turn place k next [] = false
is_rest_of_turn place k Anything (word ∷ more) =
    cond (is_stop word) (eqb (length more) 0)
    (cond (is_start word) (is_rest_of_turn place k AddressByte more)
    ((is_sent word || (is_read word || is_naming k word)) && is_rest_of_turn place k Anything more))
is_rest_of_turn place k AddressByte (word ∷ more) =
    cond (is_f8 word) (is_rest_of_turn place k ChoiceByte more)
    (is_sent word && (is_first_byte place (value_of word) && is_rest_of_turn place k Anything more))
is_rest_of_turn place k ChoiceByte (word ∷ more) = is_sent word && (is_address_of 0b1010 place (value_of word) && is_rest_of_turn place k Anything more)

unfoldable pub is_turn_at : Place → ℕ → List ℕ → Bool
is_turn_at place k [] = false
is_turn_at place k (word ∷ more) = cond (is_start word) (is_rest_of_turn place k AddressByte more) (is_naming k word && eqb (length more) 0)

-- a turn of a chip that is on the board
abbrev pub is_turn : ℕ → List Place → Turn → Bool
is_turn count places turn = ltb turn.chip count && is_turn_at (place_at places turn.chip) turn.chip turn.events
