-- Array turns only: every address byte is a 1010 byte (request E7). An address byte is the first byte sent after a Start (request E8).
use Rattle.std.specs.Prelude.{ℕ, ◌/◌, Bool, true, false, not, ◌&&◌, ◌||◌, List, [], ◌∷◌, eqb, length}
use Rattle.base.specs.Word.{word_of}
use Rattle.board.specs.declared.Place.{Place}
use Rattle.decode.specs.Decode.{value_of}
use Rattle.turns.specs.Turn.{Turn, is_start, is_stop, is_sent, is_turn}

abbrev pub is_power_up : ℕ → Bool
is_power_up word = eqb word (word_of 8 0)

-- 1010, three bits, and either read bit
abbrev pub is_array_byte : ℕ → Bool
is_array_byte byte = eqb (byte / 16) 0b1010

-- a byte sent next may be an address byte: a Start has come, and since then no byte, Stop or power up
abbrev pub may_be_first : Bool → ℕ → Bool
may_be_first first word = is_start word || (first && not (is_sent word || (is_stop word || is_power_up word)))

-- whatever else is among the events, WP levels, ends of cycles, power up and refused events too
unfoldable pub only_array : Bool → List ℕ → Bool
only_array first [] = true
only_array first (word ∷ more) = (not (first && is_sent word) || is_array_byte (value_of word)) && only_array (may_be_first first word) more

-- a turn of that kind
abbrev pub is_array_turn : ℕ → List Place → Turn → Bool
is_array_turn count places turn = is_turn count places turn && only_array false turn.events

-- a power up by itself, which is no turn
abbrev pub is_one_power_up : List ℕ → Bool
is_one_power_up [] = false
is_one_power_up (word ∷ more) = is_power_up word && eqb (length more) 0

-- a list of array turns; single events 05 to 07 are turns too, and a power up may stand in place of a turn, whatever its label
unfoldable pub are_array_turns : ℕ → List Place → List Turn → Bool
are_array_turns count places [] = true
are_array_turns count places (turn ∷ rest) = (is_array_turn count places turn || is_one_power_up turn.events) && are_array_turns count places rest

-- the turns of one chip, by their events
unfoldable pub all_only_array : List (List ℕ) → Bool
all_only_array [] = true
all_only_array (events ∷ rest) = only_array false events && all_only_array rest
