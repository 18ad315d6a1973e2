-- What is a turn and what is none, on both sides of each edge of the definition: on the board of mixed parts chip 0 is a 24CSM01 at strap 1,
-- chip 1 a 24CS32 at strap 0, chip 2 a 24CS32 at strap 5.
use mathlib.Core.Bool.{Bool, true, false}
use mathlib.Core.List.{List, [], ◌∷◌, map}
use mathlib.Core.Path.{◌≡◌, refl}
use Rattle.lineup.specs.Chips.{places_of}
use Rattle.turns.specs.Turn.{Turn, is_turn}
use Rattle.turns.proofs.Computing.{event_by_event}
use Rattle.turns.proofs.Examples.{mixed, of}

abbrev tested : List Turn → List Bool
tested = map (is_turn mixed.count (places_of mixed.chips))

pub accepted : List Turn
accepted =
    -- one event that names the chip
    of 2 (0x0502 ∷ []) ∷ of 0 (0x0600 ∷ []) ∷ of 1 (0x0701 ∷ [])
    -- 1010 and 1011, either A16, either read bit
    ∷ of 0 (0x0100 ∷ 0x03A4 ∷ 0x0200 ∷ []) ∷ of 0 (0x0100 ∷ 0x03A7 ∷ 0x0401 ∷ 0x0200 ∷ [])
    ∷ of 0 (0x0100 ∷ 0x03B5 ∷ 0x0401 ∷ 0x0200 ∷ []) ∷ of 0 (0x0100 ∷ 0x03B6 ∷ 0x0388 ∷ 0x0300 ∷ 0x0200 ∷ [])
    -- 08h to 0Fh, and F9h, which could be anybody's
    ∷ of 1 (0x0100 ∷ 0x0308 ∷ 0x0200 ∷ []) ∷ of 1 (0x0100 ∷ 0x030F ∷ 0x0200 ∷ [])
    ∷ of 0 (0x0100 ∷ 0x03F9 ∷ 0x0200 ∷ []) ∷ of 2 (0x0100 ∷ 0x03F9 ∷ 0x0200 ∷ [])
    -- F8h and its address byte, either read bit; another Start
    ∷ of 0 (0x0100 ∷ 0x03F8 ∷ 0x03A4 ∷ 0x0200 ∷ []) ∷ of 0 (0x0100 ∷ 0x03F8 ∷ 0x03A5 ∷ 0x0100 ∷ 0x03F9 ∷ 0x0401 ∷ 0x0200 ∷ [])
    -- events that name the chip, F8h as data, both replies to a byte read
    ∷ of 1 (0x0100 ∷ 0x03A0 ∷ 0x0300 ∷ 0x0300 ∷ 0x0501 ∷ 0x0601 ∷ 0x03F8 ∷ 0x0701 ∷ 0x0200 ∷ [])
    ∷ of 1 (0x0100 ∷ 0x03A0 ∷ 0x0300 ∷ 0x0300 ∷ 0x0100 ∷ 0x03A1 ∷ 0x0400 ∷ 0x0401 ∷ 0x0200 ∷ [])
    ∷ []

pub rejected : List Turn
rejected =
    -- nothing, half of a run, two Stops, something behind the Stop, two events that name the chip
    of 0 [] ∷ of 0 (0x0100 ∷ 0x03A4 ∷ []) ∷ of 0 (0x0200 ∷ []) ∷ of 0 (0x0100 ∷ 0x03A4 ∷ 0x0200 ∷ 0x0200 ∷ [])
    ∷ of 0 (0x0100 ∷ 0x03A4 ∷ 0x0200 ∷ 0x0300 ∷ []) ∷ of 0 (0x0600 ∷ 0x0500 ∷ [])
    -- a Start with no byte at once
    ∷ of 0 (0x0100 ∷ 0x0200 ∷ []) ∷ of 0 (0x0100 ∷ 0x0600 ∷ 0x03A4 ∷ 0x0200 ∷ []) ∷ of 0 (0x0100 ∷ 0x03A4 ∷ 0x0100 ∷ 0x0200 ∷ [])
    -- another chip's address byte, and bytes beside 08h to 0Fh and F8h
    ∷ of 0 (0x0100 ∷ 0x03A0 ∷ 0x0200 ∷ []) ∷ of 0 (0x0100 ∷ 0x03B0 ∷ 0x0200 ∷ []) ∷ of 1 (0x0100 ∷ 0x03A2 ∷ 0x0200 ∷ [])
    ∷ of 0 (0x0100 ∷ 0x0307 ∷ 0x0200 ∷ []) ∷ of 0 (0x0100 ∷ 0x0310 ∷ 0x0200 ∷ []) ∷ of 0 (0x0100 ∷ 0x03F7 ∷ 0x0200 ∷ [])
    -- F8h and then no 1010 address byte of the chip at once
    ∷ of 0 (0x0100 ∷ 0x03F8 ∷ 0x0200 ∷ []) ∷ of 0 (0x0100 ∷ 0x03F8 ∷ 0x03B4 ∷ 0x0200 ∷ []) ∷ of 0 (0x0100 ∷ 0x03F8 ∷ 0x03A0 ∷ 0x0200 ∷ [])
    ∷ of 0 (0x0100 ∷ 0x03F8 ∷ 0x0700 ∷ 0x03A4 ∷ 0x0200 ∷ [])
    -- an event that names another chip, or power up
    ∷ of 0 (0x0701 ∷ []) ∷ of 0 (0x0100 ∷ 0x03A4 ∷ 0x0701 ∷ 0x0200 ∷ []) ∷ of 0 (0x0800 ∷ []) ∷ of 0 (0x0100 ∷ 0x03A4 ∷ 0x0800 ∷ 0x0200 ∷ [])
    -- values that are not allowed, and a chip that is not there
    ∷ of 0 (0x0101 ∷ 0x03A4 ∷ 0x0200 ∷ []) ∷ of 0 (0x0100 ∷ 0x03A4 ∷ 0x0402 ∷ 0x0200 ∷ []) ∷ of 0 (0x0100 ∷ 0x03A4 ∷ 0x0201 ∷ []) ∷ of 3 (0x0703 ∷ [])
    ∷ []

pub turns_on_both_sides : (tested accepted ≡ map (λ turn. true) accepted) × (tested rejected ≡ map (λ turn. false) rejected)
unfolding accepted rejected event_by_event
turns_on_both_sides = (refl, refl)
