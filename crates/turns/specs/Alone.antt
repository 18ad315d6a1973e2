-- A chip alone on the line: a bus of that chip only, with its state and its shares of the memories, where events 05 to 07 that named k
-- name it by its only number, 00 (paper, "Whose turn it is").
use Rattle.std.specs.Prelude.{ℕ, Bool, false, cond, ◌&&◌, List, [], ◌∷◌, map, leb}
use Rattle.base.specs.Word.{word_of}
use Rattle.load.specs.Load.{no_values}
use Rattle.chip.specs.declared.Chip.{Chip}
use Rattle.decode.specs.Decode.{kind_of}
use Rattle.lineup.specs.Chips.{chip_at, places_of}
use Rattle.line.specs.Line.{array_share, security_share}
use Rattle.bus.specs.declared.Bus.{Bus}
use Rattle.bus.specs.Setup.{empty_chip}
use Rattle.bus.specs.Step.{bus_with}
use Rattle.board.specs.Stores.{array_of, security_of}
use Rattle.promises.specs.Playing.{World, bus_of}
use Rattle.turns.specs.Idle.{is_loading}
use Rattle.turns.specs.Turn.{Turn}
use Rattle.turns.specs.Shuffle.{turns_of}

abbrev pub only_chips : Chip → List Chip
only_chips c = c ∷ empty_chip ∷ empty_chip ∷ empty_chip ∷ []

-- a bus of one chip, on a line that remembers a Start or none; of the values it has those of its own load
abbrev pub only_bus : Bool → Chip → List ℕ → Bus
only_bus started c values = record { count = 1; started = started; chips = only_chips c; values = cond (is_loading c) values no_values }

abbrev pub alone : ℕ → World → World
alone k world =
    let chips = (bus_of world).chips in
    (only_bus (bus_of world).started (chip_at chips k) (bus_of world).values, array_share (places_of chips) k (array_of world), security_share (places_of chips) k (security_of world))

-- the same world, whose line remembers a Start or none
abbrev pub with_start : Bool → World → World
with_start started world = let bus = bus_of world in (bus_with bus.count started bus.chips bus.values, array_of world, security_of world)

-- all of a world but a Start that is remembered, which is the line's and no chip's
abbrev pub forgetting : World → World
forgetting = with_start false

abbrev pub renamed : ℕ → ℕ
renamed word = cond (leb 5 (kind_of word) && leb (kind_of word) 7) (word_of (kind_of word) 0) word

-- a turn as its chip has it alone, and all the turns of chip k
abbrev pub own_turn : List ℕ → Turn
own_turn events = record { chip = 0; events = map renamed events }

abbrev pub own_turns : ℕ → List Turn → List Turn
own_turns k turns = map own_turn (turns_of k turns)
