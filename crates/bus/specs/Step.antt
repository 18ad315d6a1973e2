-- A single step: checks 10, 5, 6, 7, 12, 8, and then the event on the line (paper, "Events and replies"; 12: request E2).
use Rattle.std.specs.Prelude.{ℕ, Bool, true, false, not, List, [], ◌∷◌, ◌++◌, leb, length}
use Rattle.chip.specs.declared.Chip.{Chip}
use Rattle.chip.specs.declared.event.Event.{Event}
use Rattle.chip.specs.declared.event.Event.TheVariants.{Start, Stop, Sent, Read, Wp, CycleOver, PowerUp}
use Rattle.refusal.specs.declared.Refusal.{Refusal}
use Rattle.refusal.specs.declared.Refusal.TheVariants.{NotWellFormed, WrongLength, WrongValue}
use Rattle.refusal.specs.Verdict.{Verdict, Answer}
use Rattle.std.specs.Prelude.{Ok, Err}
use Rattle.refusal.specs.Checks.{first_of}
use Rattle.board.specs.Stores.{WithStores, array_of, security_of}
use Rattle.board.specs.Shares.{wrong_length}
use Rattle.decode.specs.declared.Addressed.{Addressed}
use Rattle.decode.specs.Decode.{decode_checks, addressed_of, event_of}
use Rattle.lineup.specs.Chips.{places_of}
use Rattle.lineup.specs.Wellformed.{well_formed}
use Rattle.line.specs.Line.{line_checks, OnLine, chips_of, said_of, play_with, line_reply}
use Rattle.bus.specs.declared.Bus.{Bus}
use Rattle.bus.specs.declared.Stepped.{Stepped}

-- the state, then both stores
abbrev pub entry_checks : Bus → List ℕ → List ℕ → List (Bool × Refusal)
entry_checks bus array security =
    (not (well_formed bus.count bus.started bus.chips), NotWellFormed)
    ∷ (wrong_length bus.count (places_of bus.chips) (length array) (length security), WrongLength)
    ∷ []

-- then a chip that is named by its number alone
abbrev pub chip_checks : Bus → List ℕ → List ℕ → ℕ → List (Bool × Refusal)
chip_checks bus array security chip = entry_checks bus array security ++ ((leb bus.count chip, WrongValue) ∷ [])

-- then the event
abbrev pub event_checks : Bus → ℕ → List (Bool × Refusal)
event_checks bus word = decode_checks bus.count word ++ line_checks (addressed_of bus.started word) bus.count bus.chips

abbrev pub step_checks : Bus → List ℕ → List ℕ → ℕ → List (Bool × Refusal)
step_checks bus array security word = entry_checks bus array security ++ event_checks bus word

-- a state of its parts, and one beside the answer to the event that left it
abbrev pub bus_with : ℕ → Bool → List Chip → List ℕ → Bus
bus_with count started chips values = record { count = count; started = started; chips = chips; values = values }

abbrev pub answered : Bus → Answer → Stepped
answered bus answer = record { bus = bus; answer = answer }

-- whether a Start is remembered after an event that is done: an address byte is the first byte sent after it, no read that was done, Stop or
-- power up between (request E8)
abbrev pub remembers : Event → Bool → Bool
remembers Start started = true
remembers Stop started = false
remembers (Sent first byte) started = false
remembers (Read nack) started = false
remembers (Wp level) started = started
remembers CycleOver started = started
remembers PowerUp started = false

-- a refused step returns the state it was given, and leaves both stores
abbrev pub refused : Refusal → Bus → List ℕ → List ℕ → WithStores Stepped
refused refusal bus array security = (record { bus = bus; answer = Err refusal }, array, security)

-- what the line made of an event, and the values that it has then
abbrev pub done : Event → ℕ → Bool → OnLine × List ℕ → WithStores Stepped
done event count started (line, values) = (
  record { bus = bus_with count (remembers event started) (chips_of line) values; answer = Ok (line_reply event (said_of line)) },
  array_of line,
  security_of line,
)

unfoldable pub played : Addressed → Bus → List ℕ → List ℕ → WithStores Stepped
played addressed bus array security =
    done (event_of addressed) bus.count bus.started (play_with addressed bus.count bus.chips bus.values array security)

abbrev pub step_by : Verdict → Bus → List ℕ → List ℕ → ℕ → WithStores Stepped
step_by (Ok tt) bus array security word = played (addressed_of bus.started word) bus array security
step_by (Err refusal) bus array security word = refused refusal bus array security

-- one event of a state that is well formed, with stores of the right length
unfoldable pub event : Bus → List ℕ → List ℕ → ℕ → WithStores Stepped
event bus array security word = step_by (first_of (event_checks bus word)) bus array security word

-- one event, given what the checks at entry say
abbrev pub step_given : Verdict → Bus → List ℕ → List ℕ → ℕ → WithStores Stepped
step_given (Ok tt) bus array security word = event bus array security word
step_given (Err refusal) bus array security word = refused refusal bus array security

unfoldable pub step : Bus → List ℕ → List ℕ → ℕ → WithStores Stepped
step bus array security word = step_given (first_of (entry_checks bus array security)) bus array security word
