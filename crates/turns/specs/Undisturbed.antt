-- Demand 3: turns of different chips may be shuffled.
use Rattle.std.specs.Prelude.{ℕ, ◌+◌, ◌<◌, Bool, true, false, cond, not, ◌&&◌, List, ◌≡◌, take}
use Rattle.base.specs.Fold.{any_below}
use Rattle.base.specs.Word.{word_of}
use Rattle.parts.specs.Part.{geometry_of}
use Rattle.control.specs.declared.Control.{Control}
use Rattle.control.specs.Phase.{is_busy}
use Rattle.std.specs.Prelude.{Ok}
use Rattle.refusal.specs.Checks.{first_of}
use Rattle.board.specs.Place.{placed}
use Rattle.board.specs.Stores.{array_of, security_of}
use Rattle.lineup.specs.Chips.{control_at, places_of}
use Rattle.bus.specs.declared.Bus.{Bus}
use Rattle.bus.specs.Step.{entry_checks}
use Rattle.bus.proofs.Typed.{OfItsType}
use Rattle.promises.specs.Playing.{World, bus_of, Bench, after, answers_to}
use Rattle.turns.specs.Idle.{is_idle}
use Rattle.turns.specs.Seen.{seen}
use Rattle.turns.specs.Turn.{Turn}
use Rattle.turns.specs.Shuffle.{are_turns, events_of, Shuffle, turn_of, began_at, answer_of, is_excepted}
use Rattle.turns.specs.Alone.{alone, forgetting, own_turns}
use Rattle.turns.specs.Playing.{Ending, ending}

-- turns may begin: the bus is well formed and idle, and its stores are of the right length
pub record Ready (world : World) : Type 0 where
  pub enters : first_of (entry_checks (bus_of world) (array_of world) (security_of world)) ≡ Ok tt
  pub idle : is_idle (bus_of world) ≡ true

-- a list of turns of its chips
abbrev pub Turns : World → List Turn → Type 0
Turns world turns = are_turns (bus_of world).count (places_of (bus_of world).chips) turns ≡ true

-- memories, registers, counters, busy marks and WP levels end the same (the whole state does, but for values that nothing shows), and the j-th
-- turn of a chip in one list gets the answers of its j-th turn in the other
pub record Alike (turns others : List Turn) (one other : Ending) : Type 0 where
  pub ends : seen one.0 ≡ seen other.0
  pub answers : (k j i : ℕ) → is_excepted (turn_of k turns j) i ≡ false → answer_of k turns one.1 j i ≡ answer_of k others other.1 j i

-- chip k ends as it does by itself, and its turns get the answers that it gives alone on the line. Not compared is a Start that is remembered at the
-- end (request E8): it is the line's, and the others' exchanges make it forget one
pub record AsAlone (k : ℕ) (turns : List Turn) (one by_itself_holds : Ending) : Type 0 where
  pub ends : forgetting (alone k one.0) ≡ forgetting (seen by_itself_holds.0)
  pub answers : (j i : ℕ) → is_excepted (turn_of k turns j) i ≡ false → answer_of k turns one.1 j i ≡ answer_of 0 (own_turns k turns) by_itself_holds.1 j i

-- a chip that identifies itself, one of part 1 or 2 (request E7), and is not busy
abbrev pub is_free : Control → Bool
is_free c = (geometry_of c.part).identifies && not (is_busy c.phase)

abbrev pub is_some_free : Bus → Bool
is_some_free bus = any_below (λ (i : ℕ). is_free (control_at bus.chips i)) (placed bus.count)

-- the acknowledge of F8h, by the bus that it meets: 01 exactly when some chip of part 1 or 2 is not busy
abbrev pub acknowledge : Bus → ℕ
acknowledge bus = word_of 0 (cond (is_some_free bus) 0x01 0x00)

-- demand 3 of a bench, over what it makes of single events; the bus is a value of its type, as the checker has it (no
-- definition of ours says that)
pub record Undisturbed (bench : Bench) : Type 0 where
  pub shuffled : (world : World) (turns others : List Turn) → OfItsType (bus_of world) → Ready world → Turns world turns → Shuffle turns others
      → Alike turns others (ending bench world turns) (ending bench world others)
  pub by_itself : (world : World) (turns : List Turn) → OfItsType (bus_of world) → Ready world → Turns world turns
      → (k : ℕ) → k < (bus_of world).count
      → AsAlone k turns (ending bench world turns) (ending bench (alone k world) (own_turns k turns))
  -- and the excepted answer
  pub excepted : (world : World) (turns : List Turn) → OfItsType (bus_of world) → Ready world → Turns world turns
      → (k j i : ℕ) → is_excepted (turn_of k turns j) i ≡ true
      → answer_of k turns (answers_to bench world (events_of turns)) j i ≡ acknowledge (bus_of (after bench world (take (began_at k turns j + i) (events_of turns))))
