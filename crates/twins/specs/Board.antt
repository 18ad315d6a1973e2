-- An AT24CM01 among other chips, and a 24CSM01 by itself (request E7, with demand 3).
use Rattle.std.specs.Prelude.{ℕ, List, ◌≡◌}
use Rattle.board.specs.Stores.{array_of}
use Rattle.lineup.specs.Chips.{chip_at, places_of}
use Rattle.line.specs.Line.{array_share}
use Rattle.bus.specs.Step.{step}
use Rattle.promises.specs.Playing.{World, bus_of, after, answers_to}
use Rattle.turns.specs.Turn.{Turn}
use Rattle.turns.specs.Shuffle.{events_of, answer_of}
use Rattle.turns.specs.Alone.{own_turns}
use Rattle.twins.specs.Twins.{Twins, only_chip}

-- on a board that plays a list of turns, and a line of a 24CSM01 that plays those of chip k: every event of every turn of k gets the same answer, and at
-- the end the chips are twins with the same array
pub record AsTwinAlone (k : ℕ) (world : World) (turns : List Turn) (new : World) : Type 0 where
  pub answers : (j i : ℕ)
      → answer_of k turns (answers_to step world (events_of turns)) j i ≡ answer_of 0 (own_turns k turns) (answers_to step new (events_of (own_turns k turns))) j i
  pub twins : Twins (chip_at (bus_of (after step world (events_of turns))).chips k) (only_chip (after step new (events_of (own_turns k turns))))
  pub array : let ends = after step world (events_of turns) in
      array_share (places_of (bus_of ends).chips) k (array_of ends) ≡ array_of (after step new (events_of (own_turns k turns)))
