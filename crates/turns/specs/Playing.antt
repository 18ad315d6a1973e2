-- Where a list of turns ends, and its answers.
use Rattle.std.specs.Prelude.{List, ℕ}
use Rattle.promises.specs.Playing.{World, Bench, after, answers_to}
use Rattle.turns.specs.Turn.{Turn}
use Rattle.turns.specs.Shuffle.{events_of}

abbrev pub Ending : Type 0
Ending = World × List ℕ

abbrev pub ending : Bench → World → List Turn → Ending
ending bench world turns = (after bench world (events_of turns), answers_to bench world (events_of turns))
