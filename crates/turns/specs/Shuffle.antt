-- Lists of turns, their shuffles, and the j-th turn of a chip in one list and in another.
use Rattle.std.specs.Prelude.{ℕ, zero, suc, ◌+◌, Bool, true, false, cond, ◌&&◌, List, [], ◌∷◌, ◌++◌, ◌≡◌, eqb, length, get_or, take, drop}
use Rattle.board.specs.declared.Place.{Place}
use Rattle.turns.specs.Turn.{Turn, is_start, is_f8, is_turn}

unfoldable pub are_turns : ℕ → List Place → List Turn → Bool
are_turns count places [] = true
are_turns count places (turn ∷ rest) = is_turn count places turn && are_turns count places rest

-- one turn after the other
unfoldable pub events_of : List Turn → List ℕ
events_of [] = []
events_of (turn ∷ rest) = turn.events ++ events_of rest

-- the turns of chip k, in their order
unfoldable pub turns_of : ℕ → List Turn → List (List ℕ)
turns_of k [] = []
turns_of k (turn ∷ rest) = cond (eqb turn.chip k) (turn.events ∷ turns_of k rest) (turns_of k rest)

-- a shuffle has for each chip the same list of own turns
abbrev pub Shuffle : List Turn → List Turn → Type 0
Shuffle turns others = (k : ℕ) → turns_of k turns ≡ turns_of k others

-- the j-th turn of chip k
abbrev pub turn_of : ℕ → List Turn → ℕ → List ℕ
turn_of k turns j = get_or (turns_of k turns) j []

-- how many events stand before it
unfoldable pub began_at : ℕ → List Turn → ℕ → ℕ
began_at k [] j = 0
began_at k (turn ∷ rest) zero = cond (eqb turn.chip k) 0 (length turn.events + began_at k rest zero)
began_at k (turn ∷ rest) (suc j) = length turn.events + began_at k rest (cond (eqb turn.chip k) j (suc j))

-- the answers to the turns of chip k, from those to the whole list
unfoldable pub answers_of : ℕ → List Turn → List ℕ → List (List ℕ)
answers_of k [] answers = []
answers_of k (turn ∷ rest) answers =
    let n = length turn.events in
    cond (eqb turn.chip k) (take n answers ∷ answers_of k rest (drop n answers)) (answers_of k rest (drop n answers))

-- the answer to event i of the j-th turn of chip k
abbrev pub answer_of : ℕ → List Turn → List ℕ → ℕ → ℕ → ℕ
answer_of k turns answers j i = get_or (get_or (answers_of k turns answers) j []) i 0

-- the one excepted answer is that to F8h straight after a Start
abbrev pub is_excepted : List ℕ → ℕ → Bool
is_excepted events zero = false
is_excepted events (suc i) = is_start (get_or events i 0) && is_f8 (get_or events (suc i) 0)
