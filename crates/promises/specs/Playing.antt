-- Playing a list of events: one step after the other.
use Rattle.std.specs.Prelude.{ℕ, List, [], ◌∷◌}
use Rattle.refusal.specs.Refusal.{answer_word}
use Rattle.board.specs.Stores.{WithStores, array_of, security_of}
use Rattle.bus.specs.declared.Bus.{Bus}
use Rattle.bus.specs.declared.Stepped.{Stepped}

-- a state and both stores
abbrev pub World : Type 0
World = WithStores Bus

abbrev pub bus_of : World → Bus
bus_of world = world.0

-- what a bench makes of one event, ours or another: the next state and an answer, and both stores
abbrev pub Made : Type 0
Made = WithStores Stepped

abbrev pub Bench : Type 0
Bench = Bus → List ℕ → List ℕ → ℕ → Made

abbrev pub stepped : Bench → World → ℕ → Made
stepped bench world word = bench (bus_of world) (array_of world) (security_of world) word

-- where that has led to
abbrev pub led_to : Made → World
led_to made = (made.0.bus, array_of made, security_of made)

abbrev pub after_one : Bench → World → ℕ → World
after_one bench world word = led_to (stepped bench world word)

abbrev pub answer_to : Bench → World → ℕ → ℕ
answer_to bench world word = answer_word (stepped bench world word).0.answer

-- everything held afterwards
unfoldable pub after : Bench → World → List ℕ → World
after bench world [] = world
after bench world (word ∷ more) = after bench (after_one bench world word) more

-- each answer
unfoldable pub answers_to : Bench → World → List ℕ → List ℕ
answers_to bench world [] = []
answers_to bench world (word ∷ more) = answer_to bench world word ∷ answers_to bench (after_one bench world word) more
