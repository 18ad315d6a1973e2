-- What a Start that is remembered where turns begin comes to: no answer (request E8).
use Rattle.std.specs.Prelude.{ℕ, Bool, false, cond, ◌||◌, List, [], ◌∷◌, ◌≡◌}
use Rattle.bus.specs.Step.{step}
use Rattle.promises.specs.Playing.{World, bus_of, after, answers_to}
use Rattle.turns.specs.Turn.{is_start}
use Rattle.turns.specs.Alone.{with_start}

-- a Start is among the events, so that some turn is an exchange
unfoldable pub has_start : List ℕ → Bool
has_start [] = false
has_start (word ∷ more) = is_start word || has_start more

-- what is remembered at the end, where a Start was or none: it stays where there was no exchange
abbrev pub remembered : Bool → List ℕ → World → Bool
remembered started events ends = cond (has_start events) (bus_of ends).started started

-- from a world with a Start remembered, or none, the answers are the same, and so is the end but for what is remembered
pub record AsWithout (started : Bool) (events : List ℕ) (world : World) : Type 0 where
  pub answers : answers_to step (with_start started world) events ≡ answers_to step world events
  pub ends : after step (with_start started world) events ≡ with_start (remembered started events (after step world events)) (after step world events)
