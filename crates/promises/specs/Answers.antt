-- What two runs leave of which one has an event more than the other, and refuses it: the same, but for its word.
use Rattle.std.specs.Prelude.{ℕ, suc, ◌+◌, ◌<◌, List, ◌≡◌, length, get_or}
use Rattle.bus.specs.Run.{Progress}

-- the lists are `before` and `rest`, with the event between them and without it
pub record ButForItsWord (before rest : List ℕ) (with without : Progress) : Type 0 where
  pub bus : with.0 ≡ without.0
  pub array : with.1 ≡ without.1
  pub security : with.2 ≡ without.2
  pub answers_before : (i : ℕ) → i < length before → get_or with.3 i 0 ≡ get_or without.3 i 0
  pub answers_behind : (i : ℕ) → i < length rest → get_or with.3 (length before + suc i) 0 ≡ get_or without.3 (length before + i) 0
