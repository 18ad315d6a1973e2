-- Setting up a bus (paper, "The two memories" and "Events and replies"): checks 1, 2, 3, 4, 5 in that order over all chips.
use Rattle.std.specs.Prelude.{ℕ, Bool, false, List, [], ◌∷◌, ◌++◌, length, replicate, set}
use Rattle.base.specs.Fold.{up_to}
use Rattle.load.specs.Load.{no_values}
use Rattle.chip.specs.declared.Chip.{Chip}
use Rattle.chip.specs.Chip as chip
use Rattle.refusal.specs.declared.Refusal.{Refusal}
use Rattle.refusal.specs.declared.Refusal.TheVariants.{WrongLength}
use Rattle.refusal.specs.Verdict.{Verdict}
use Rattle.std.specs.Prelude.{Ok, Err}
use Rattle.refusal.specs.Checks.{first_of}
use Rattle.board.specs.declared.Place.{Place}
use Rattle.board.specs.Place.{place_at, placed}
use Rattle.board.specs.Board.{board_checks}
use Rattle.board.specs.Shares.{wrong_length}
use Rattle.bus.specs.declared.Bus.{Bus}
use Rattle.bus.specs.declared.SetUp.{SetUp}

abbrev pub set_up_checks : ℕ → List Place → List ℕ → List ℕ → List (Bool × Refusal)
set_up_checks count places array security =
    board_checks count places ++ ((wrong_length count places (length array) (length security), WrongLength) ∷ [])

-- a place that no chip fills
abbrev pub empty_chip : Chip
empty_chip = chip.fresh 0 0

-- the empty state, which is not well formed; no Start is remembered
abbrev pub empty : Bus
empty = record { count = 0; started = false; chips = replicate 4 empty_chip; values = no_values }

-- a fresh chip at each place that the count fills
abbrev pub fresh_chips : List Place → ℕ → List Chip
fresh_chips places n =
    up_to (λ (i : ℕ) (chips : List Chip). set chips i (chip.fresh (place_at places i).part (place_at places i).strap)) n (replicate 4 empty_chip)

abbrev pub fresh_bus : ℕ → List Place → Bus
fresh_bus count places = record { count = count; started = false; chips = fresh_chips places (placed count); values = no_values }

-- a refused set-up returns the empty state beside its refusal
abbrev pub set_up_by : Verdict → ℕ → List Place → SetUp
set_up_by (Ok tt) count places = record { bus = fresh_bus count places; verdict = Ok tt }
set_up_by (Err refusal) count places = record { bus = empty; verdict = Err refusal }

unfoldable pub set_up : ℕ → List Place → List ℕ → List ℕ → SetUp
set_up count places array security = set_up_by (first_of (set_up_checks count places array security)) count places
