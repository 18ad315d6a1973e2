-- The chips of a line, and the board that they make.
use Rattle.std.specs.Prelude.{ℕ, List, get_or, set, replicate}
use Rattle.base.specs.Fold.{up_to}
use Rattle.load.specs.Span.{empty_span}
use Rattle.control.specs.declared.Control.{Control}
use Rattle.control.specs.Control.{fresh}
use Rattle.chip.specs.declared.Chip.{Chip}
use Rattle.board.specs.declared.Place.{Place}
use Rattle.board.specs.Place.{nowhere}

-- the language's own value for a chip past the last place; nothing reads it
abbrev pub no_chip : Chip
no_chip = record { control = fresh 0 0; span = empty_span }

abbrev pub chip_at : List Chip → ℕ → Chip
chip_at chips i = get_or chips i no_chip

abbrev pub control_at : List Chip → ℕ → Control
control_at chips i = (chip_at chips i).control

-- a chip's part and strap
abbrev pub place_of : Control → Place
place_of c = record { part = c.part; strap = c.strap }

unfoldable pub places_of : List Chip → List Place
places_of chips =
    up_to (λ (i : ℕ) (places : List Place). set places i (place_of (control_at chips i))) 4 (replicate 4 nowhere)

-- the chips without their loads
unfoldable pub controls_of : List Chip → List Control
controls_of chips =
    up_to (λ (i : ℕ) (controls : List Control). set controls i (control_at chips i)) 4 (replicate 4 (fresh 0 0))
