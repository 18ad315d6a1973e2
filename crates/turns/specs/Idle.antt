-- The bus is idle when no chip is sending, taking, loading or chosen (paper, "Whose turn it is").
use Rattle.std.specs.Prelude.{ℕ, Bool, not, ◌&&◌}
use Rattle.base.specs.Fold.{all_below}
use Rattle.load.specs.Span.{is_empty}
use Rattle.control.specs.Phase.{is_sending, is_taking}
use Rattle.chip.specs.declared.Chip.{Chip}
use Rattle.board.specs.Place.{placed}
use Rattle.lineup.specs.Chips.{chip_at}
use Rattle.bus.specs.declared.Bus.{Bus}

-- some byte of a page is loaded
abbrev pub is_loading : Chip → Bool
is_loading c = not (is_empty c.span)

abbrev pub is_at_rest : Chip → Bool
is_at_rest c =
    (not (is_sending c.control.phase) && not (is_taking c.control.phase))
    && (not (is_loading c) && not c.control.chosen)

unfoldable pub is_idle : Bus → Bool
is_idle bus = all_below (λ (i : ℕ). is_at_rest (chip_at bus.chips i)) (placed bus.count)
