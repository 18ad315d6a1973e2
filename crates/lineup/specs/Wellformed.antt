-- Well formed (paper, "Well formed means"), of which `wellformed` has what concerns one chip, and two chips side by side. Clause by clause:
--     set-up would pass 1 to 4                                 set_up_passes, here
--     every counter is inside its region                       counters_fit, and for what is sent, taken and awaited phase_fits: wellformed
--                                                              Wellformed (request E7: a part may lack a region)
--     every load position is inside its region                 inside_page, in span_fits: wellformed Wellformed
--     at most one chip in all is sending, chosen or taking
--     word-address or data bytes                               not_both_active: wellformed Beside
--     while another chip awaits a byte, that one is only
--     chosen and awaits an address byte too                    waits_too: wellformed Beside
--     a busy chip is none of these and takes nothing           busy_not_chosen: wellformed Wellformed; a busy phase neither sends nor takes
--     only a chip taking data bytes holds a load               only_data_loads, in span_fits: wellformed Wellformed
--     loaded bytes run on from the first (request E10)         next_runs_on, in span_fits: wellformed Wellformed
--     only a chip that identifies itself is chosen
--     (request E7)                                             only_able_chosen: wellformed Wellformed
--     every register's unused bits and ECS are 0               unused_bits_clear: wellformed Wellformed
--     what a chip does while a Start is remembered, and while
--     none is (request E8)                                     heeds_start: wellformed Wellformed
--     awaiting an address byte, or the byte after F8h,
--     counts as taking                                         is_taking: control Phase
-- Places past the count are not looked at.
use Rattle.std.specs.Prelude.{ℕ, Bool, ◌&&◌, List}
use Rattle.base.specs.Fold.{all_below, all_pairs}
use Rattle.chip.specs.declared.Chip.{Chip}
use Rattle.wellformed.specs.Wellformed.{heeds_start}
use Rattle.wellformed.specs.Wellformed as chip
use Rattle.wellformed.specs.Beside.{side_by_side}
use Rattle.std.specs.Result.{is_ok}
use Rattle.board.specs.Place.{placed}
use Rattle.board.specs.Board.{board_verdict}
use Rattle.lineup.specs.Chips.{chip_at, control_at, places_of}

-- set-up would pass 1 to 4
abbrev pub set_up_passes : ℕ → List Chip → Bool
set_up_passes count chips = is_ok (board_verdict count (places_of chips))

-- every counter and load position is inside its region, a busy chip is not chosen, only a chip taking data bytes holds a load, the next byte runs
-- on, and every register's unused bits and ECS are 0
abbrev pub chips_fit : ℕ → List Chip → Bool
chips_fit count chips = all_below (λ (i : ℕ). chip.well_formed (chip_at chips i)) (placed count)

-- no two chips are in each other's way: at most one is active, and while another awaits a byte it waits too
abbrev pub chips_apart : ℕ → List Chip → Bool
chips_apart count chips = all_pairs (λ (i j : ℕ). side_by_side (control_at chips i) (control_at chips j)) (placed count)

-- while a Start is remembered every chip takes an address byte or nothing, and only then one awaits it
abbrev pub chips_heed : ℕ → Bool → List Chip → Bool
chips_heed count started chips = all_below (λ (i : ℕ). heeds_start started (control_at chips i).phase) (placed count)

-- of a state: its count of chips, whether a Start is remembered, and its chips
unfoldable pub well_formed : ℕ → Bool → List Chip → Bool
well_formed count started chips = set_up_passes count chips && (chips_fit count chips && (chips_apart count chips && chips_heed count started chips))
