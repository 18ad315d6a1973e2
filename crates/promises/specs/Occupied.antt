-- A byte that names a chip in its write cycle, as the first after a Start (request E8).
use Rattle.std.specs.Prelude.{ℕ, ◌<◌, Bool, true, List, ◌≡◌}
use Rattle.control.specs.Phase.{is_busy}
use Rattle.addressing.specs.Address.{names}
use Rattle.chip.specs.declared.Chip.{Chip}
use Rattle.board.specs.Place.{placed}
use Rattle.lineup.specs.Chips.{control_at}

-- a Start is remembered, and the byte names a chip that is busy
abbrev pub CallsABusyChip : ℕ → Bool → List Chip → ℕ → Type 0
CallsABusyChip count started chips byte =
    (started ≡ true) × ((i : ℕ) × ((i < placed count) × ((is_busy (control_at chips i).phase ≡ true) × (names byte (control_at chips i) ≡ true))))
