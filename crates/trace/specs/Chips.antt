-- Which chips of a line something holds of.
use Rattle.std.specs.Prelude.{ℕ, ◌/◌, ◌%◌, Bool, false, cond, not, ◌&&◌, ◌||◌, List, eqb, replicate, set, Option, Some, None}
use Rattle.base.specs.Fold.{up_to}
use Rattle.parts.specs.Part.{geometry_of}
use Rattle.parts.specs.Address.{answers}
use Rattle.control.specs.declared.Control.{Control}
use Rattle.control.specs.declared.phase.Phase.{Phase}
use Rattle.control.specs.Phase.{is_busy, is_sending, is_taking, is_awaiting}
use Rattle.chip.specs.declared.Chip.{Chip}
use Rattle.board.specs.Place.{placed}
use Rattle.lineup.specs.Chips.{no_chip, chip_at, control_at}
use Rattle.trace.specs.declared.chips.Test.{Test}
use Rattle.trace.specs.declared.chips.Test.TheVariants.{Partner, HasAddress, Awaits, Takes, Busy, Chosen}

-- an address byte of the array, 1010, and one of the registers, 1011 (paper, "Address byte")
abbrev pub is_array_byte : ℕ → Bool
is_array_byte byte = eqb (byte / 16) 0b1010

abbrev pub is_register_byte : ℕ → Bool
is_register_byte byte = eqb (byte / 16) 0b1011

-- one of the two has the chip's code, whatever its part is able to do
abbrev pub has_address : ℕ → Control → Bool
has_address byte c = (is_array_byte byte || is_register_byte byte) && answers (geometry_of c.part) c.strap (byte / 2 % 8)

-- the host's partner: sending, or taking word-address or data bytes
abbrev pub is_partner : Phase → Bool
is_partner phase = is_sending phase || (is_taking phase && not (is_awaiting phase))

abbrev pub holds : Test → Control → Bool
holds Partner c = is_partner c.phase
holds (HasAddress byte) c = has_address byte c
holds Awaits c = is_awaiting c.phase
holds Takes c = is_taking c.phase
holds Busy c = is_busy c.phase
holds Chosen c = c.chosen

-- the same of the chip at a place
abbrev pub holds_at : Test → List Chip → ℕ → Bool
holds_at test chips i = holds test (control_at chips i)

-- the chip of which a test holds, and none where it holds of none; of several the last
unfoldable pub who : Test → ℕ → List Chip → Option ℕ
who test count chips =
    up_to (λ (i : ℕ) (found : Option ℕ). cond (holds_at test chips i) (Some i) found) (placed count) None

-- all of which it holds: a mark at each of the four places
unfoldable pub which : Test → ℕ → List Chip → List Bool
which test count chips =
    up_to (λ (i : ℕ) (marks : List Bool). set marks i (holds_at test chips i)) (placed count) (replicate 4 false)

-- a chip by its place; where there is none, the language's own value stands for it, which is on standby
abbrev pub chip_or_none : List Chip → Option ℕ → Chip
chip_or_none chips None = no_chip
chip_or_none chips (Some i) = chip_at chips i
