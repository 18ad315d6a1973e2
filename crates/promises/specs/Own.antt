-- What each chip makes of an event by itself: the words of demand 2 over the whole line.
use Rattle.std.specs.Prelude.{ℕ, cond, List}
use Rattle.base.specs.Fold.{up_to}
use Rattle.control.specs.declared.Said.{Said}
use Rattle.control.specs.declared.Said.TheVariants.{Nothing}
use Rattle.chip.specs.declared.Chip.{Chip}
use Rattle.chip.specs.declared.Stepped.{Stepped}
use Rattle.chip.specs.Chip.{quiet, step}
use Rattle.board.specs.Place.{placed}
use Rattle.decode.specs.declared.Addressed.{Addressed}
use Rattle.decode.specs.Decode.{reaches, event_of}
use Rattle.lineup.specs.Chips.{chip_at, places_of}
use Rattle.line.specs.Line.{array_share, security_share, heard}

-- chip i with the values of the line and its own shares of the two stores as they are before the event: its step where the event reaches it, else it stays
abbrev pub own : Addressed → List Chip → List ℕ → List ℕ → List ℕ → ℕ → Stepped × List ℕ × List ℕ
own addressed chips values array security i =
    let a = array_share (places_of chips) i array in
    let s = security_share (places_of chips) i security in
    cond (reaches addressed i) (step (chip_at chips i) values a s (event_of addressed)) (quiet (chip_at chips i), a, s)

-- what all have said, in chip order
abbrev pub gathered : Addressed → ℕ → List Chip → List ℕ → List ℕ → List ℕ → Said
gathered addressed count chips values array security =
    up_to (λ (i : ℕ) (said : Said). heard said (own addressed chips values array security i).0.said) (placed count) Nothing
