-- The four places of a line, and how many of them a count fills.
use Rattle.std.specs.Prelude.{ℕ, List, get_or}
use Rattle.base.specs.Least.{least}
use Rattle.board.specs.declared.Place.{Place}

abbrev pub nowhere : Place
nowhere = record { part = 0; strap = 0 }

abbrev pub place_at : List Place → ℕ → Place
place_at places i = get_or places i nowhere

-- a count that is too large fills all four
abbrev pub placed : ℕ → ℕ
placed count = least count 4
