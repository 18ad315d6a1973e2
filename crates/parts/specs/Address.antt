-- The code of an address byte is the three bits between 1010 or 1011 and the read bit (paper, "Address byte").
use Rattle.std.specs.Prelude.{ℕ, ◌+◌, ◌*◌, ◌/◌, ◌%◌, Bool, ◌&&◌, ltb, eqb}
use Rattle.parts.specs.declared.part.Geometry.{Geometry}

-- the eight codes are shared out over the straps: one each for the 24CS32, two each for the 24CSM01, whose last bit is A16
abbrev pub codes_of : Geometry → ℕ
codes_of g = 8 / g.straps

-- a chip at a strap answers a code
abbrev pub answers : Geometry → ℕ → ℕ → Bool
answers g strap code = eqb (code / codes_of g) strap

-- A16 in a code: which of its chip's two codes it is, so never set for the 24CS32 (sheets, Table 3-1)
abbrev pub a16_of : Geometry → ℕ → Bool
a16_of g code = eqb (code % codes_of g) 1

-- the first code that a chip at a strap answers
abbrev pub first_code : Geometry → ℕ → ℕ
first_code g strap = strap * codes_of g

-- two chips match one address byte: their codes overlap
abbrev pub share_address : Geometry → ℕ → Geometry → ℕ → Bool
share_address g strap h beside =
    ltb (first_code g strap) (first_code h beside + codes_of h) && ltb (first_code h beside) (first_code g strap + codes_of g)
