-- Zone is address divided by zone size (paper, "Protection").
use Rattle.std.specs.Prelude.{ℕ, ◌/◌, cond, ltb}
use Rattle.parts.specs.declared.part.Geometry.{Geometry}

-- past the array there is no zone, and 8 says so
abbrev pub zone_of : Geometry → ℕ → ℕ
zone_of g at = cond (ltb at g.array) (at / g.zone) 8
