-- Pages, and going round: the byte after the last of a region is its first (paper, "Data", "Read").
use Rattle.std.specs.Prelude.{ℕ, ◌+◌, ◌*◌, ◌/◌, ◌%◌, Bool, cond, ◌&&◌, ltb, leb}
use Rattle.parts.specs.declared.part.Geometry.{Geometry}

abbrev pub page_of : Geometry → ℕ → ℕ
page_of g at = at / g.page

-- the place of an address in its page
abbrev pub place_of : Geometry → ℕ → ℕ
place_of g at = at % g.page

-- the next address of a region of some size, from the last to 0
abbrev pub next_in : ℕ → ℕ → ℕ
next_in size at = cond (ltb (at + 1) size) (at + 1) 0

-- the next address of a load, which wraps within the page
abbrev pub next_in_page : Geometry → ℕ → ℕ
next_in_page g at = page_of g at * g.page + next_in g.page (place_of g at)

-- an address of the security register lies in the ID page, which follows the read-only half (sheets, Table 10-1)
abbrev pub in_id_page : Geometry → ℕ → Bool
in_id_page g at = leb g.readonly at && ltb at (g.readonly + g.idpage)
