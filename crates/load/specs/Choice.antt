-- What a load means: a choice of bytes of a page, at each place a byte or none. A choice may be any at all, also one whose bytes do not run on,
-- which no single turn can carry (request E12).
use Rattle.std.specs.Prelude.{ℕ, ◌+◌, cond, ◌&&◌, List, eqb, ltb, set, get_or}
use Rattle.std.proofs.Math.Option.{Option, none, some}
use Rattle.base.specs.Fold.{up_to}
use Rattle.parts.specs.declared.part.Geometry.{Geometry}
use Rattle.load.specs.declared.Span.{Span}
use Rattle.load.specs.Span.{covers}
use Rattle.load.specs.Load.{Load}

abbrev pub Choice : Type 0
Choice = ℕ → Option ℕ

abbrev pub nothing : Choice
nothing place = none

-- one byte, at its place
abbrev pub one : ℕ → ℕ → Choice
one place value other = cond (eqb other place) (some value) none

abbrev pub over : Option ℕ → Option ℕ → Option ℕ
over first none = first
over first (some value) = some value

-- the second's byte where it has one, and else the first's
abbrev pub overlay : Choice → Choice → Choice
overlay first second place = over (first place) (second place)

-- the values of the places that a span covers; past the page there are none
abbrev pub spanned : Geometry → Span → List ℕ → Choice
spanned g span values place = cond (ltb place g.page && covers g.page span place) (some (get_or values place 0)) none

-- what a load means
abbrev pub choice_of : Geometry → Load → Choice
choice_of g load = spanned g load.span load.values

-- a byte of a choice, or what stands there already
abbrev pub byte_or : Option ℕ → ℕ → ℕ
byte_or none there = there
byte_or (some value) there = value

abbrev pub lay_byte : Option ℕ → ℕ → List ℕ → List ℕ
lay_byte none at store = store
lay_byte (some value) at store = set store at value

-- the store that a choice leaves on the page that starts at `start`: each of its bytes at its place, the rest as it was
unfoldable pub laid : Geometry → ℕ → Choice → List ℕ → List ℕ
laid g start choice store = up_to (λ (place : ℕ) (now : List ℕ). lay_byte (choice place) (start + place) now) g.page store
