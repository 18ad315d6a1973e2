-- A page load: each byte that comes is loaded, so that later bytes replace earlier ones, and nothing is stored before the Stop
-- (paper, "Data" and "Stop"; sheets 6.2).
use Rattle.std.specs.Prelude.{ℕ, ◌+◌, ◌*◌, Bool, cond, not, List, replicate, set, get_or}
use Rattle.base.specs.Fold.{up_to}
use Rattle.parts.specs.declared.part.Geometry.{Geometry}
use Rattle.regions.specs.Page.{page_of, place_of}
use Rattle.load.specs.declared.Span.{Span}
use Rattle.load.specs.Span.{empty_span, is_empty, dropped, grown, covers}

-- which places are loaded, and a value for each byte of the largest page
pub record Load : Type 0 where
  pub span : Span
  pub values : List ℕ

abbrev pub load_of : Span → List ℕ → Load
load_of span values = record { span = span; values = values }

-- the values where no byte has come
abbrev pub no_values : List ℕ
no_values = replicate 256 0

-- no byte has come
abbrev pub empty : Load
empty = load_of empty_span no_values

-- a load that spans nothing, whatever its values: they are not read
abbrev pub emptied : Load → Load
emptied load = record { span = dropped load.span; values = load.values }

-- a byte more, at the place of its address in the page: what is loaded then
abbrev pub grown_at : Geometry → ℕ → Span → Span
grown_at g at span = grown g.page (place_of g at) span

-- and the values, with its own at that place; the first byte finds none of an earlier load
abbrev pub put_at : Geometry → ℕ → ℕ → Span → List ℕ → List ℕ
put_at g at value span values = set (cond (is_empty span) no_values values) (place_of g at) value

abbrev pub put : Geometry → ℕ → ℕ → Span → List ℕ → Span × List ℕ
put g at value span values = (grown_at g at span, put_at g at value span values)

abbrev pub with_byte : Geometry → ℕ → ℕ → Load → Load
with_byte g at value load = load_of (grown_at g at load.span) (put_at g at value load.span load.values)

abbrev pub is_loaded : Geometry → Load → ℕ → Bool
is_loaded g load place = covers g.page load.span place

-- at least one byte is loaded
abbrev pub holds : Span → Bool
holds span = not (is_empty span)

-- a byte that is loaded, at its address; past the store nothing changes
abbrev pub store_byte : Bool → ℕ → ℕ → List ℕ → List ℕ
store_byte loaded at value store = cond loaded (set store at value) store

-- the byte of one place, in the page that starts at `first`
abbrev pub store_place : Geometry → Load → ℕ → ℕ → List ℕ → List ℕ
store_place g load first place store = store_byte (is_loaded g load place) (first + place) (get_or load.values place 0) store

-- loaded bytes are stored into the page that an address lies in, others on the page stay
unfoldable pub store_page : Geometry → ℕ → Load → List ℕ → List ℕ
store_page g at load store = up_to (store_place g load (page_of g at * g.page)) g.page store
