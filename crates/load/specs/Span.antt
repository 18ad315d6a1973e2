-- Which places of a page are loaded. Loaded bytes run on from the first, going round the page, so the first place and how many came say it all
-- (request E10; paper, "Data"). `page` is the size of the page.
use Rattle.std.specs.Prelude.{ℕ, ◌+◌, Bool, cond, ◌&&◌, ◌||◌, eqb, ltb, leb}
use Rattle.base.specs.Least.{least}
use Rattle.load.specs.declared.Span.{Span}

-- as set up: no byte has come
abbrev pub empty_span : Span
empty_span = record { first = 0; count = 0 }

abbrev pub is_empty : Span → Bool
is_empty span = eqb span.count 0

-- no byte is left; where the first one was stays, as values do
abbrev pub dropped : Span → Span
dropped span = record { first = span.first; count = 0 }

-- a byte more, at a place: the first that comes says where the span begins, and it counts no more than a page
abbrev pub grown : ℕ → ℕ → Span → Span
grown page place span =
    record { first = cond (is_empty span) place span.first; count = least (span.count + 1) page }

-- where a place is met going on from the first: a page later if it lies before it
abbrev pub met_at : ℕ → Span → ℕ → ℕ
met_at page span place = cond (ltb place span.first) (place + page) place

-- where the place after the last is met
abbrev pub end : Span → ℕ
end span = span.first + span.count

-- it is one of the `count` places from the first on
abbrev pub covers : ℕ → Span → ℕ → Bool
covers page span place = ltb (met_at page span place) (span.first + span.count)

-- the first place is one of the page's, and the page has as many as came
abbrev pub inside_page : ℕ → Span → Bool
inside_page page span = ltb span.first page && leb span.count page

-- a byte at this place runs on: it is the first, or the page is full, or it is met right after the last
abbrev pub runs_on : ℕ → Span → ℕ → Bool
runs_on page span place = is_empty span || (leb page span.count || eqb (met_at page span place) (span.first + span.count))
