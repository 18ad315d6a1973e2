-- The second walk over the same records: each data record is stored, so that a later one replaces an earlier one (request E1).
use Rattle.std.specs.Prelude.{ℕ, ◌+◌, ◌-◌, Bool, cond, ◌&&◌, List, eqb, ltb, leb, length}
use Rattle.base.specs.Fold.{up_to}
use Rattle.std.specs.Result.{is_ok}
use Rattle.hexline.specs.Fields.{data_kind, count_in, kind_in, data_at, first_address, put_data}
use Rattle.image.specs.declared.loading.Reading.{Reading}
use Rattle.image.specs.Reading.{begun, reads_on, rest_at, verdict_at, next_reading}

-- how far the text is read, and the share as it is by then
abbrev pub Storing : Type 0
Storing = Reading × List ℕ

-- the record that is to be read passes, and is one of data
abbrev pub is_stored : ℕ → List ℕ → Reading → Bool
is_stored size text reading = is_ok (verdict_at size text reading) && eqb (kind_in (rest_at text reading)) data_kind

unfoldable pub next_storing : ℕ → List ℕ → Storing → Storing
next_storing size text (reading, share) = (
  next_reading size text reading,
  cond (is_stored size text reading) (put_data reading.upper (rest_at text reading) share) share,
)

unfoldable pub store_on : ℕ → List ℕ → Storing → Storing
store_on size text storing = cond (reads_on text storing.0) (next_storing size text storing) storing

abbrev pub storing_after : List ℕ → List ℕ → ℕ → Storing
storing_after text share n = up_to (λ (i : ℕ). store_on (length share) text) n (begun, share)

-- a share with all that a text names
unfoldable pub stored : List ℕ → List ℕ → List ℕ
stored text share = (storing_after text share (length text)).1

-- the addresses that a record of data names
abbrev pub names : ℕ → List ℕ → ℕ → Bool
names upper rest address = leb (first_address upper rest) address && ltb address (first_address upper rest + count_in rest)

-- there is a record to be read, it is stored, and it names this address
abbrev pub stores_at : ℕ → List ℕ → Reading → ℕ → Bool
stores_at size text reading address =
    reads_on text reading && (is_stored size text reading && names reading.upper (rest_at text reading) address)

-- the byte that it has for it
abbrev pub byte_for : List ℕ → Reading → ℕ → ℕ
byte_for text reading address = data_at (rest_at text reading) (address - first_address reading.upper (rest_at text reading))
