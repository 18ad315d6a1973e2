-- Loading: 10, 5, 7, then the text is checked whole, and only then is any byte stored. Protection does not apply, and the state is not
-- changed (request E1).
use Rattle.std.specs.Prelude.{ℕ, ◌+◌, List, length, Result}
use Rattle.base.specs.Store.{patched}
use Rattle.refusal.specs.declared.Refusal.{Refusal}
use Rattle.refusal.specs.Verdict.{Verdict}
use Rattle.std.specs.Prelude.{Ok, Err}
use Rattle.refusal.specs.Checks.{first_of}
use Rattle.board.specs.declared.Place.{Place}
use Rattle.board.specs.Shares.{array_start}
use Rattle.lineup.specs.Chips.{places_of}
use Rattle.line.specs.Line.{array_share}
use Rattle.bus.specs.declared.Bus.{Bus}
use Rattle.bus.specs.Step.{chip_checks}
use Rattle.image.specs.declared.loading.LoadError.{LoadError}
use Rattle.image.specs.Reading.{scanned, text_verdict}
use Rattle.image.specs.Storing.{stored}

-- what a load answers
abbrev pub Loaded : Type 0
Loaded = Result (Unit {0}) LoadError

-- done: no line is at fault
abbrev pub loaded : Loaded
loaded = Ok tt

-- refused at a line of the text, 1 for the first; before any of it is read, 0
abbrev pub refused_at : Refusal → ℕ → Loaded
refused_at refusal line = Err (record { refusal = refusal; line = line })

-- its verdict, and the line at fault, 0 where there is none
abbrev pub load_verdict : Loaded → Verdict
load_verdict (Ok tt) = Ok tt
load_verdict (Err error) = Err error.refusal

abbrev pub line_of : Loaded → ℕ
line_of (Ok tt) = 0
line_of (Err error) = error.line

-- one chip's share, by what is said of the text
abbrev pub share_by : Verdict → List ℕ → List ℕ → Loaded × List ℕ
share_by (Ok tt) text share = (loaded, stored text share)
share_by (Err refusal) text share = (refused_at refusal ((scanned (length share) text).lines + 1), share)

unfoldable pub load_share : List ℕ → List ℕ → Loaded × List ℕ
load_share text share = share_by (text_verdict (length share) text) text share

-- the store with chip k's share exchanged
abbrev pub with_share : List Place → ℕ → List ℕ → List ℕ → List ℕ
with_share places k array share = patched (array_start places k) share array

abbrev pub in_place : List Place → ℕ → List ℕ → Loaded × List ℕ → Loaded × List ℕ
in_place places k array (said, share) = (said, with_share places k array share)

abbrev pub load_by : Verdict → List Place → List ℕ → ℕ → List ℕ → Loaded × List ℕ
load_by (Ok tt) places array k text = in_place places k array (load_share text (array_share places k array))
load_by (Err refusal) places array k text = (refused_at refusal 0, array)

-- what is answered, and the array store afterwards
unfoldable pub load : Bus → List ℕ → List ℕ → ℕ → List ℕ → Loaded × List ℕ
load bus array security k text = load_by (first_of (chip_checks bus array security k)) (places_of bus.chips) array k text
