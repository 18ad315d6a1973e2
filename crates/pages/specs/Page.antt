-- A page query takes chip, store (0 array, 1 security) and page number, with the part's page size in both (paper, "The two
-- memories").
use Rattle.std.specs.Prelude.{ℕ, ◌+◌, ◌*◌, ◌/◌, Bool, cond, not, ◌&&◌, List, [], ◌∷◌, ◌++◌, eqb, ltb, leb}
use Rattle.std.specs.Borrow.{Bor}
use Rattle.parts.specs.declared.part.Geometry.{Geometry}
use Rattle.refusal.specs.declared.Refusal.{Refusal}
use Rattle.refusal.specs.declared.Refusal.TheVariants.{WrongValue}
use Rattle.refusal.specs.Verdict.{Verdict}
use Rattle.std.specs.Prelude.{Ok, Err}
use Rattle.refusal.specs.Checks.{first_of}
use Rattle.board.specs.declared.Place.{Place}
use Rattle.board.specs.Shares.{figures_at, array_start, security_start}
use Rattle.lineup.specs.Chips.{places_of}
use Rattle.bus.specs.declared.Bus.{Bus}
use Rattle.bus.specs.Step.{entry_checks}
use Rattle.pages.specs.Part.{PartOf}

-- the pages of a store: those of the array, or of the security register
abbrev pub pages_of : Geometry → ℕ → ℕ
pages_of g store = cond (eqb store 0) (g.array / g.page) (g.security / g.page)

-- chip, store and page exist
abbrev pub page_exists : ℕ → List Place → ℕ → ℕ → ℕ → Bool
page_exists count places chip store page = ltb chip count && (leb store 1 && ltb page (pages_of (figures_at places chip) store))

abbrev pub page_checks : Bus → List ℕ → List ℕ → ℕ → ℕ → ℕ → List (Bool × Refusal)
page_checks bus array security chip store page =
    entry_checks bus array security ++ ((not (page_exists bus.count (places_of bus.chips) chip store page), WrongValue) ∷ [])

-- the question: 0, or 10, then 5, then 7
unfoldable pub page_verdict : Bus → List ℕ → List ℕ → ℕ → ℕ → ℕ → Verdict
page_verdict bus array security chip store page = first_of (page_checks bus array security chip store page)

-- where a page starts in its store
abbrev pub page_start : List Place → ℕ → ℕ → ℕ → ℕ
page_start places chip store page =
    cond (eqb store 0) (array_start places chip) (security_start places chip) + page * (figures_at places chip).page

-- the page query: which store, from where, how many bytes
pub record Shown : Type 1 where
  pub store : Bor (List ℕ)
  pub at : ℕ
  pub size : ℕ

-- where the question is not 0, the empty part at the start of the array store
abbrev pub shown_by : Verdict → List Place → Bor (List ℕ) → Bor (List ℕ) → ℕ → ℕ → ℕ → Shown
shown_by (Ok tt) places array security chip store page =
    record { store = cond (eqb store 0) array security; at = page_start places chip store page; size = (figures_at places chip).page }
shown_by (Err refusal) places array security chip store page = record { store = array; at = 0; size = 0 }

abbrev pub page_shown : Bus → Bor (List ℕ) → Bor (List ℕ) → ℕ → ℕ → ℕ → Shown
page_shown bus array security chip store page =
    shown_by (page_verdict bus array.now security.now chip store page) (places_of bus.chips) array security chip store page

-- what is handed back lies there and shows that
abbrev pub Shows : Shown → Bor (List ℕ) → Type 0
Shows shown part = PartOf shown.store part shown.at shown.size
