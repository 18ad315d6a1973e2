-- A chip whose part has no registers has a share of 0 bytes in the security store, and so no page there (request E7).
use Prim.Native.Nat.{ℕ}
use native.Mathlib.Nat.{div-eq_of_lt}
use native.Mathlib.Omega.{arith}
use mathlib.Core.Bool.{false, not, and-false}
use mathlib.Core.List.{List, [], ◌∷◌}
use mathlib.Core.Path.{◌≡◌, ◌∙◌}
use lib.Dec.{ltb}
use borrow.Author.Tests.{le-ltb}
use Rattle.parts.proofs.part.Laws.{sound_of, no_security}
use Rattle.refusal.specs.declared.Refusal.TheVariants.{WrongValue}
use Rattle.std.specs.Prelude.{Ok, Err}
use Rattle.refusal.specs.Checks.{first_of}
use Rattle.refusal.proofs.Checks.{passed_first}
use Rattle.board.specs.declared.Place.{Place}
use Rattle.board.specs.Place.{place_at}
use Rattle.board.specs.Shares.{figures_at}
use Rattle.lineup.specs.Chips.{places_of}
use Rattle.bus.specs.declared.Bus.{Bus}
use Rattle.bus.specs.Step.{entry_checks}
use Rattle.pages.specs.Page.{page_exists, page_verdict}

-- the page question on the security store is 7 for every page, once 10 and 5 pass
pub no_security_page : (bus : Bus) (array security : List ℕ) (chip page : ℕ) → first_of (entry_checks bus array security) ≡ Ok tt
    → (figures_at (places_of bus.chips) chip).registers ≡ false
    → page_verdict bus array security chip 1 page ≡ Err WrongValue
unfolding page_verdict
no_security_page bus array security chip page enters without =
    passed_first (entry_checks bus array security) ((not (page_exists bus.count places chip 1 page), WrongValue) ∷ []) enters ∙ rw none
  where
    places : List Place
    places = places_of bus.chips

    empty : (figures_at places chip).security ≡ 0
    empty = no_security (sound_of (place_at places chip).part) without

    none : page_exists bus.count places chip 1 page ≡ false
    none = rw (empty, div-eq_of_lt (sound_of (place_at places chip).part).page_some, le-ltb page 0 (omega arith)) (and-false (ltb chip bus.count))
