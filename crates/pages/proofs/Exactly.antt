-- The page question gives each number exactly when the paper's table says, in the order 10, 5, 7.
use Prim.Native.Nat.{ℕ, ◌<◌}
use mathlib.Core.List.{List}
use mathlib.Core.Logic.{◌↔◌}
use mathlib.Core.Path.{◌≡◌, refl}
use Rattle.refusal.specs.Refusal.{status_of}
use Rattle.refusal.proofs.Checks.{Given, NoneHolds, given_exactly_when, passed_exactly_when}
use Rattle.bus.specs.declared.Bus.{Bus}
use Rattle.pages.specs.Page.{page_checks, page_verdict}

module _ (bus : Bus) (array security : List ℕ) (chip store page : ℕ) where
  pub page_exactly_when : (n : ℕ) → 0 < n → (status_of (page_verdict bus array security chip store page) ≡ n) ↔ Given (page_checks bus array security chip store page) n
  unfolding page_verdict
  page_exactly_when n some = given_exactly_when (page_checks bus array security chip store page) refl n some

  pub page_passes_exactly_when : (status_of (page_verdict bus array security chip store page) ≡ 0) ↔ NoneHolds (page_checks bus array security chip store page)
  unfolding page_verdict
  page_passes_exactly_when = passed_exactly_when (page_checks bus array security chip store page)
