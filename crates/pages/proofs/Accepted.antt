-- What an accepted query has: its chip and its page exist, and the page lies inside its chip's share, which lies inside the store.
use Prim.Native.Nat.{ℕ, ◌+◌, ◌*◌, ◌/◌, ◌<◌, ◌≤◌}
use native.Mathlib.Nat.{div-mul-le_self, mul-le-mul_right, add-mul, one-mul}
use native.Mathlib.Omega.{arith}
use mathlib.Core.Bool.{true, false, false≢true}
use mathlib.Core.List.{List}
use mathlib.Core.Path.{◌≡◌, ◌∙◌, sym, ap}
use denote.Ref.{Bor}
use lib.Dec.{eqb, ltb, leb}
use lib.ListN.{length}
use borrow.Author.Tests.{ltb-true, not-false}
use Rattle.base.proofs.logic.Laws.{and_left, and_right}
use Rattle.refusal.specs.Verdict.{Verdict}
use Rattle.std.specs.Prelude.{Ok, Err}
use Rattle.refusal.specs.Refusal.{status_of}
use Rattle.refusal.specs.Checks.{first_of}
use Rattle.std.specs.Result.{is_ok}
use Rattle.refusal.proofs.Checks.{passed_exactly_when}
use Rattle.board.specs.declared.Place.{Place}
use Rattle.board.specs.Shares.{figures_at, array_start, security_start}
use Rattle.board.proofs.Laws.{ends_before}
use Rattle.lineup.specs.Chips.{places_of}
use Rattle.bus.specs.declared.Bus.{Bus}
use Rattle.bus.specs.Step.{entry_checks}
use Rattle.bus.proofs.Entry.{Entered, entered}
use Rattle.pages.specs.Page.{pages_of, page_exists, page_checks, page_start, page_verdict, shown_by, Shows}
use Rattle.pages.specs.Part.{PartOf}

-- a page of a region ends inside it
pub page_ends : (page size region : ℕ) → page < region / size → page * size + size ≤ region
page_ends page size region there =
    omega (arith, mul-le-mul_right size there, add-mul page 1 size, one-mul size, div-mul-le_self region size)

-- a query that is not accepted shows the empty part
pub refused_shows : (verdict : Verdict) (places : List Place) (array security : Bor (List ℕ)) (chip store page : ℕ) (part : Bor (List ℕ)) → is_ok verdict ≡ false
    → PartOf array part 0 0
    → Shows (shown_by verdict places array security chip store page) part
refused_shows (Ok tt) places array security chip store page part other shown = absurd (false≢true (sym other))
refused_shows (Err refusal) places array security chip store page part other shown = shown

module _ (bus : Bus) (array security : List ℕ) (chip store page : ℕ) (accepted : page_verdict bus array security chip store page ≡ Ok tt) where
  abbrev places : List Place
  places = places_of bus.chips

  both : (first_of (entry_checks bus array security) ≡ Ok tt) × (page_exists bus.count places chip store page ≡ true)
  unfolding page_verdict
  both =
      let none = (passed_exactly_when (page_checks bus array security chip store page)).0 (ap status_of accepted) in
      (rw (none.0, none.1.0), not-false _ none.1.1.0)

  enters : Entered bus array security
  enters = entered bus array security both.0

  pub chip_there : chip < bus.count
  chip_there = ltb-true _ _ (and_left _ _ both.1)

  pub chip_below : chip < 4
  chip_below = omega (arith, chip_there, enters.chips_most)

  pub page_there : page < pages_of (figures_at places chip) store
  page_there = ltb-true _ _ (and_right (leb store 1) _ (and_right (ltb chip bus.count) _ both.1))

  -- the page in its share, and the share in its store
  pub in_array : eqb store 0 ≡ true → page_start places chip store page + (figures_at places chip).page ≤ length array
  in_array is =
      let there : page < (figures_at places chip).array / (figures_at places chip).page = rw is at page_there in
      rw is
      (omega (
        arith,
        page_ends page (figures_at places chip).page (figures_at places chip).array there,
        ends_before (λ (i : ℕ). (figures_at places i).array) chip bus.count chip_there,
        enters.array_fits ∙ ap (array_start places) enters.all_placed,
      ))

  pub in_security : eqb store 0 ≡ false → page_start places chip store page + (figures_at places chip).page ≤ length security
  in_security is =
      let there : page < (figures_at places chip).security / (figures_at places chip).page = rw is at page_there in
      rw is
      (omega (
        arith,
        page_ends page (figures_at places chip).page (figures_at places chip).security there,
        ends_before (λ (i : ℕ). (figures_at places i).security) chip bus.count chip_there,
        enters.security_fits ∙ ap (security_start places) enters.all_placed,
      ))
