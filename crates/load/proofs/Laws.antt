-- What a load means: an empty one nothing, a byte that runs on is overlaid, and what a page store leaves is the choice laid on the page.
use Prim.Native.Nat.{ℕ, ◌+◌, ◌*◌, ◌<◌, ◌≤◌}
use native.Mathlib.Decide.{dec_lt, ℕ_discrete}
use native.Mathlib.Omega.{arith}
use mathlib.Core.Bool.{Bool, true, false, cond, ◌&&◌, ◌||◌, or-false}
use mathlib.Core.List.{List}
use mathlib.Core.Option.{none, some}
use mathlib.Core.Path.{◌≡◌, ◌∙◌, refl, sym, ap}
use lib.Dec.{eqb, ltb}
use lib.ListN.{length, length-replicate, get_or, set}
use lib.Seq.{get_or-set_same, get_or-set_other}
use borrow.Author.Tests.{eqb-true, lt-ltb, le-ltb, eq-eqb, ne_eqb}
use Rattle.base.proofs.logic.Laws.{or_right}
use Rattle.base.proofs.Fold.{up_same}
use Rattle.parts.specs.declared.part.Geometry.{Geometry}
use Rattle.parts.specs.Part.{Sound}
use Rattle.regions.specs.Page.{page_of, place_of, next_in_page}
use Rattle.regions.proofs.page.Laws.{place_below, next_place}
use Rattle.load.specs.declared.Span.{Span}
use Rattle.load.specs.Span.{is_empty, dropped, grown, covers, inside_page, runs_on}
use Rattle.load.specs.Load.{Load, no_values, grown_at, emptied, with_byte, is_loaded, store_byte, store_page}
use Rattle.load.specs.Choice.{Choice, nothing, one, over, overlay, spanned, choice_of, byte_or, lay_byte, laid}
use Rattle.load.proofs.Spanning.{dropped_inside, covers_none, grown_inside, covers_grown, grown_runs_on}
use Rattle.load.proofs.Laying.{laid_length, laid_elsewhere, laid_at_lem}

-- a span inside its page, and values
module _ (g : Geometry) (span : Span) (values : List ℕ) (inside : inside_page g.page span ≡ true) where
  -- an empty one chooses nothing
  pub spans_nothing : is_empty span ≡ true → spanned g span values ≡ nothing
  spans_nothing empty = λ j place. none_at place (ltb place g.page) j
    where
      none_at : (place : ℕ) (on_page : Bool) → cond (on_page && covers g.page span place) (some (get_or values place 0)) none ≡ none
      none_at place true = rw (covers_none g.page span inside (eqb-true _ _ empty) place)
      none_at place false = refl

  -- a byte that runs on is overlaid, whatever is loaded at its place
  module _ (sound : Sound g) (long : g.page ≤ length values) (at value : ℕ) (runs : runs_on g.page span (place_of g at) ≡ true) where
    abbrev after : Choice
    after = spanned g (grown g.page (place_of g at) span) (set values (place_of g at) value)

    below : place_of g at < g.page
    below = place_below g sound at

    covered : (place : ℕ) → place < g.page → covers g.page (grown g.page (place_of g at) span) place ≡ (covers g.page span place || eqb place (place_of g at))
    covered = covers_grown g.page span (place_of g at) below inside runs

    here : after (place_of g at) ≡ some value
    here =
        rw (lt-ltb _ _ below, covered (place_of g at) below, eq-eqb (place_of g at) (place_of g at) refl, or_right (covers g.page span (place_of g at)) true refl)
        (ap some (get_or-set_same values (place_of g at) value 0 (omega (arith, below))))

    beside : (place : ℕ) → (place ≡ place_of g at → ⊥) → after place ≡ spanned g span values place
    beside place other = go (dec_lt place g.page)
      where
        go : Dec (place < g.page) → after place ≡ spanned g span values place
        go (yes p) =
            rw (lt-ltb _ _ p, covered place p, ne_eqb place (place_of g at) other, or-false (covers g.page span place), get_or-set_other values (place_of g at) place value 0 other)
        go (no p) = rw (le-ltb place g.page (omega arith))

    pub grown_overlays : after ≡ overlay (spanned g span values) (one (place_of g at) value)
    grown_overlays = λ j place. overlaid place (ℕ_discrete place (place_of g at)) j
      where
        overlaid : (place : ℕ) → Dec (place ≡ place_of g at) → after place ≡ over (spanned g span values place) (one (place_of g at) value place)
        overlaid place (yes p) = rw (p, eq-eqb (place_of g at) (place_of g at) refl) here
        overlaid place (no p) = rw (ne_eqb place (place_of g at) p) (beside place p)

module _ (g : Geometry) (load : Load) (inside : inside_page g.page load.span ≡ true) where
  pub emptied_nothing : choice_of g (emptied load) ≡ nothing
  emptied_nothing = spans_nothing g (dropped load.span) load.values (dropped_inside g.page load.span inside) refl

  pub put_overlays : Sound g → g.page ≤ length load.values → (at value : ℕ) → runs_on g.page load.span (place_of g at) ≡ true
      → choice_of g (with_byte g at value load) ≡ overlay (choice_of g load) (one (place_of g at) value)
  put_overlays sound long at value runs =
      grown_overlays g load.span begun inside sound (begun_long (is_empty load.span)) at value runs ∙ ap (λ (choice : Choice). overlay choice (one (place_of g at) value)) (begun_same (is_empty load.span) refl)
    where
      -- the values that the byte finds: of an empty load none are seen
      begun : List ℕ
      begun = cond (is_empty load.span) no_values load.values

      begun_long : (empty : Bool) → g.page ≤ length (cond empty no_values load.values)
      begun_long true = rw (length-replicate {A = ℕ} 256 0) sound.page_most
      begun_long false = long

      begun_same : (empty : Bool) → is_empty load.span ≡ empty → spanned g load.span (cond empty no_values load.values) ≡ choice_of g load
      begun_same true is = spans_nothing g load.span no_values inside is ∙ sym (spans_nothing g load.span load.values inside is)
      begun_same false is = refl

-- and wherever a byte ran on, the byte for the next address of its page does again
module _ (g : Geometry) (span : Span) (inside : inside_page g.page span ≡ true) (sound : Sound g) (at : ℕ) where
  pub put_inside : inside_page g.page (grown_at g at span) ≡ true
  put_inside = grown_inside g.page span (place_of g at) (place_below g sound at) inside

  pub put_runs_on : runs_on g.page span (place_of g at) ≡ true → runs_on g.page (grown_at g at span) (place_of g (next_in_page g at)) ≡ true
  put_runs_on runs = rw (next_place g sound at) (grown_runs_on g.page span (place_of g at) (place_below g sound at) inside runs)

-- what a page store leaves is what was loaded, laid on the page of the address
pub stored_laid : (g : Geometry) (at : ℕ) (load : Load) (store : List ℕ) → store_page g at load store ≡ laid g (page_of g at * g.page) (choice_of g load) store
unfolding store_page laid
stored_laid g at load store = up_same _ _ g.page (λ place now below. rw (lt-ltb _ _ below) (stores (is_loaded g load place) place now)) store
  where
    stores : (loaded : Bool) (place : ℕ) (now : List ℕ)
        → store_byte loaded (page_of g at * g.page + place) (get_or load.values place 0) now ≡ lay_byte (cond loaded (some (get_or load.values place 0)) none) (page_of g at * g.page + place) now
    stores true place now = refl
    stores false place now = refl

module _ (g : Geometry) (at : ℕ) (load : Load) (store : List ℕ) where
  -- so the store keeps its length, and every byte before the page
  pub store_page_length : length (store_page g at load store) ≡ length store
  store_page_length = ap length (stored_laid g at load store) ∙ laid_length g (page_of g at * g.page) (choice_of g load) store

  pub store_page_before : (i d : ℕ) → i < page_of g at * g.page → get_or (store_page g at load store) i d ≡ get_or store i d
  store_page_before i d before =
      ap (λ (now : List ℕ). get_or now i d) (stored_laid g at load store)
      ∙ laid_elsewhere g (page_of g at * g.page) (choice_of g load) store i d (λ place below same. absurd (omega arith))

  -- and at each address there is the loaded byte where it lies in the page and its place has one, and else what was there
  pub store_page_at : Sound g → (i d : ℕ) → i < length store
      → get_or (store_page g at load store) i d ≡ cond (eqb (page_of g i) (page_of g at)) (byte_or (choice_of g load (place_of g i)) (get_or store i d)) (get_or store i d)
  store_page_at sound i d inside =
      ap (λ (now : List ℕ). get_or now i d) (stored_laid g at load store) ∙ laid_at_lem g sound at (choice_of g load) store i d inside
