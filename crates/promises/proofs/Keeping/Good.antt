-- The clauses of a chip together with those of the load it holds, and the few moves by which they are kept.
use Prim.Native.Nat.{ℕ}
use mathlib.Core.Bool.{Bool, true, false, not, ◌&&◌, false≢true}
use mathlib.Core.Path.{◌≡◌, ◌∙◌, refl, sym}
use Rattle.base.proofs.logic.Laws.{and_left, and_right, and_both, or_left, or_right, or_either}
use Rattle.parts.specs.Part.{geometry_of}
use Rattle.load.specs.declared.Span.{Span}
use Rattle.load.specs.Span.{is_empty, dropped, inside_page}
use Rattle.load.proofs.Spanning.{dropped_inside}
use Rattle.control.specs.declared.Control.{Control}
use Rattle.control.specs.declared.phase.Phase.{Phase}
use Rattle.control.specs.declared.phase.Phase.TheVariants.{Standby, Busy, AwaitsAddress, AwaitsChoice, AwaitsWord, TakesData, SendsByte}
use Rattle.control.specs.declared.phase.Data.{Data}
use Rattle.control.specs.declared.phase.Data.TheVariants.{ToArray, ToSecurity, ToConfiguration, ToLock, ToNowhere}
use Rattle.control.specs.Phase.{is_busy, takes_data}
use Rattle.control.specs.Control.{in_phase, choosing, wp_at}
use Rattle.control.specs.Exchange.{standby_now, busy_now}
use Rattle.wellformed.specs.Wellformed.{data_fits, phase_fits, only_data_loads, next_data_runs_on, next_runs_on, span_fits}
use Rattle.promises.proofs.Keeping.Fits.{Fits, in_phase_fits, choosing_fits}

-- the clauses of a chip and of the load it holds
abbrev pub Good : Control → Span → Type 0
Good c span = Fits c × (span_fits c span ≡ true)

-- a page of the chip's part
abbrev pub page : Control → ℕ
page c = (geometry_of c.part).page

-- a load inside that page, and an empty one
abbrev pub Inside : Control → Span → Type 0
Inside c span = inside_page (page c) span ≡ true

abbrev pub Unloaded : Control → Span → Type 0
Unloaded c span = Inside c span × (is_empty span ≡ true)

pub inside_of : (c : Control) (span : Span) → span_fits c span ≡ true → Inside c span
inside_of c span spans = and_left (inside_page (page c) span) _ spans

-- a chip that takes no data has an empty load
pub unloaded_of : (c : Control) (span : Span) → takes_data c.phase ≡ false → span_fits c span ≡ true → Unloaded c span
unloaded_of c span other spans =
    let rest : (only_data_loads c span && next_runs_on c.phase c span) ≡ true = and_right (inside_page (page c) span) _ spans in
    (inside_of c span spans, or_either (is_empty span) (takes_data c.phase) (and_left _ _ rest) (λ empty. empty) (λ takes. absurd (false≢true (sym other ∙ takes))))

unchosen : (b : Bool) → not (b && false) ≡ true
unchosen true = refl
unchosen false = refl

module _ (c : Control) (f : Fits c) where
  -- no chosen chip is busy, so dropping a choice is always right
  pub choice_dropped : Fits (choosing false c)
  choice_dropped = choosing_fits c f false (unchosen (is_busy c.phase)) refl

  pub standby_now_fits : Fits (standby_now c)
  standby_now_fits = in_phase_fits _ choice_dropped Standby refl refl

  pub busy_now_fits : Fits (busy_now c)
  busy_now_fits = in_phase_fits _ choice_dropped Busy refl refl

-- an empty load fits whatever the phase: a first byte always runs on
pub unloaded_fits : (c : Control) (span : Span) → Unloaded c span → span_fits c span ≡ true
unloaded_fits c span (inside, empty) =
    and_both _ _ inside (and_both (only_data_loads c span) _ (or_left (is_empty span) _ empty) (begins_anywhere c.phase))
  where
    begins_with : (kind : Data) → next_data_runs_on kind c span ≡ true
    begins_with ToArray = or_left (is_empty span) _ empty
    begins_with ToSecurity = or_left (is_empty span) _ empty
    begins_with (ToConfiguration came) = refl
    begins_with (ToLock some) = refl
    begins_with ToNowhere = refl

    begins_anywhere : (phase : Phase) → next_runs_on phase c span ≡ true
    begins_anywhere Standby = refl
    begins_anywhere Busy = refl
    begins_anywhere AwaitsAddress = refl
    begins_anywhere AwaitsChoice = refl
    begins_anywhere (AwaitsWord word) = refl
    begins_anywhere (TakesData kind) = begins_with kind
    begins_anywhere (SendsByte source) = refl

-- the WP level is no part of the clauses on a load
pub wp_spans : (c : Control) (span : Span) (level : Bool) → span_fits c span ≡ true → span_fits (wp_at level c) span ≡ true
wp_spans c span level spans =
    let rest : (only_data_loads c span && next_runs_on c.phase c span) ≡ true = and_right (inside_page (page c) span) _ spans in
    and_both _ _ (inside_of c span spans) (and_both (only_data_loads c span) _ (and_left _ _ rest) (still c.phase (and_right (only_data_loads c span) _ rest)))
  where
    still_with : (kind : Data) → next_data_runs_on kind c span ≡ true → next_data_runs_on kind (wp_at level c) span ≡ true
    still_with ToArray runs = runs
    still_with ToSecurity runs = runs
    still_with (ToConfiguration came) runs = runs
    still_with (ToLock some) runs = runs
    still_with ToNowhere runs = runs

    still : (phase : Phase) → next_runs_on phase c span ≡ true → next_runs_on phase (wp_at level c) span ≡ true
    still Standby runs = runs
    still Busy runs = runs
    still AwaitsAddress runs = runs
    still AwaitsChoice runs = runs
    still (AwaitsWord word) runs = runs
    still (TakesData kind) runs = still_with kind runs
    still (SendsByte source) runs = runs

module _ (c : Control) (span : Span) (f : Fits c) where
  -- so a chip with an empty load may go to any phase that its control may
  pub moves : Unloaded c span → (phase : Phase) → phase_fits (geometry_of c.part) phase ≡ true → not (is_busy phase && c.chosen) ≡ true → Good (in_phase phase c) span
  moves empty phase place busy = (in_phase_fits c f phase place busy, unloaded_fits (in_phase phase c) span empty)

  pub standby : Unloaded c span → Good (in_phase Standby c) span
  standby empty = moves empty Standby refl refl

  -- and one that takes data holds what is inside its page, where the next byte runs on
  pub loads : (kind : Data) → data_fits (geometry_of c.part) kind ≡ true → Inside c span → next_data_runs_on kind (in_phase (TakesData kind) c) span ≡ true → Good (in_phase (TakesData kind) c) span
  loads kind has inside next =
      (in_phase_fits c f (TakesData kind) has refl, and_both _ _ inside (and_both (only_data_loads (in_phase (TakesData kind) c) span) _ (or_right (is_empty span) _ refl) next))

-- a load that was inside is so once it is emptied, and then it fits
pub emptied_unloaded : (c : Control) (span : Span) → Inside c span → Unloaded c (dropped span)
emptied_unloaded c span inside = (dropped_inside (page c) span inside, refl)

pub emptied_good : (c : Control) (span : Span) → Fits c → Inside c span → Good c (dropped span)
emptied_good c span f inside = (f, unloaded_fits c (dropped span) (emptied_unloaded c span inside))
