-- A byte read keeps the clauses: counters go round, and so does the place in the ID.
use Prim.Native.Nat.{ℕ}
use native.Mathlib.Omega.{arith}
use mathlib.Core.Bool.{Bool, true, false, cond, not}
use mathlib.Core.List.{List}
use mathlib.Core.Path.{◌≡◌, ◌∙◌, refl, ap}
use lib.Dec.{ltb}
use borrow.Author.Tests.{lt-ltb}
use Rattle.base.proofs.logic.Laws.{and_left, and_both}
use Rattle.parts.specs.Part.{geometry_of}
use Rattle.regions.proofs.page.Laws.{next_below}
use Rattle.load.specs.declared.Span.{Span}
use Rattle.control.specs.declared.Control.{Control}
use Rattle.control.specs.declared.Answered.{Answered}
use Rattle.control.specs.declared.phase.Phase.{Phase}
use Rattle.control.specs.declared.phase.Phase.TheVariants.{Standby, SendsByte}
use Rattle.control.specs.declared.phase.Source.{Source}
use Rattle.control.specs.declared.phase.Source.TheVariants.{FromArray, FromSecurity, FromConfiguration, FromId, FromNothing}
use Rattle.control.specs.Phase.{takes_data}
use Rattle.control.specs.Control.{in_phase}
use Rattle.sending.specs.Sending.{next_id_place, moved_past, read_in}
use Rattle.sending.proofs.Laws.{read_either}
use Rattle.wellformed.specs.Wellformed.{source_fits}
use Rattle.wellformed.proofs.Laws.{next_fits}
use Rattle.promises.proofs.Keeping.Fits.{Fits, array_fits, security_fits}
use Rattle.promises.proofs.Keeping.Good.{Good, Unloaded, unloaded_of, unloaded_fits, moves, standby}
use Rattle.promises.proofs.Keeping.Taking.{about}

next_id_fits : (place : ℕ) → ltb (next_id_place place) 3 ≡ true
next_id_fits place = lt-ltb _ _ (next_below 3 place (omega arith))

module _ (c : Control) (span : Span) (f : Fits c) (empty : Unloaded c span) where
  sends : (source : Source) → source_fits (geometry_of c.part) source ≡ true → Good (in_phase (SendsByte source) c) span
  sends source place = moves c span f empty (SendsByte source) place refl

  reply_good : (nack : Bool) → Good c span → Good (cond nack (in_phase Standby c) c) span
  reply_good true good = standby c span f empty
  reply_good false good = good

moved_good : (source : Source) (c : Control) (span : Span) → source_fits (geometry_of c.part) source ≡ true → Unloaded c span → Good c span → Good (moved_past source c) span
moved_good FromArray c span has empty good = (array_fits c good.0 _ (next_fits (geometry_of c.part).array c.arraycounter), unloaded_fits (moved_past FromArray c) span empty)
moved_good FromSecurity c span has empty good = (security_fits c good.0 _ (next_fits (geometry_of c.part).security c.securitycounter), unloaded_fits (moved_past FromSecurity c) span empty)
moved_good (FromConfiguration second) c span has empty good = sends c span good.0 empty (FromConfiguration (not second)) has
moved_good (FromId place) c span has empty good =
    let able = (geometry_of c.part).identifies in
    sends c span good.0 empty (FromId (next_id_place place)) (and_both able _ (and_left able (ltb place 3) has) (next_id_fits place))
moved_good FromNothing c span has empty good = good

-- no event on this way changes the part, so the load stays empty
moved_unloaded : (source : Source) (c : Control) (span : Span) → Unloaded c span → Unloaded (moved_past source c) span
moved_unloaded FromArray c span empty = empty
moved_unloaded FromSecurity c span empty = empty
moved_unloaded (FromConfiguration second) c span empty = empty
moved_unloaded (FromId place) c span empty = empty
moved_unloaded FromNothing c span empty = empty

pub read_good : (phase : Phase) (c : Control) (span : Span) (array security : List ℕ) (nack : Bool) → c.phase ≡ phase → Good c span → Good (read_in phase c array security nack).control span
read_good phase c span array security nack is good =
    read_either c array security nack (λ (x : Answered). Good x.control span) good phase λ source sends.
    let empty = unloaded_of c span (ap takes_data (is ∙ sends)) good.1 in
    let moved = moved_good source c span (about (SendsByte source) c (is ∙ sends) good.0) empty good in
    reply_good (moved_past source c) span moved.0 (moved_unloaded source c span empty) nack moved
