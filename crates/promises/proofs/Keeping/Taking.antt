-- A byte sent keeps the clauses: counters come from a remainder or go round their page, which is inside the region, and whoever
-- stops taking data drops its load. What needs registers is reached from a phase that needs them or by a 1011 byte, which only a part that has
-- them is asked; what needs identification likewise, by F8h and F9h.
use Prim.Native.Nat.{ℕ, ◌<◌}
use mathlib.Core.Bool.{Bool, true, false, cond, ◌&&◌}
use mathlib.Core.Path.{◌≡◌, refl, ap, subst}
use Rattle.base.proofs.logic.Laws.{and_right, and_both, either}
use Rattle.parts.specs.declared.part.Geometry.{Geometry}
use Rattle.parts.specs.Part.{geometry_of, Sound}
use Rattle.parts.proofs.part.Laws.{sound_of, array_some, security_of_lem}
use Rattle.regions.proofs.page.Laws.{next_inside}
use Rattle.regions.proofs.counter.Laws.{array_counter_below, security_counter_below}
use Rattle.load.specs.declared.Span.{Span}
use Rattle.load.specs.Span.{dropped, inside_page}
use Rattle.load.specs.Load.{grown_at}
use Rattle.load.proofs.Laws.{put_inside, put_runs_on}
use Rattle.control.specs.declared.Control.{Control}
use Rattle.control.specs.declared.Answered.{Answered}
use Rattle.control.specs.declared.phase.Phase.{Phase}
use Rattle.control.specs.declared.phase.Phase.TheVariants.{Standby, Busy, AwaitsAddress, AwaitsChoice, AwaitsWord, TakesData, SendsByte}
use Rattle.control.specs.declared.phase.Word.{Word}
use Rattle.control.specs.declared.phase.Word.TheVariants.{ArrayFirst, ArraySecond, RegisterFirst, RegisterSecond}
use Rattle.control.specs.declared.phase.Data.{Data}
use Rattle.control.specs.declared.phase.Data.TheVariants.{ToArray, ToSecurity, ToConfiguration, ToLock, ToNowhere}
use Rattle.control.specs.declared.phase.Came.TheVariants.{Zero}
use Rattle.control.specs.declared.phase.Source.TheVariants.{FromArray, FromId}
use Rattle.control.specs.declared.phase.Shown.{Shown}
use Rattle.control.specs.declared.phase.Shown.TheVariants.{ShowsSecurity, ShowsConfiguration, ShowsNothing}
use Rattle.control.specs.Phase.{takes_data}
use Rattle.control.specs.Control.{in_phase, showing}
use Rattle.control.specs.Said.{acked, silent}
use Rattle.addressing.specs.declared.Call.{Call}
use Rattle.addressing.specs.declared.Call.TheVariants.{ReadArray, WriteArray, ReadRegister, WriteRegister, HostF8, HostF9, Nobody}
use Rattle.addressing.specs.Address.{call_of, is_able, source_of, take_call, take_address, take_choice}
use Rattle.addressing.proofs.Laws.{able_call, choice_either, busy_either}
use Rattle.wordaddress.specs.declared.Register.{Register}
use Rattle.wordaddress.specs.declared.Register.TheVariants.{Security, Configuration, Lock, Nowhere}
use Rattle.wordaddress.specs.WordAddress.{register_of, is_lock, take_named, take_word}
use Rattle.taking.specs.Taking.{take_data, take_in, span_data, span_in}
use Rattle.wellformed.specs.Wellformed.{source_fits, data_fits, word_fits, phase_fits, only_data_loads, next_data_runs_on, next_runs_on}
use Rattle.wellformed.proofs.Laws.{below_fits, fits_below}
use Rattle.promises.proofs.Keeping.Fits.{Fits, in_phase_fits, showing_fits, choosing_fits, array_fits, security_fits}
use Rattle.promises.proofs.Keeping.Good.{Good, page, Inside, Unloaded, inside_of, unloaded_of, choice_dropped, moves, standby, loads, emptied_unloaded}

source_fits_lem : (g : Geometry) → g.registers ≡ true → (shown : Shown) → source_fits g (source_of shown) ≡ true
source_fits_lem g has ShowsSecurity = has
source_fits_lem g has ShowsConfiguration = has
source_fits_lem g has ShowsNothing = has

module _ (c : Control) (span : Span) (f : Fits c) (empty : Unloaded c span) where
  abbrev g : Geometry
  g = geometry_of c.part

  call_good : (call : Call) → is_able g call ≡ true → Good (take_call call c).control span
  call_good ReadArray able = moves _ span (choice_dropped c f) empty (SendsByte FromArray) refl refl
  call_good (WriteArray a16) able = moves _ span (choice_dropped c f) empty (AwaitsWord (ArrayFirst a16)) refl refl
  call_good ReadRegister able = moves _ span (choice_dropped c f) empty (SendsByte (source_of c.shown)) (source_fits_lem g able c.shown) refl
  call_good WriteRegister able = moves _ span (choice_dropped c f) empty (AwaitsWord RegisterFirst) able refl
  call_good HostF8 able = moves _ span (choice_dropped c f) empty AwaitsChoice able refl
  call_good HostF9 able =
      either (λ (x : Answered). Good x.control span) c.chosen (acked (SendsByte (FromId 0)) c) (silent Standby c)
      (moves c span f empty (SendsByte (FromId 0)) (and_both _ _ able refl) refl)
      (standby c span f empty)
  call_good Nobody able = standby _ span (choice_dropped c f) empty

  chosen_good : (byte : ℕ) → g.identifies ≡ true → Good (take_choice c byte).control span
  chosen_good byte able =
      choice_either c byte (λ (x : Answered). Good x.control span)
      (choosing_fits (in_phase Standby c) (in_phase_fits c f Standby refl refl) true refl able, (standby c span f empty).1)
      (standby c span f empty)

  -- a chip begins to take data with an empty load
  begins : (d : Control) → Fits d → Unloaded d span → (kind : Data) → data_fits (geometry_of d.part) kind ≡ true → Good (in_phase (TakesData kind) d) span
  begins d fits none kind has = moves d span fits none (TakesData kind) has refl

  named_good : (register : Register) (first byte : ℕ) → g.registers ≡ true → Good (take_named register first c byte).control span
  named_good Security first byte has =
      let set = security_fits c f _ (below_fits _ _ (security_counter_below _ (sound_of c.part) false first byte has)) in
      begins _ (showing_fits _ set ShowsSecurity) empty ToSecurity has
  named_good Configuration first byte has = begins _ (showing_fits c f ShowsConfiguration) empty (ToConfiguration Zero) has
  named_good Lock first byte has =
      either (λ (x : Answered). Good x.control span) c.idlocked (silent Standby c) (acked (TakesData (ToLock false)) (showing ShowsNothing c))
      (standby c span f empty)
      (begins _ (showing_fits c f ShowsNothing) empty (ToLock false) has)
  named_good Nowhere first byte has = begins _ (showing_fits c f ShowsNothing) empty ToNowhere has

  word_good : (word : Word) (byte : ℕ) → word_fits g word ≡ true → Good (take_word word c byte).control span
  word_good (ArrayFirst a16) byte has = moves c span f empty (AwaitsWord (ArraySecond a16 byte)) refl refl
  word_good (ArraySecond a16 first) byte has =
      begins _ (array_fits c f _ (below_fits _ _ (array_counter_below _ (sound_of c.part) a16 first byte))) empty ToArray refl
  word_good RegisterFirst byte has =
      either (λ (x : Answered). Good x.control span) (c.idlocked && is_lock (register_of byte)) (silent Standby c) (acked (AwaitsWord (RegisterSecond byte)) c)
      (standby c span f empty)
      (moves c span f empty (AwaitsWord (RegisterSecond byte)) has refl)
  word_good (RegisterSecond first) byte has = named_good (register_of first) first byte has

module _ (c : Control) (span : Span) (f : Fits c) (inside : Inside c span) where
  sound : Sound (geometry_of c.part)
  sound = sound_of c.part

  lock_good : (geometry_of c.part).registers ≡ true → (locked : Bool) → Good (cond locked (silent Standby c) (acked (TakesData (ToLock true)) c)).control (cond locked (dropped span) span)
  lock_good has true = standby c (dropped span) f (emptied_unloaded c span inside)
  lock_good has false = loads c span f (ToLock true) has inside refl

  -- a byte that is loaded ran on, and the next one will: once over any figures, for the array and for the security register
  data_good : (kind : Data) (byte : ℕ) → data_fits (geometry_of c.part) kind ≡ true → next_data_runs_on kind c span ≡ true → Good (take_data kind c byte).control (span_data kind span c)
  data_good ToArray byte has runs =
      let below : c.arraycounter < (geometry_of c.part).array = fits_below _ _ (array_some sound) f.array in
      let moved = array_fits c f _ (below_fits _ _ (next_inside _ sound c.arraycounter (geometry_of c.part).array sound.array_whole below)) in
      loads _ (grown_at (geometry_of c.part) c.arraycounter span) moved ToArray refl (put_inside _ span inside sound c.arraycounter) (put_runs_on _ span inside sound c.arraycounter runs)
  data_good ToSecurity byte has runs =
      let below : c.securitycounter < (geometry_of c.part).security = fits_below _ _ (security_of_lem sound has) f.security in
      let moved = security_fits c f _ (below_fits _ _ (next_inside _ sound c.securitycounter (geometry_of c.part).security sound.security_whole below)) in
      loads _ (grown_at (geometry_of c.part) c.securitycounter span) moved ToSecurity has (put_inside _ span inside sound c.securitycounter) (put_runs_on _ span inside sound c.securitycounter runs)
  data_good (ToConfiguration came) byte has runs = loads c span f _ has inside refl
  data_good (ToLock some) byte has runs = lock_good has c.idlocked
  data_good ToNowhere byte has runs = loads c span f _ has inside refl

-- what a chip is about is something that its part has
pub about : (phase : Phase) (c : Control) → c.phase ≡ phase → Fits c → phase_fits (geometry_of c.part) phase ≡ true
about phase c is f = subst (λ (phase : Phase). phase_fits (geometry_of c.part) phase ≡ true) is f.place

-- a byte sent
pub take_good : (phase : Phase) (c : Control) (span : Span) (first : Bool) (byte : ℕ) → c.phase ≡ phase → Good c span → Good (take_in phase c first byte).control (span_in phase span c)
unfolding take_address
take_good Standby c span first byte is good = good
take_good Busy c span first byte is good = busy_either c first byte (λ (x : Answered). Good x.control span) good good
take_good AwaitsAddress c span first byte is good = call_good c span good.0 (unloaded_of c span (ap takes_data is) good.1) (call_of (geometry_of c.part) c.strap byte) (able_call _ c.strap byte)
take_good AwaitsChoice c span first byte is good = chosen_good c span good.0 (unloaded_of c span (ap takes_data is) good.1) byte (about AwaitsChoice c is good.0)
take_good (AwaitsWord word) c span first byte is good = word_good c span good.0 (unloaded_of c span (ap takes_data is) good.1) word byte (about (AwaitsWord word) c is good.0)
take_good (TakesData kind) c span first byte is good =
    let clauses : (only_data_loads c span && next_runs_on c.phase c span) ≡ true = and_right (inside_page (page c) span) _ good.1 in
    data_good c span good.0 (inside_of c span good.1) kind byte (about (TakesData kind) c is good.0)
    (subst (λ (phase : Phase). next_runs_on phase c span ≡ true) is (and_right (only_data_loads c span) _ clauses))
take_good (SendsByte source) c span first byte is good = good
