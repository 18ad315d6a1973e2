-- Any chip: a Stop leaves it at rest, and so does an event that names it where it was at rest; a Start, and F8h behind it, leave it sending
-- nothing.
use Prim.Native.Nat.{ℕ, ◌%◌}
use mathlib.Core.Bool.{Bool, true, false, cond, not, ◌&&◌, ◌||◌, and-false, false≢true}
use mathlib.Core.List.{List}
use mathlib.Core.Path.{◌≡◌, refl, ap}
use Rattle.base.proofs.logic.Laws.{and_left, and_right, or_right, or_either, either_if, either}
use Rattle.parts.specs.declared.part.Geometry.{Geometry}
use Rattle.parts.specs.Part.{geometry_of}
use Rattle.load.specs.Span.{is_empty, dropped}
use Rattle.load.specs.Load.{Load, load_of}
use Rattle.control.specs.declared.Control.{Control}
use Rattle.control.specs.declared.Answered.{Answered}
use Rattle.control.specs.declared.Said.TheVariants.{Nothing, Ack}
use Rattle.control.specs.declared.phase.Phase.{Phase}
use Rattle.control.specs.declared.phase.Phase.TheVariants.{Busy, AwaitsAddress}
use Rattle.control.specs.declared.phase.Data.{Data}
use Rattle.control.specs.declared.phase.Data.TheVariants.{ToArray, ToSecurity, ToConfiguration, ToLock, ToNowhere}
use Rattle.control.specs.declared.phase.Came.{Came}
use Rattle.control.specs.declared.phase.Came.TheVariants.{Zero, One, Two, Three, More}
use Rattle.control.specs.Phase.{is_busy, takes_data, is_sending, is_taking, awaits_address}
use Rattle.control.specs.Control.{idlocked_now, configured}
use Rattle.control.specs.Exchange.{standby_now, busy_now}
use Rattle.control.specs.Said.{occupied, stays}
use Rattle.control.specs.Bits.{configlock}
use Rattle.control.proofs.phase.Laws.{busy_is, awaits_address_is}
use Rattle.configuration.specs.Configuration.{confirms, stop_configuration}
use Rattle.addressing.specs.declared.Call.{Call}
use Rattle.addressing.specs.declared.Call.TheVariants.{HostF8, Nobody}
use Rattle.addressing.specs.Address.{call_by_form, call_of, take_call, take_address, is_named, take_busy}
use Rattle.addressing.proofs.Laws.{busy_either}
use Rattle.taking.specs.Taking as taking
use Rattle.cycle.specs.Stop.{writes_array, writes_security, stop_data, stop}
use Rattle.cycle.proofs.Laws.{stop_either}
use Rattle.chip.specs.declared.Chip.{Chip}
use Rattle.chip.specs.declared.event.Event.{Event}
use Rattle.chip.specs.declared.event.Event.TheVariants.{Start, Stop, Sent, Read, Wp, CycleOver, PowerUp}
use Rattle.chip.specs.Chip.{step}
use Rattle.wellformed.specs.Wellformed.{busy_not_chosen, control_fits, well_formed}
use Rattle.promises.proofs.Keeping.Fits.{apart}
use Rattle.promises.proofs.Keeping.Good.{unloaded_of}
use Rattle.promises.proofs.Keeping.Beside.{names_a_chip}
use Rattle.turns.specs.Idle.{is_at_rest}
use Rattle.turns.specs.Undisturbed.{is_free}
use Rattle.turns.proofs.Bystander.{woken}

-- a Stop ends the exchange without a cycle or with one, and the load is gone
module _ (held : Load) where
  abbrev Rests : Control → Type 0
  Rests c = is_at_rest (record { control = c; span = dropped held.span }) ≡ true

  standby_now_rests : (c : Control) → Rests (standby_now c)
  standby_now_rests c = refl

  busy_now_rests : (c : Control) → Rests (busy_now c)
  busy_now_rests c = refl

  came_rests : (came : Came) (c : Control) → Rests (stop_configuration came c)
  came_rests Zero c = standby_now_rests c
  came_rests (One first) c = standby_now_rests c
  came_rests (Two first second) c = standby_now_rests c
  came_rests (Three first second third) c =
      either Rests (confirms first third && not (configlock c)) _ _ (busy_now_rests (configured (first % 4) second c)) (standby_now_rests c)
  came_rests More c = standby_now_rests c

  data_rests : (kind : Data) (c : Control) (a s : List ℕ) → Rests (stop_data kind c held a s).0
  data_rests ToArray c a s = either (λ (x : Control × List ℕ). Rests x.0) (writes_array c held.span) _ _ (busy_now_rests c) (standby_now_rests c)
  data_rests ToSecurity c a s = either (λ (x : Control × List ℕ). Rests x.0) (writes_security c held.span) _ _ (busy_now_rests c) (standby_now_rests c)
  data_rests (ToConfiguration came) c a s = came_rests came c
  data_rests (ToLock some) c a s = either Rests (some && not c.idlocked) _ _ (busy_now_rests (idlocked_now c)) (standby_now_rests c)
  data_rests ToNowhere c a s = standby_now_rests c

-- a busy chip takes no notice, but it is not chosen and holds no load
pub stop_rests : (c : Chip) (v a s : List ℕ) → well_formed c ≡ true → is_at_rest (step c v a s Stop).0.chip ≡ true
unfolding step stop well_formed
stop_rests c v a s formed =
    either_if (λ (x : Chip × List ℕ × List ℕ). is_at_rest x.0 ≡ true) (is_busy c.control.phase) (c, a, s) _
    (λ busy. let is = busy_is c.control.phase busy in rw (is, empty is, rw is at unchosen))
    (stop_either c.control (load_of c.span v) a s (λ (x : Control × List ℕ × List ℕ). Rests (load_of c.span v) x.0) c.control.phase
    (λ is. rw (is, rw is at unchosen))
    (standby_now_rests (load_of c.span v) c.control)
    (λ kind takes. data_rests (load_of c.span v) kind c.control a s))
  where
    empty : c.control.phase ≡ Busy → is_empty c.span ≡ true
    empty is = (unloaded_of c.control c.span (ap takes_data is) (and_right (control_fits c.control) _ formed)).1

    unchosen : busy_not_chosen c.control ≡ true
    unchosen = (apart c.control (and_left _ _ formed)).busy

pub named_rests : (c : Chip) (v a s : List ℕ) (event : Event) → names_a_chip event ≡ true → is_at_rest c ≡ true → is_at_rest (step c v a s event).0.chip ≡ true
unfolding step
named_rests c v a s Start named rest = absurd (false≢true named)
named_rests c v a s Stop named rest = absurd (false≢true named)
named_rests c v a s (Sent first byte) named rest = absurd (false≢true named)
named_rests c v a s (Read nack) named rest = absurd (false≢true named)
named_rests c v a s (Wp level) named rest = rest
named_rests c v a s CycleOver named rest =
    either (λ (d : Chip). is_at_rest d ≡ true) (is_busy c.control.phase) _ c
    (and_right (not (is_sending c.control.phase) && not (is_taking c.control.phase)) _ rest)
    rest
named_rests c v a s PowerUp named rest = absurd (false≢true named)

-- a chip awaits an address byte or is busy: so after a Start, and then F8h leaves it sending nothing
abbrev pub is_heeding : Phase → Bool
is_heeding phase = awaits_address phase || is_busy phase

pub start_heeds : (c : Chip) (v a s : List ℕ) → is_heeding (step c v a s Start).0.chip.control.phase ≡ true
unfolding step
start_heeds c v a s = go (is_busy c.control.phase) refl
  where
    go : (busy : Bool) → is_busy c.control.phase ≡ busy → is_heeding (cond busy c (woken AwaitsAddress c)).control.phase ≡ true
    go true is = or_right (awaits_address c.control.phase) _ is
    go false is = refl

heeds : (phase : Phase) → is_heeding phase ≡ true → (P : Phase → Type 0) → P AwaitsAddress → P Busy → P phase
heeds phase heeding P address busy =
    or_either (awaits_address phase) (is_busy phase) heeding
    (λ awaits. rw (awaits_address_is phase awaits) address)
    (λ is. rw (busy_is phase is) busy)

pub heeding_sends_nothing : (phase : Phase) → is_heeding phase ≡ true → is_sending phase ≡ false
heeding_sends_nothing phase heeding = heeds phase heeding (λ (p : Phase). is_sending p ≡ false) refl refl

-- F8h names no chip, so it is the same to a busy one whether it is the first byte after a Start or not; and it is for a chip that identifies itself
module _ (c : Chip) (v a s : List ℕ) (first : Bool) (heeding : is_heeding c.control.phase ≡ true) where
  abbrev figures : Geometry
  figures = geometry_of c.control.part

  f8_called : (P : Bool → Call → Type 0) → P true HostF8 → P false Nobody → P figures.identifies (call_of figures c.control.strap 0xF8)
  unfolding call_of call_by_form
  f8_called P for_it for_nobody = go figures.identifies
    where
      go : (able : Bool) → P able (cond able HostF8 Nobody)
      go true = for_it
      go false = for_nobody

  pub f8_heeds : is_sending (step c v a s (Sent first 0xF8)).0.chip.control.phase ≡ false
  unfolding step taking.take take_address
  f8_heeds =
      heeds c.control.phase heeding (λ (p : Phase). is_sending (taking.take_in p c.control first 0xF8).control.phase ≡ false)
      (f8_called (λ (able : Bool) (call : Call). is_sending (take_call call c.control).control.phase ≡ false) refl refl)
      (busy_either c.control first 0xF8 (λ (x : Answered). is_sending x.control.phase ≡ false) awake awake)
    where
      awake : is_sending c.control.phase ≡ false
      awake = heeding_sends_nothing c.control.phase heeding

  pub f8_said : (step c v a s (Sent first 0xF8)).0.said ≡ cond (is_free c.control) Ack Nothing
  unfolding step taking.take take_address take_busy
  f8_said =
      heeds c.control.phase heeding (λ (p : Phase). (taking.take_in p c.control first 0xF8).said ≡ cond (figures.identifies && not (is_busy p)) Ack Nothing)
      (f8_called (λ (able : Bool) (call : Call). (take_call call c.control).said ≡ cond (able && true) Ack Nothing) refl refl)
      (f8_called (λ (able : Bool) (call : Call). (cond (first && is_named call) (occupied c.control) (stays c.control)).said ≡ cond (able && false) Ack Nothing)
      (rw (and-false first))
      (rw (and-false first)))
