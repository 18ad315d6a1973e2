-- What every setter keeps, every event keeps: the definitions change a chip by setters alone. The ID page is locked only where it is
-- not, and the configuration is written only where LOCK is 0.
use Prim.Native.Nat.{ℕ, ◌%◌}
use mathlib.Core.Bool.{Bool, true, false, cond, not, ◌&&◌}
use mathlib.Core.List.{List}
use mathlib.Core.Path.{◌≡◌}
use borrow.Author.Tests.{not-true}
use Rattle.base.proofs.logic.Laws.{and_right, either_if, either}
use Rattle.parts.specs.Part.{geometry_of}
use Rattle.load.specs.Load.{Load, load_of}
use Rattle.control.specs.declared.Control.{Control}
use Rattle.control.specs.declared.Answered.{Answered}
use Rattle.control.specs.declared.phase.Phase.{Phase}
use Rattle.control.specs.declared.phase.Phase.TheVariants.{Standby, Busy, AwaitsAddress, AwaitsChoice, AwaitsWord, TakesData, SendsByte}
use Rattle.control.specs.declared.phase.Word.{Word}
use Rattle.control.specs.declared.phase.Word.TheVariants.{ArrayFirst, ArraySecond, RegisterFirst, RegisterSecond}
use Rattle.control.specs.declared.phase.Data.{Data}
use Rattle.control.specs.declared.phase.Data.TheVariants.{ToArray, ToSecurity, ToConfiguration, ToLock, ToNowhere}
use Rattle.control.specs.declared.phase.Came.{Came}
use Rattle.control.specs.declared.phase.Came.TheVariants.{Zero, One, Two, Three, More}
use Rattle.control.specs.declared.phase.Source.{Source}
use Rattle.control.specs.declared.phase.Source.TheVariants.{FromArray, FromSecurity, FromConfiguration, FromId, FromNothing}
use Rattle.control.specs.declared.phase.Shown.{Shown}
use Rattle.control.specs.Phase.{is_busy}
use Rattle.control.specs.Control.{in_phase, showing, choosing, arraycounter_at, securitycounter_at, idlocked_now, configured, wp_at}
use Rattle.addressing.specs.declared.Call.{Call}
use Rattle.addressing.specs.declared.Call.TheVariants.{ReadArray, WriteArray, ReadRegister, WriteRegister, HostF8, HostF9, Nobody}
use Rattle.addressing.specs.Address.{call_of, take_call, take_address}
use Rattle.addressing.proofs.Laws.{choice_either, busy_either}
use Rattle.wordaddress.specs.declared.Register.{Register}
use Rattle.wordaddress.specs.declared.Register.TheVariants.{Security, Configuration, Lock, Nowhere}
use Rattle.wordaddress.specs.WordAddress.{register_of, is_lock, take_named, take_word}
use Rattle.taking.specs.Taking.{take_data, take_in, take}
use Rattle.sending.specs.Sending.{moved_past, read_in, read}
use Rattle.sending.proofs.Laws.{read_either}
use Rattle.control.specs.Bits.{configlock}
use Rattle.configuration.specs.Configuration.{confirms, stop_configuration}
use Rattle.cycle.specs.Stop.{writes_array, writes_security, stop_data, stop_in, stop}
use Rattle.cycle.proofs.Laws.{stop_either}
use Rattle.chip.specs.declared.Chip.{Chip}
use Rattle.chip.specs.declared.event.Event.{Event}
use Rattle.chip.specs.declared.event.Event.TheVariants.{Start, Stop, Sent, Read, Wp, CycleOver, PowerUp}
use Rattle.chip.specs.Chip as chip

pub record Closed (P : Control → Type 0) : Type 0 where
  pub phase : (c : Control) (phase : Phase) → P c → P (in_phase phase c)
  pub shown : (c : Control) (shown : Shown) → P c → P (showing shown c)
  pub chosen : (c : Control) (picked : Bool) → P c → P (choosing picked c)
  pub array : (c : Control) (at : ℕ) → P c → P (arraycounter_at at c)
  pub security : (c : Control) (at : ℕ) → P c → P (securitycounter_at at c)
  pub wp : (c : Control) (level : Bool) → P c → P (wp_at level c)
  pub locks : (c : Control) → c.idlocked ≡ false → P c → P (idlocked_now c)
  pub configures : (c : Control) (byte0 byte1 : ℕ) → configlock c ≡ false → P c → P (configured byte0 byte1 c)

module _ (P : Control → Type 0) (closed : Closed P) where
  -- a phase after a choice dropped or made
  after : (c : Control) (picked : Bool) (phase : Phase) → P c → P (in_phase phase (choosing picked c))
  after c picked phase p = closed.phase _ phase (closed.chosen c picked p)

  -- and after a test
  told : (test : Bool) (x y : Answered) → P x.control → P y.control → P (cond test x y).control
  told test x y = either (λ (a : Answered). P a.control) test x y

  call_keeps : (call : Call) (c : Control) → P c → P (take_call call c).control
  call_keeps ReadArray c p = after c false _ p
  call_keeps (WriteArray a16) c p = after c false _ p
  call_keeps ReadRegister c p = after c false _ p
  call_keeps WriteRegister c p = after c false _ p
  call_keeps HostF8 c p = after c false _ p
  call_keeps HostF9 c p = told c.chosen _ _ (closed.phase c _ p) (closed.phase c _ p)
  call_keeps Nobody c p = after c false _ p

  named_keeps : (register : Register) (first : ℕ) (c : Control) (byte : ℕ) → P c → P (take_named register first c byte).control
  named_keeps Security first c byte p = closed.phase _ _ (closed.shown _ _ (closed.security c _ p))
  named_keeps Configuration first c byte p = closed.phase _ _ (closed.shown c _ p)
  named_keeps Lock first c byte p = told c.idlocked _ _ (closed.phase c _ p) (closed.phase _ _ (closed.shown c _ p))
  named_keeps Nowhere first c byte p = closed.phase _ _ (closed.shown c _ p)

  word_keeps : (word : Word) (c : Control) (byte : ℕ) → P c → P (take_word word c byte).control
  word_keeps (ArrayFirst a16) c byte p = closed.phase c _ p
  word_keeps (ArraySecond a16 first) c byte p = closed.phase _ _ (closed.array c _ p)
  word_keeps RegisterFirst c byte p = told (c.idlocked && is_lock (register_of byte)) _ _ (closed.phase c _ p) (closed.phase c _ p)
  word_keeps (RegisterSecond first) c byte p = named_keeps (register_of first) first c byte p

  data_keeps : (kind : Data) (c : Control) (byte : ℕ) → P c → P (take_data kind c byte).control
  data_keeps ToArray c byte p = closed.phase _ _ (closed.array c _ p)
  data_keeps ToSecurity c byte p = closed.phase _ _ (closed.security c _ p)
  data_keeps (ToConfiguration came) c byte p = closed.phase c _ p
  data_keeps (ToLock some) c byte p = told c.idlocked _ _ (closed.phase c _ p) (closed.phase c _ p)
  data_keeps ToNowhere c byte p = closed.phase c _ p

  take_keeps : (phase : Phase) (c : Control) (first : Bool) (byte : ℕ) → P c → P (take_in phase c first byte).control
  unfolding take_address
  take_keeps Standby c first byte p = p
  take_keeps Busy c first byte p = busy_either c first byte (λ (x : Answered). P x.control) p p
  take_keeps AwaitsAddress c first byte p = call_keeps (call_of (geometry_of c.part) c.strap byte) c p
  take_keeps AwaitsChoice c first byte p = choice_either c byte (λ (x : Answered). P x.control) (after c true _ p) (closed.phase c _ p)
  take_keeps (AwaitsWord word) c first byte p = word_keeps word c byte p
  take_keeps (TakesData kind) c first byte p = data_keeps kind c byte p
  take_keeps (SendsByte source) c first byte p = p

  moved_keeps : (source : Source) (c : Control) → P c → P (moved_past source c)
  moved_keeps FromArray c p = closed.array c _ p
  moved_keeps FromSecurity c p = closed.security c _ p
  moved_keeps (FromConfiguration second) c p = closed.phase c _ p
  moved_keeps (FromId place) c p = closed.phase c _ p
  moved_keeps FromNothing c p = p

  read_keeps : (phase : Phase) (c : Control) (array security : List ℕ) (nack : Bool) → P c → P (read_in phase c array security nack).control
  read_keeps phase c array security nack p =
      read_either c array security nack (λ (x : Answered). P x.control) p phase λ source sends.
      either P nack (in_phase Standby (moved_past source c)) (moved_past source c) (closed.phase _ _ (moved_keeps source c p)) (moved_keeps source c p)

  -- where a test that names the lock holds, the lock is open
  came_keeps : (came : Came) (c : Control) → P c → P (stop_configuration came c)
  came_keeps Zero c p = after c false Standby p
  came_keeps (One first) c p = after c false Standby p
  came_keeps (Two first second) c p = after c false Standby p
  came_keeps (Three first second third) c p =
      either_if P (confirms first third && not (configlock c)) _ _
      (λ is. after _ false Busy (closed.configures c (first % 4) second (not-true (configlock c) (and_right (confirms first third) _ is)) p))
      (after c false Standby p)
  came_keeps More c p = after c false Standby p

  ends_keep : (kind : Data) (c : Control) (load : Load) (array security : List ℕ) → P c → P (stop_data kind c load array security).0
  ends_keep ToArray c load array security p =
      either (λ (x : Control × List ℕ). P x.0) (writes_array c load.span) _ _ (after c false Busy p) (after c false Standby p)
  ends_keep ToSecurity c load array security p =
      either (λ (x : Control × List ℕ). P x.0) (writes_security c load.span) _ _ (after c false Busy p) (after c false Standby p)
  ends_keep (ToConfiguration came) c load array security p = came_keeps came c p
  ends_keep (ToLock some) c load array security p =
      either_if P (some && not c.idlocked) _ _
      (λ is. after _ false Busy (closed.locks c (not-true c.idlocked (and_right some _ is)) p))
      (after c false Standby p)
  ends_keep ToNowhere c load array security p = after c false Standby p

  pub stop_keeps : (phase : Phase) (c : Control) (load : Load) (array security : List ℕ) → P c → P (stop_in phase c load array security).0
  stop_keeps phase c load array security p =
      stop_either c load array security (λ (x : Control × List ℕ × List ℕ). P x.0) phase (λ busy. p) (after c false Standby p)
      (λ kind takes. ends_keep kind c load array security p)

  pub step_keeps : (c : Chip) (values array security : List ℕ) (event : Event) → P c.control → P (chip.step c values array security event).0.chip.control
  unfolding chip.step take read stop
  step_keeps c values array security Start p = either (λ (x : Chip). P x.control) (is_busy c.control.phase) c _ p (closed.phase _ _ p)
  step_keeps c values array security Stop p =
      either (λ (x : Chip × List ℕ × List ℕ). P x.0.control) (is_busy c.control.phase) (c, array, security) _ p
      (stop_keeps c.control.phase c.control (load_of c.span values) array security p)
  step_keeps c values array security (Sent first byte) p = take_keeps c.control.phase c.control first byte p
  step_keeps c values array security (Read nack) p = read_keeps c.control.phase c.control array security nack p
  step_keeps c values array security (Wp level) p = closed.wp _ level p
  step_keeps c values array security CycleOver p = either (λ (x : Chip). P x.control) (is_busy c.control.phase) _ c (closed.phase _ _ p) p
  step_keeps c values array security PowerUp p =
      closed.phase _ _ (closed.shown _ _ (closed.security _ _ (closed.array _ _ (closed.chosen _ _ p))))
