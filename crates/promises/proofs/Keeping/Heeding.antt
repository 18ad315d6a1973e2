-- No event but a Start makes a chip await an address byte, and after a Start no chip sends or takes anything else: so what a chip does and what the
-- line remembers stay in step, at every event that the chip does not clash with (request E8). A byte read that were done beside a chip that awaits
-- an address byte would leave it awaiting with no Start remembered; that one is refused (8).
use Prim.Native.Nat.{ℕ}
use mathlib.Core.Bool.{Bool, true, false, not, ◌&&◌}
use mathlib.Core.List.{List}
use mathlib.Core.Path.{◌≡◌, refl, ap}
use Rattle.base.proofs.logic.Laws.{either_if, either}
use Rattle.parts.specs.Part.{geometry_of}
use Rattle.load.specs.Load.{Load, load_of}
use Rattle.control.specs.declared.Control.{Control}
use Rattle.control.specs.declared.Answered.{Answered}
use Rattle.control.specs.declared.phase.Phase.{Phase}
use Rattle.control.specs.declared.phase.Phase.TheVariants.{Standby, Busy, AwaitsAddress, AwaitsChoice, AwaitsWord, TakesData, SendsByte}
use Rattle.control.specs.declared.phase.Word.{Word}
use Rattle.control.specs.declared.phase.Word.TheVariants.{ArrayFirst, ArraySecond, RegisterFirst, RegisterSecond}
use Rattle.control.specs.declared.phase.Data.{Data}
use Rattle.control.specs.declared.phase.Data.TheVariants.{ToArray, ToSecurity, ToConfiguration, ToLock, ToNowhere}
use Rattle.control.specs.declared.phase.Came.{Came}
use Rattle.control.specs.declared.phase.Came.TheVariants.{Zero, One, Two, Three, More}
use Rattle.control.specs.declared.phase.Source.{Source}
use Rattle.control.specs.declared.phase.Source.TheVariants.{FromArray, FromSecurity, FromConfiguration, FromId, FromNothing}
use Rattle.control.specs.Phase.{is_busy, awaits_address}
use Rattle.control.specs.Bits.{configlock}
use Rattle.control.proofs.phase.Laws.{busy_is, not_taking_is}
use Rattle.addressing.specs.declared.Call.{Call}
use Rattle.addressing.specs.declared.Call.TheVariants.{ReadArray, WriteArray, ReadRegister, WriteRegister, HostF8, HostF9, Nobody}
use Rattle.addressing.specs.Address.{call_of, take_call, take_address}
use Rattle.addressing.proofs.Laws.{choice_either, busy_either}
use Rattle.wordaddress.specs.declared.Register.{Register}
use Rattle.wordaddress.specs.declared.Register.TheVariants.{Security, Configuration, Lock, Nowhere}
use Rattle.wordaddress.specs.WordAddress.{register_of, is_lock, take_named, take_word}
use Rattle.taking.specs.Taking.{take_data, take_in, take}
use Rattle.sending.specs.Sending.{moved_past, read_in, read}
use Rattle.sending.proofs.Laws.{read_either}
use Rattle.configuration.specs.Configuration.{confirms, stop_configuration}
use Rattle.cycle.specs.Stop.{writes_array, writes_security, stop_data, stop_in, stop}
use Rattle.cycle.proofs.Laws.{stop_either}
use Rattle.chip.specs.declared.Chip.{Chip}
use Rattle.chip.specs.declared.event.Event.{Event}
use Rattle.chip.specs.declared.event.Event.TheVariants.{Start, Stop, Sent, Read, Wp, CycleOver, PowerUp}
use Rattle.chip.specs.Chip as chip
use Rattle.wellformed.specs.Wellformed.{heeds_start}
use Rattle.decode.specs.Hearing.{clashes_with}
use Rattle.bus.specs.Step.{remembers}

-- it awaits no address byte
abbrev Past : Control → Type 0
Past c = awaits_address c.phase ≡ false

abbrev PastIt : Answered → Type 0
PastIt answered = Past answered.control

-- a byte sent
module _ (c : Control) (byte : ℕ) where
  call_past : (call : Call) → PastIt (take_call call c)
  call_past ReadArray = refl
  call_past (WriteArray a16) = refl
  call_past ReadRegister = refl
  call_past WriteRegister = refl
  call_past HostF8 = refl
  call_past HostF9 = either PastIt c.chosen _ _ refl refl
  call_past Nobody = refl

  named_past : (first : ℕ) (register : Register) → PastIt (take_named register first c byte)
  named_past first Security = refl
  named_past first Configuration = refl
  named_past first Lock = either PastIt c.idlocked _ _ refl refl
  named_past first Nowhere = refl

  word_past : (word : Word) → PastIt (take_word word c byte)
  word_past (ArrayFirst a16) = refl
  word_past (ArraySecond a16 first) = refl
  word_past RegisterFirst = either PastIt (c.idlocked && is_lock (register_of byte)) _ _ refl refl
  word_past (RegisterSecond first) = named_past first (register_of first)

  data_past : (kind : Data) → PastIt (take_data kind c byte)
  data_past ToArray = refl
  data_past ToSecurity = refl
  data_past (ToConfiguration came) = refl
  data_past (ToLock some) = either PastIt c.idlocked _ _ refl refl
  data_past ToNowhere = refl

  take_past : (first : Bool) (phase : Phase) → c.phase ≡ phase → PastIt (take_in phase c first byte)
  unfolding take_address
  take_past first Standby is = ap awaits_address is
  take_past first Busy is = busy_either c first byte PastIt (ap awaits_address is) (ap awaits_address is)
  take_past first AwaitsAddress is = call_past (call_of (geometry_of c.part) c.strap byte)
  take_past first AwaitsChoice is = choice_either c byte PastIt refl refl
  take_past first (AwaitsWord word) is = word_past word
  take_past first (TakesData kind) is = data_past kind
  take_past first (SendsByte source) is = ap awaits_address is

-- a byte read
moved_past_lem : (source : Source) (c : Control) → Past c → Past (moved_past source c)
moved_past_lem FromArray c past = past
moved_past_lem FromSecurity c past = past
moved_past_lem (FromConfiguration second) c past = refl
moved_past_lem (FromId place) c past = refl
moved_past_lem FromNothing c past = past

read_past : (c : Control) (array security : List ℕ) (nack : Bool) → Past c → PastIt (read_in c.phase c array security nack)
read_past c array security nack past =
    read_either c array security nack PastIt past c.phase λ source sends. either Past nack _ (moved_past source c) refl (moved_past_lem source c past)

-- a Stop
module _ (c : Control) (load : Load) (array security : List ℕ) where
  came_past : (came : Came) → Past (stop_configuration came c)
  came_past Zero = refl
  came_past (One first) = refl
  came_past (Two first second) = refl
  came_past (Three first second third) = either Past (confirms first third && not (configlock c)) _ _ refl refl
  came_past More = refl

  ends_past : (kind : Data) → Past (stop_data kind c load array security).0
  ends_past ToArray = either (λ (x : Control × List ℕ). Past x.0) (writes_array c load.span) _ _ refl refl
  ends_past ToSecurity = either (λ (x : Control × List ℕ). Past x.0) (writes_security c load.span) _ _ refl refl
  ends_past (ToConfiguration came) = came_past came
  ends_past (ToLock some) = either Past (some && not c.idlocked) _ _ refl refl
  ends_past ToNowhere = refl

  stop_past : Past (stop_in c.phase c load array security).0
  stop_past =
      stop_either c load array security (λ (x : Control × List ℕ × List ℕ). Past x.0) c.phase (ap awaits_address) refl (λ kind takes. ends_past kind)

-- every event, by what the line remembers after it
module _ (c : Chip) (values array security : List ℕ) (started : Bool) (heeds : heeds_start started c.control.phase ≡ true) where
  abbrev Heeds : Bool → Chip → Type 0
  Heeds now d = heeds_start now d.control.phase ≡ true

  pub heeds_kept : (event : Event) → clashes_with event c.control.phase ≡ false
      → heeds_start (remembers event started) (chip.step c values array security event).0.chip.control.phase ≡ true
  unfolding chip.step take read stop
  heeds_kept Start calm = either_if (Heeds true) (is_busy c.control.phase) c _ (λ busy. ap (heeds_start true) (busy_is c.control.phase busy)) refl
  heeds_kept Stop calm =
      either_if (λ (x : Chip × List ℕ × List ℕ). Heeds false x.0) (is_busy c.control.phase) (c, array, security) _
      (λ busy. ap (heeds_start false) (busy_is c.control.phase busy))
      (ap not (stop_past c.control (load_of c.span values) array security))
  heeds_kept (Sent first byte) calm = ap not (take_past c.control byte first c.control.phase refl)
  heeds_kept (Read nack) calm =
      ap not (read_past c.control array security nack (not_taking_is c.control.phase calm (λ (phase : Phase). awaits_address phase ≡ false) refl refl (λ source. refl)))
  heeds_kept (Wp level) calm = heeds
  heeds_kept CycleOver calm = either (Heeds started) (is_busy c.control.phase) _ c (either (λ (heeds : Bool). heeds ≡ true) started true true refl refl) heeds
  heeds_kept PowerUp calm = refl
