-- What a chip says to a byte sent: in each phase but busy, and for each call, word and kind of data, it acknowledges or says nothing. A busy one is
-- occupied, where the byte is the first after a Start and names it, or says nothing. So no chip sends a byte then.
use Prim.Native.Nat.{ℕ}
use mathlib.Core.Bool.{Bool, true, false, cond, ◌&&◌, false≢true}
use mathlib.Core.List.{List}
use mathlib.Core.Path.{◌≡◌, refl, ap}
use Rattle.base.proofs.logic.Laws.{either}
use Rattle.parts.specs.Part.{geometry_of}
use Rattle.control.specs.declared.Control.{Control}
use Rattle.control.specs.declared.Answered.{Answered}
use Rattle.control.specs.declared.Said.{Said}
use Rattle.control.specs.declared.Said.TheVariants.{Nothing, Ack, Occupied, Byte}
use Rattle.control.specs.declared.phase.Phase.{Phase}
use Rattle.control.specs.declared.phase.Phase.TheVariants.{Standby, Busy, AwaitsAddress, AwaitsChoice, AwaitsWord, TakesData, SendsByte}
use Rattle.control.specs.declared.phase.Word.{Word}
use Rattle.control.specs.declared.phase.Word.TheVariants.{ArrayFirst, ArraySecond, RegisterFirst, RegisterSecond}
use Rattle.control.specs.declared.phase.Data.{Data}
use Rattle.control.specs.declared.phase.Data.TheVariants.{ToArray, ToSecurity, ToConfiguration, ToLock, ToNowhere}
use Rattle.addressing.specs.declared.Call.{Call}
use Rattle.addressing.specs.declared.Call.TheVariants.{ReadArray, WriteArray, ReadRegister, WriteRegister, HostF8, HostF9, Nobody}
use Rattle.control.specs.Phase.{is_busy}
use Rattle.control.specs.Said.{occupied, stays}
use Rattle.addressing.specs.Address.{call_of, names, take_call, take_address, take_busy}
use Rattle.addressing.proofs.Laws.{choice_either, busy_either}
use Rattle.wordaddress.specs.declared.Register.{Register}
use Rattle.wordaddress.specs.declared.Register.TheVariants.{Security, Configuration, Lock, Nowhere}
use Rattle.wordaddress.specs.WordAddress.{register_of, is_lock, take_named, take_word}
use Rattle.taking.specs.Taking.{take_data, take_in, take}
use Rattle.chip.specs.declared.Chip.{Chip}
use Rattle.chip.specs.declared.event.Event.TheVariants.{Sent}
use Rattle.chip.specs.Chip.{step}

-- what holds of silence and of an acknowledge holds of what a chip says that is not busy
module _ (P : Said → Type 0) (nothing : P Nothing) (ack : P Ack) (c : Control) (byte : ℕ) where
  abbrev Says : Answered → Type 0
  Says answered = P answered.said

  to_call : (call : Call) → Says (take_call call c)
  to_call ReadArray = ack
  to_call (WriteArray a16) = ack
  to_call ReadRegister = ack
  to_call WriteRegister = ack
  to_call HostF8 = ack
  to_call HostF9 = either Says c.chosen _ _ ack nothing
  to_call Nobody = nothing

  to_named : (first : ℕ) (register : Register) → Says (take_named register first c byte)
  to_named first Security = ack
  to_named first Configuration = ack
  to_named first Lock = either Says c.idlocked _ _ nothing ack
  to_named first Nowhere = ack

  to_word : (word : Word) → Says (take_word word c byte)
  to_word (ArrayFirst a16) = ack
  to_word (ArraySecond a16 first) = ack
  to_word RegisterFirst = either Says (c.idlocked && is_lock (register_of byte)) _ _ nothing ack
  to_word (RegisterSecond first) = to_named first (register_of first)

  to_data : (kind : Data) → Says (take_data kind c byte)
  to_data ToArray = ack
  to_data ToSecurity = ack
  to_data (ToConfiguration came) = ack
  to_data (ToLock some) = either Says c.idlocked _ _ nothing ack
  to_data ToNowhere = ack

  to_byte : (first : Bool) → (c.phase ≡ Busy → Says (take_busy c first byte)) → (phase : Phase) → c.phase ≡ phase → Says (take_in phase c first byte)
  unfolding take_address
  to_byte first busy Standby is = nothing
  to_byte first busy Busy is = busy is
  to_byte first busy AwaitsAddress is = to_call (call_of (geometry_of c.part) c.strap byte)
  to_byte first busy AwaitsChoice is = choice_either c byte Says ack nothing
  to_byte first busy (AwaitsWord word) is = to_word word
  to_byte first busy (TakesData kind) is = to_data kind
  to_byte first busy (SendsByte source) is = nothing

abbrev pub is_byte : Said → Bool
is_byte Nothing = false
is_byte Ack = false
is_byte Occupied = false
is_byte (Byte byte) = true

abbrev pub is_occupied : Said → Bool
is_occupied Nothing = false
is_occupied Ack = false
is_occupied Occupied = true
is_occupied (Byte byte) = false

module _ (c : Chip) (values array security : List ℕ) (first : Bool) (byte : ℕ) where
  pub sent_no_byte : is_byte (step c values array security (Sent first byte)).0.said ≡ false
  unfolding step take
  sent_no_byte =
      to_byte (λ (said : Said). is_byte said ≡ false) refl refl c.control byte first
      (λ busy. busy_either c.control first byte (λ (x : Answered). is_byte x.said ≡ false) refl refl)
      c.control.phase refl

  -- only a busy chip says that it is occupied, to a first byte that names it
  pub sent_occupied : (step c values array security (Sent first byte)).0.said ≡ Occupied
      → (first ≡ true) × (is_busy c.control.phase ≡ true) × (names byte c.control ≡ true)
  unfolding step take take_busy
  sent_occupied =
      to_byte (λ (said : Said). said ≡ Occupied → (first ≡ true) × (is_busy c.control.phase ≡ true) × (names byte c.control ≡ true)) (λ is. absurd (false≢true (ap is_occupied is))) (λ is. absurd (false≢true (ap is_occupied is))) c.control byte first
      (λ busy. go first (names byte c.control) (ap is_busy busy))
      c.control.phase refl
    where
      go : (first named : Bool) → is_busy c.control.phase ≡ true → (cond (first && named) (occupied c.control) (stays c.control)).said ≡ Occupied
          → (first ≡ true) × (is_busy c.control.phase ≡ true) × (named ≡ true)
      go true true busy is = (refl, busy, refl)
      go true false busy is = absurd (false≢true (ap is_occupied is))
      go false named busy is = absurd (false≢true (ap is_occupied is))
