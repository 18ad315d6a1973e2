-- What no event changes: the part and the strap; a locked ID page stays locked; once LOCK is set, the configuration stays as it is.
use Prim.Native.Nat.{ℕ}
use mathlib.Core.Bool.{Bool, true, false, false≢true}
use mathlib.Core.List.{List}
use mathlib.Core.Path.{◌≡◌, ◌∙◌, refl, sym, ap}
use Rattle.base.specs.Bit.{bit_of}
use Rattle.control.specs.declared.Control.{Control}
use Rattle.control.specs.Control.{idlocked_now, configured}
use Rattle.control.specs.Bits.{configlock}
use Rattle.chip.specs.declared.Chip.{Chip}
use Rattle.chip.specs.declared.event.Event.{Event}
use Rattle.chip.specs.Chip.{step}
use Rattle.promises.proofs.Keeping.Closed.{Closed, step_keeps}

-- a chip's part and strap, the lock of its ID page, its configuration
pub record Registers : Type 0 where
  pub part : ℕ
  pub strap : ℕ
  pub idlocked : Bool
  pub config0 : ℕ
  pub config1 : ℕ

abbrev registers : Control → Registers
registers c = record { part = c.part; strap = c.strap; idlocked = c.idlocked; config0 = c.config0; config1 = c.config1 }

-- all setters but two leave them
pub leave : (Q : Registers → Type 0)
    → ((c : Control) → c.idlocked ≡ false → Q (registers c) → Q (registers (idlocked_now c)))
    → ((c : Control) (byte0 byte1 : ℕ) → configlock c ≡ false → Q (registers c) → Q (registers (configured byte0 byte1 c)))
    → Closed (λ (c : Control). Q (registers c))
leave Q locks configures =
    record {
      phase = λ c phase is. is;
      shown = λ c shown is. is;
      chosen = λ c picked is. is;
      array = λ c at is. is;
      security = λ c at is. is;
      wp = λ c level is. is;
      locks = locks;
      configures = configures;
    }

-- the chip as it stands after an event
abbrev pub next : Chip → List ℕ → List ℕ → List ℕ → Event → Control
next c values array security event = (step c values array security event).0.chip.control

module _ (c : Chip) (values array security : List ℕ) (event : Event) where
  keep : (Q : Registers → Type 0) → Closed (λ (d : Control). Q (registers d)) → Q (registers c.control) → Q (registers (next c values array security event))
  keep Q closed = step_keeps (λ (d : Control). Q (registers d)) closed c values array security event

  pub part_kept : (next c values array security event).part ≡ c.control.part
  part_kept =
      let Q : Registers → Type 0 = λ r. r.part ≡ c.control.part in
      keep Q (leave Q (λ d free is. is) (λ d byte0 byte1 free is. is)) refl

  pub strap_kept : (next c values array security event).strap ≡ c.control.strap
  strap_kept =
      let Q : Registers → Type 0 = λ r. r.strap ≡ c.control.strap in
      keep Q (leave Q (λ d free is. is) (λ d byte0 byte1 free is. is)) refl

  pub id_lock_kept : c.control.idlocked ≡ true → (next c values array security event).idlocked ≡ true
  id_lock_kept is_locked =
      let Q : Registers → Type 0 = λ r. r.idlocked ≡ true in
      keep Q (leave Q (λ d free is. refl) (λ d byte0 byte1 free is. is)) is_locked

  pub configuration_lock_kept : configlock c.control ≡ true → ((next c values array security event).config0 ≡ c.control.config0) × ((next c values array security event).config1 ≡ c.control.config1)
  configuration_lock_kept is_locked =
      let Q : Registers → Type 0 = λ r. (r.config0 ≡ c.control.config0) × (r.config1 ≡ c.control.config1) in
      keep Q (leave Q (λ d free is. is) (λ d byte0 byte1 free is. absurd (false≢true (sym free ∙ ap (λ (byte : ℕ). bit_of byte 0) is.0 ∙ is_locked)))) (refl, refl)
