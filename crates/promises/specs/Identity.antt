-- Reading the Device ID: F9h, and then bytes that the host acknowledges (paper, "Device ID"; request E5).
use Rattle.std.specs.Prelude.{ℕ, ◌%◌, Bool, true, false, cond, List, ◌∷◌, ◌≡◌, replicate}
use Rattle.base.specs.Word.{word_of}
use Rattle.parts.specs.Part.{geometry_of}
use Rattle.control.specs.declared.Control.{Control}
use Rattle.control.specs.declared.phase.Phase.TheVariants.{AwaitsAddress}
use Rattle.sending.specs.Sending.{id_byte}
use Rattle.chip.specs.declared.event.Event.{Event}
use Rattle.chip.specs.declared.event.Event.TheVariants.{Sent, Read}

-- a chip that F9h is for: it is chosen, and awaits an address byte
pub record IsAsked (c : Control) : Type 0 where
  pub chosen : c.chosen ≡ true
  pub awaits : c.phase ≡ AwaitsAddress

-- a byte read, which the host acknowledges or answers with a NACK
abbrev pub read_word : Bool → ℕ
read_word nack = word_of 4 (cond nack 1 0)

-- F9h and n bytes read, all acknowledged: as events at a chip, and as words on the line
abbrev pub id_events : ℕ → List Event
id_events n = Sent true 0xF9 ∷ replicate n (Read false)

abbrev pub id_words : ℕ → List ℕ
id_words n = word_of 3 0xF9 ∷ replicate n (read_word false)

-- the ID byte at n modulo 3
abbrev pub round_byte : Control → ℕ → ℕ
round_byte c n = id_byte (geometry_of c.part) (n % 3)
