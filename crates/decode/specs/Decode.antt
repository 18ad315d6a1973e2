-- What an event word asks for: kind times 256 plus value (paper, "Events and replies").
use Rattle.std.specs.Prelude.{ℕ, Bool, true, false, cond, not, ◌&&◌, List, [], ◌∷◌, eqb, ltb, leb}
use Rattle.base.specs.Word.{high_of, low_of}
use Rattle.refusal.specs.declared.Refusal.{Refusal}
use Rattle.refusal.specs.declared.Refusal.TheVariants.{UnknownKind, WrongValue}
use Rattle.chip.specs.declared.event.Event.{Event}
use Rattle.chip.specs.declared.event.Event.TheVariants.{Start, Stop, Sent, Read, Wp, CycleOver, PowerUp}
use Rattle.decode.specs.declared.Addressed.{Addressed}
use Rattle.decode.specs.declared.Addressed.TheVariants.{ToAll, ToOne}

abbrev pub kind_of : ℕ → ℕ
kind_of word = high_of word

abbrev pub value_of : ℕ → ℕ
value_of word = low_of word

-- event kind not 01 to 08
abbrev pub unknown_kind : ℕ → Bool
unknown_kind kind = not (leb 1 kind && leb kind 8)

-- 03 takes any byte, 04 takes 00 or 01, 05 to 07 take a chip, the others take 00
abbrev pub value_allowed : ℕ → ℕ → ℕ → Bool
value_allowed count kind value =
    cond (eqb kind 3) true
    (cond (eqb kind 4) (leb value 1)
    (cond (leb 5 kind && leb kind 7) (ltb value count)
    (eqb value 0)))

abbrev pub decode_checks : ℕ → ℕ → List (Bool × Refusal)
decode_checks count word =
    (unknown_kind (kind_of word), UnknownKind) ∷ (not (value_allowed count (kind_of word) (value_of word)), WrongValue) ∷ []

-- | 01 Start | 02 Stop | 03 host sends a byte | 04 host reads one, and with 01 NACKs | 05, 06 WP low, high | 07 write cycle over |
-- 08 power up |, of kinds and values that are allowed. A byte sent while a Start is remembered is the first after it (request E8)
abbrev pub addressed_in : Bool → ℕ → ℕ → Addressed
addressed_in started kind value =
    cond (eqb kind 1) (ToAll Start)
    (cond (eqb kind 2) (ToAll Stop)
    (cond (eqb kind 3) (ToAll (Sent started value))
    (cond (eqb kind 4) (ToAll (Read (eqb value 1)))
    (cond (eqb kind 5) (ToOne value (Wp false))
    (cond (eqb kind 6) (ToOne value (Wp true))
    (cond (eqb kind 7) (ToOne value CycleOver)
    (ToAll PowerUp)))))))

unfoldable pub addressed_of : Bool → ℕ → Addressed
addressed_of started word = addressed_in started (kind_of word) (value_of word)

-- every event goes to every chip, but 05 to 07 to the chip named
abbrev pub reaches : Addressed → ℕ → Bool
reaches (ToAll event) i = true
reaches (ToOne named event) i = eqb i named

abbrev pub event_of : Addressed → Event
event_of (ToAll event) = event
event_of (ToOne named event) = event
