-- The chips beside k when its turn begins, and how each of them sits through each event of the turn.
use Prim.Native.Nat.{ℕ, ◌<◌}
use mathlib.Core.Bool.{Bool, true, false, cond}
use mathlib.Core.List.{List}
use mathlib.Core.Path.{◌≡◌, refl}
use borrow.Author.Tests.{ne_eqb}
use Rattle.parts.specs.Part.{geometry_of}
use Rattle.parts.specs.Address.{share_address}
use Rattle.control.specs.declared.Said.{Said}
use Rattle.control.specs.declared.Said.TheVariants.{Nothing, Ack}
use Rattle.chip.specs.declared.Chip.{Chip}
use Rattle.chip.specs.declared.event.Event.{Event}
use Rattle.chip.specs.declared.event.Event.TheVariants.{Start, Stop, Sent, Read}
use Rattle.board.specs.declared.Place.{Place}
use Rattle.decode.specs.declared.Addressed.TheVariants.{ToAll, ToOne}
use Rattle.lineup.specs.Chips.{chip_at, control_at}
use Rattle.promises.specs.Playing.{World}
use Rattle.turns.specs.Idle.{is_at_rest}
use Rattle.turns.specs.Turn.{Anything, AddressByte, ChoiceByte, is_address_of, is_first_byte}
use Rattle.turns.specs.Alone.{alone}
use Rattle.turns.specs.Undisturbed.{is_free}
use Rattle.turns.proofs.Bystander.{hears_start, hears_f8, passes_first, passes_choice, passes_byte, passes_read, passes_stop, rest_clashes, waiting_sends_nothing, waiting_unloaded}
use Rattle.turns.proofs.During.{SitsThrough}

-- what they say to most events, and to F8h
abbrev pub silent : Chip → Said
silent c = Nothing

abbrev pub to_f8 : Chip → Said
to_f8 c = cond (is_free c.control) Ack Nothing

-- the chips beside k when its turn begins: at rest, and no address byte of k is theirs
pub record Others (k : ℕ) (place : Place) (began : World) : Type 0 where
  pub below : k < began.0.count
  pub at_rest : (j : ℕ) → j < began.0.count → is_at_rest (chip_at began.0.chips j) ≡ true
  pub unshared : (j : ℕ) → j < began.0.count → (j ≡ k → ⊥)
      → let c = control_at began.0.chips j in share_address (geometry_of place.part) place.strap (geometry_of c.part) c.strap ≡ false

-- how each event of the turn is sat through
module _ (k : ℕ) (place : Place) (began : World) (b : Others k place began) (j : ℕ) (before : j < began.0.count) (differ : j ≡ k → ⊥) where
  abbrev c : Chip
  c = chip_at began.0.chips j

  abbrev a : List ℕ
  a = (alone j began).1

  abbrev s : List ℕ
  s = (alone j began).2

  rest : is_at_rest c ≡ true
  rest = b.at_rest j before

  pub sits_start : SitsThrough (ToAll Start) Anything AddressByte silent j began
  sits_start = (refl, hears_start c _ a s, waiting_unloaded c rest)

  pub sits_stop : SitsThrough (ToAll Stop) Anything Anything silent j began
  sits_stop = (refl, passes_stop c rest _ a s, waiting_unloaded c rest)

  pub sits_byte : (byte : ℕ) → SitsThrough (ToAll (Sent false byte)) Anything Anything silent j began
  sits_byte byte = (waiting_sends_nothing c rest Anything, passes_byte c rest _ a s byte, waiting_unloaded c rest)

  pub sits_read : (nack : Bool) → SitsThrough (ToAll (Read nack)) Anything Anything silent j began
  sits_read nack = (rest_clashes c rest (Read nack), passes_read c rest _ a s nack, waiting_unloaded c rest)

  pub sits_named : (event : Event) → SitsThrough (ToOne k event) Anything Anything silent j began
  sits_named event = (rest_clashes c rest event, rw (ne_eqb j k differ), waiting_unloaded c rest)

  pub sits_first : (byte : ℕ) → is_first_byte place byte ≡ true → SitsThrough (ToAll (Sent true byte)) AddressByte Anything silent j began
  sits_first byte is =
      (waiting_sends_nothing c rest AddressByte, passes_first c rest _ a s place byte (b.unshared j before differ) is, waiting_unloaded c rest)

  pub sits_f8 : SitsThrough (ToAll (Sent true 0xF8)) AddressByte ChoiceByte to_f8 j began
  sits_f8 = (waiting_sends_nothing c rest AddressByte, hears_f8 c rest _ a s, waiting_unloaded c rest)

  pub sits_choice : (byte : ℕ) → is_address_of 0b1010 place byte ≡ true → SitsThrough (ToAll (Sent false byte)) ChoiceByte Anything silent j began
  sits_choice byte is =
      (waiting_sends_nothing c rest ChoiceByte, passes_choice c rest _ a s place byte (b.unshared j before differ) is, waiting_unloaded c rest)
