-- What an AT24CM01 says to an address byte beside what a 24CSM01 says (request E7), both at strap 0, awaiting it and busy; computed.
use Prim.Native.Nat.{ℕ}
use mathlib.Core.Bool.{true}
use mathlib.Core.List.{[], ◌∷◌, map}
use mathlib.Core.Path.{◌≡◌, refl}
use Rattle.parts.specs.Part.{geometry_of}
use Rattle.control.specs.Control.{fresh, choosing}
use Rattle.control.specs.Said.{reply_of}
use Rattle.addressing.specs.Address.{call_by_form, call_of, take_address, take_busy}

-- the two replies to a byte that is awaited, where both were chosen; and to one that finds them busy
abbrev awaited : ℕ → ℕ × ℕ
awaited byte = (reply_of 0 (take_address (choosing true (fresh 3 0)) byte).said, reply_of 0 (take_address (choosing true (fresh 1 0)) byte).said)

abbrev found_busy : ℕ → ℕ × ℕ
found_busy byte = (reply_of 0 (take_busy (fresh 3 0) true byte).said, reply_of 0 (take_busy (fresh 1 0) true byte).said)

-- A0h to A3h are acknowledged by both, another strap's bytes by neither; B0h to B3h, F8h and F9h by the second alone
pub abilities_on_both : map awaited (0xA0 ∷ 0xA3 ∷ 0xA4 ∷ 0x08 ∷ 0xB0 ∷ 0xB1 ∷ 0xB3 ∷ 0xF8 ∷ 0xF9 ∷ [])
    ≡ (1, 1) ∷ (1, 1) ∷ (0, 0) ∷ (0, 0) ∷ (0, 1) ∷ (0, 1) ∷ (0, 1) ∷ (0, 1) ∷ (0, 1) ∷ []
unfolding take_address call_of call_by_form geometry_of
abilities_on_both = refl

-- a 1011 byte names no AT24CM01, so that a busy one says nothing to it (request E8)
pub named_on_both : map found_busy (0xA0 ∷ 0xA3 ∷ 0xA4 ∷ 0xB0 ∷ 0xB3 ∷ 0xF8 ∷ 0xF9 ∷ [])
    ≡ (2, 2) ∷ (2, 2) ∷ (0, 0) ∷ (0, 2) ∷ (0, 2) ∷ (0, 0) ∷ (0, 0) ∷ []
unfolding take_busy call_of call_by_form geometry_of
named_on_both = refl
