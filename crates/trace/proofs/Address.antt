-- The chip whose address byte it is, is the one that the rules would name by the byte's form, whatever its part is able to do.
use Prim.Native.Nat.{ℕ, ◌/◌, ◌%◌}
use mathlib.Core.Bool.{Bool, true, false, cond, ◌&&◌, ◌||◌}
use mathlib.Core.Path.{◌≡◌, refl}
use lib.Dec.{eqb}
use native.Mathlib.Omega.{arith}
use borrow.Author.Tests.{eqb-true}
use Rattle.parts.specs.Part.{geometry_of}
use Rattle.parts.specs.Address.{answers, a16_of}
use Rattle.control.specs.declared.Control.{Control}
use Rattle.addressing.specs.declared.Call.TheVariants.{ReadArray, WriteArray, ReadRegister, WriteRegister, Nobody}
use Rattle.addressing.specs.Address.{call_by_form, is_named}
use Rattle.trace.specs.Chips.{is_array_byte, is_register_byte, has_address}

-- a byte that is neither F8h nor F9h, by the tests on it
by_tests : (has array registers reads a16 : Bool)
    → ((array || registers) && has) ≡ is_named (cond has (cond array (cond reads ReadArray (WriteArray a16)) (cond registers (cond reads ReadRegister WriteRegister) Nobody)) Nobody)
by_tests has array registers reads a16 = grind arith

pub has_address_by_form : (byte : ℕ) (c : Control) → has_address byte c ≡ is_named (call_by_form (geometry_of c.part) c.strap byte)
unfolding call_by_form
has_address_by_form byte c = by (eqb byte 0xF8) refl (eqb byte 0xF9) refl
  where
    by : (f8 : Bool) → eqb byte 0xF8 ≡ f8 → (f9 : Bool) → eqb byte 0xF9 ≡ f9 → has_address byte c ≡ is_named (call_by_form (geometry_of c.part) c.strap byte)
    by true is f9 other = rw (eqb-true byte 0xF8 is)
    by false is true other = rw (eqb-true byte 0xF9 other)
    by false is false other = rw (is, other) (by_tests (answers (geometry_of c.part) c.strap (byte / 2 % 8)) (is_array_byte byte) (is_register_byte byte) (eqb (byte % 2) 1) (a16_of (geometry_of c.part) (byte / 2 % 8)))
