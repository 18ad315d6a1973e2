-- Counters: a word address sets one that lies in its region, where that has a byte; the array of a sound part has one, and so has the security
-- register of a part with registers.
use Prim.Native.Nat.{ℕ, ◌+◌, ◌%◌, ◌<◌, ◌≤◌}
use native.Mathlib.Nat.{mod-lt, mod-eq_of_lt, add-mod, mod-mod, zero-add}
use native.Mathlib.Omega.{arith}
use mathlib.Core.Bool.{Bool, true, false}
use mathlib.Core.Path.{◌≡◌, ◌∙◌, refl, ap}
use Rattle.base.specs.Word.{word_of}
use Rattle.parts.specs.declared.part.Geometry.{Geometry}
use Rattle.parts.specs.Part.{Sound}
use Rattle.parts.proofs.part.Laws.{array_some, security_of_lem}
use Rattle.regions.specs.Counter.{word_address, counter_in}

pub counter_below : (size : ℕ) (a16 : Bool) (high low : ℕ) → 0 < size → counter_in size a16 high low < size
counter_below size a16 high low some = mod-lt (word_address a16 high low) some

module _ (g : Geometry) (sound : Sound g) (a16 : Bool) (high low : ℕ) where
  pub array_counter_below : counter_in g.array a16 high low < g.array
  array_counter_below = counter_below g.array a16 high low (array_some sound)

  pub security_counter_below : g.registers ≡ true → counter_in g.security a16 high low < g.security
  security_counter_below has = counter_below g.security a16 high low (security_of_lem sound has)

-- a region that holds all 17 bits is addressed by A16 and 16 bits
pub all_bits_count : (size : ℕ) (a16 : Bool) (high low : ℕ) → 131072 ≤ size → high < 256 → low < 256 → counter_in size a16 high low ≡ word_address a16 high low
all_bits_count size true high low large h l = mod-eq_of_lt (omega arith)
all_bits_count size false high low large h l = mod-eq_of_lt (omega arith)

-- where 65,536 is whole regions, A16 means nothing and the counter is the 16 bits modulo the size
pub a16_ignored : (size : ℕ) (a16 : Bool) (high low : ℕ) → 65536 % size ≡ 0 → counter_in size a16 high low ≡ word_of high low % size
a16_ignored size true high low whole =
    add-mod 65536 (word_of high low) size
    ∙ ap (λ (n : ℕ). (n + word_of high low % size) % size) whole
    ∙ ap (λ (n : ℕ). n % size) (zero-add (word_of high low % size))
    ∙ mod-mod (word_of high low) size
a16_ignored size false high low whole = refl
