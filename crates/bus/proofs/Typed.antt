-- A value of the type `Bus`, by the relation that the checker itself has between values and what they denote: its count fits, it has four
-- places, each holds a value of the type `Chip`, and it has 256 values, each a byte.
use Prim.Native.Nat.{ℕ, ◌<◌, ◌^◌}
use native.Mathlib.Omega.{arith}
use mathlib.Core.Bool.{Bool}
use mathlib.Core.List.{List, [], ◌∷◌}
use mathlib.Core.Path.{◌≡◌, refl, sym, subst}
use lib.ListN.{length}
use mir.Syntax.{w8}
use mir.Val.{Val, vint}
use base.Fml.{Fml}
use Rattle.std.proofs.Common.{map-id}
use denote.Array.{each}
use denote.Shadow.{shadow}
use denote.Builtin.{u8}
use denote.Laws.{Is}
use Rattle.base.specs.Every.{Every, FitsByte, AllBytes}
use Rattle.base.proofs.Every.{every_below, each_every, every_each}
use Rattle.chip.specs.declared.Chip.{Chip}
use Rattle.chip.specs.contracts.Chip as chip_rows
use Rattle.chip.proofs.Typed.{ChipTyped}
use Rattle.lineup.specs.Chips.{no_chip, chip_at}
use Rattle.bus.specs.declared.Bus.{Bus}
use Rattle.bus.specs.Step.{bus_with}
use Rattle.bus.specs.contracts.Bus as buses

-- the array of a field holds the elements themselves: the two laws of `base` at no change
module _ {X : Type 0} (f : X → List Val → Fml) (P : X → Type 0) where
  every_of_each : ((x : X) (u : Val) → shadow (f x (u ∷ [])) → P x) → (xs : List X) (us : List Val) → shadow (each X f xs us) → Every P xs
  every_of_each so xs us all = each_every (λ (x : X). x) f P so xs us (subst (λ (ys : List X). shadow (each X f ys us)) (sym (map-id xs)) all)

  each_of_every : (value : (x : X) → P x → Val) → ((x : X) (p : P x) → shadow (f x (value x p ∷ []))) → (xs : List X) → Every P xs → (us : List Val) × shadow (each X f xs us)
  each_of_every value so xs all =
      let made = every_each (λ (x : X). x) f P value so xs all in
      (made.0, subst (λ (ys : List X). shadow (each X f ys made.0)) (map-id xs) made.1)

-- some values of the machine are what it denotes
pub record OfItsType (bus : Bus) : Type 0 where
  pub values : List Val
  pub is : Is buses.the_row bus values

pub count_fits : {bus : Bus} → OfItsType bus → bus.count < 2 ^ 64
count_fits typed = typed.is.1.1.0.1

pub has_four : {bus : Bus} → OfItsType bus → length bus.chips ≡ 4
has_four typed = typed.is.1.1.1.0.1.0.1

pub every_typed : {bus : Bus} → OfItsType bus → Every ChipTyped bus.chips
every_typed {bus} typed = every_of_each (chip_rows.the_row).own_val ChipTyped (λ c u is. record { value = u; is = is }) bus.chips _ typed.is.1.1.1.0.1.1

-- 256 values, each a byte
pub record ValuesTyped (values : List ℕ) : Type 0 where
  pub long : length values ≡ 256
  pub bytes : AllBytes values

pub values_typed : {bus : Bus} → OfItsType bus → ValuesTyped bus.values
values_typed {bus} typed =
    let is = typed.is.1.1.1.1.0 in
    record { long = is.1.0.1; bytes = every_of_each u8.own_val FitsByte (λ n v byte. byte.1) bus.values _ is.1.1 }

-- and nothing else is asked of it
pub bus_typed : (count : ℕ) (started : Bool) (chips : List Chip) (values : List ℕ) → count < 2 ^ 64 → length chips ≡ 4 → Every ChipTyped chips → ValuesTyped values
    → OfItsType (bus_with count started chips values)
bus_typed count started chips values fits four typed held =
    let made = each_of_every (chip_rows.the_row).own_val ChipTyped (λ c t. t.value) (λ c t. t.is) chips typed in
    let kept = each_of_every u8.own_val FitsByte (λ n fits. vint w8 n) (λ n fits. (refl, fits)) values held.bytes in
    record {
      values = _;
      is = ((_, (_, (_, (_, tt)))), (refl, ((refl, fits), ((made.0, ((refl, four), made.1)), ((kept.0, ((refl, held.long), kept.1)), (refl, tt))))));
    }

-- one of its chips
pub chip_typed : {bus : Bus} → OfItsType bus → (i : ℕ) → i < 4 → ChipTyped (chip_at bus.chips i)
chip_typed {bus} typed i below = every_below ChipTyped bus.chips i no_chip (every_typed typed) (omega (arith, has_four typed))
