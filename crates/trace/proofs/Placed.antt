-- A loop over the chips that are placed meets the line's own, and ends behind the last of them.
use Prim.Native.Nat.{ℕ, ◌+◌, ◌<◌, ◌≤◌}
use native.Mathlib.Omega.{arith}
use mathlib.Core.List.{List}
use mathlib.Core.Path.{◌≡◌, ap, refl, sym}
use lib.ListN.{length, get_or, take}
use Rattle.std.proofs.lemmas.List.{get_or-take, length-take, length-take-le}
use Rattle.base.specs.Fold.{up_to}
use Rattle.base.proofs.Fold.{up_more}
use Rattle.board.specs.Place.{placed}
use Rattle.board.proofs.Laws.{placed_most}
use Rattle.chip.specs.declared.Chip.{Chip}
use Rattle.lineup.specs.Chips.{no_chip}
use Rattle.trace.specs.declared.chips.Test.{Test}
use Rattle.trace.specs.Chips.{holds, holds_at}

pub placed_holds : (test : Test) (n : ℕ) (chips : List Chip) (i : ℕ) → i < length (take n chips)
    → holds test (get_or (take n chips) i no_chip).control ≡ holds_at test chips i
placed_holds test n chips i below =
    ap (λ (chip : Chip). holds test chip.control) (get_or-take n chips i no_chip (omega (arith, length-take n chips, below)))

pub placed_end : (count : ℕ) (chips : List Chip) {n i : ℕ} → length chips ≡ 4 → n ≡ placed count → length (take n chips) ≤ i → i ≤ length (take n chips) → i ≡ placed count
placed_end count chips {n} four is past within =
    let whole = length-take-le n chips (omega (arith, four, is, placed_most count)) in
    omega (arith, whole, is)

-- one iteration more
pub up_to_next : {A : Type 0} (f : ℕ → A → A) (n : ℕ) (a : A) → up_to f (n + 1) a ≡ f n (up_to f n a)
up_to_next f n a = sym (up_more f n a refl refl)

pub ruleset of_loop = (placed_holds, placed_end, up_to_next)
