-- Two worlds that are the same at every chip, and hold no load, show the same: the chips are, so their places are; and a store of the right length is its
-- shares end to end.
use Prim.Native.Nat.{ℕ, zero, suc, ◌<◌, ◌≤◌}
use native.Mathlib.Decide.{dec_lt}
use native.Mathlib.Omega.{arith}
use mathlib.Core.Bool.{false}
use mathlib.Core.List.{List}
use mathlib.Core.Path.{◌≡◌, ◌∙◌, refl, sym, ap}
use lib.ListN.{length, take}
use lib.Seq.{take-add, take_all, ext_get_or}
use Rattle.base.specs.Fold.{up_to}
use Rattle.base.specs.Store.{span}
use Rattle.load.specs.Load.{no_values}
use Rattle.parts.specs.declared.part.Geometry.{Geometry}
use Rattle.std.specs.Prelude.{Ok}
use Rattle.refusal.specs.Checks.{first_of}
use Rattle.board.specs.Place.{placed}
use Rattle.board.specs.Shares.{figures_at}
use Rattle.board.proofs.Laws.{start_of}
use Rattle.lineup.specs.Chips.{no_chip, chip_at, places_of}
use Rattle.bus.specs.declared.Bus.{Bus}
use Rattle.bus.specs.Step.{entry_checks, bus_with}
use Rattle.bus.proofs.Entry.{Entered, entered}
use Rattle.promises.specs.Playing.{World}
use Rattle.turns.specs.Seen.{any_loading, seen_of, seen}
use Rattle.turns.specs.Alone.{alone}

module _ (share : ℕ → ℕ) where
  same_up_to : (n : ℕ) (xs ys : List ℕ) → ((i : ℕ) → i < n → span (start_of share i) (share i) xs ≡ span (start_of share i) (share i) ys)
      → take (start_of share n) xs ≡ take (start_of share n) ys
  unfolding up_to
  same_up_to zero xs ys same = refl
  same_up_to (suc n) xs ys same =
      rw (take-add (start_of share n) (share n) xs, take-add (start_of share n) (share n) ys, same n (omega arith), same_up_to n xs ys (λ i below. same i (omega arith)))

  pub same_store : (n : ℕ) (xs ys : List ℕ) → length xs ≡ start_of share n → length ys ≡ start_of share n
      → ((i : ℕ) → i < n → span (start_of share i) (share i) xs ≡ span (start_of share i) (share i) ys)
      → xs ≡ ys
  same_store n xs ys fits fits' same =
      sym (take_all (start_of share n) xs (omega arith)) ∙ same_up_to n xs ys same ∙ take_all (start_of share n) ys (omega arith)

-- how much of a store each chip of a bus has, and what it holds there
abbrev share : (Geometry → ℕ) → Bus → ℕ → ℕ
share size bus i = size (figures_at (places_of bus.chips) i)

abbrev held : (Geometry → ℕ) → Bus → ℕ → List ℕ → List ℕ
held size bus i store = span (start_of (share size bus) i) (share size bus i) store

pub same_world : (one other : World) → length one.0.chips ≡ 4 → length other.0.chips ≡ 4 → one.0.count ≡ other.0.count
    → first_of (entry_checks one.0 one.1 one.2) ≡ Ok tt
    → first_of (entry_checks other.0 other.1 other.2) ≡ Ok tt
    → ((i : ℕ) → one.0.count ≤ i → chip_at one.0.chips i ≡ chip_at other.0.chips i)
    → ((k : ℕ) → k < one.0.count → alone k one ≡ alone k other)
    → any_loading one.0 ≡ false
    → any_loading other.0 ≡ false
    → seen one ≡ seen other
same_world one other four four' counts enters enters' past each none none' =
    let there : Entered other.0 other.1 other.2 = entered other.0 other.1 other.2 enters' in
    let array : one.1 ≡ other.1 = same_held (λ g. g.array) _ _ here.array_fits there.array_fits (λ i below. ap (λ (world : World). world.1) (each i below)) in
    let security : one.2 ≡ other.2 = same_held (λ g. g.security) _ _ here.security_fits there.security_fits (λ i below. ap (λ (world : World). world.2) (each i below)) in
    λ j. (same_bus j, array j, security j)
  where
    same_chip : (i : ℕ) → Dec (i < one.0.count) → chip_at one.0.chips i ≡ chip_at other.0.chips i
    same_chip i (yes p) = ap (λ (world : World). chip_at world.0.chips 0) (each i p)
    same_chip i (no p) = past i (omega arith)

    same_chips : one.0.chips ≡ other.0.chips
    same_chips = ext_get_or no_chip one.0.chips other.0.chips (four ∙ sym four') (λ i below. same_chip i (dec_lt i one.0.count))

    here : Entered one.0 one.1 one.2
    here = entered one.0 one.1 one.2 enters

    -- there is a chip, and alone it is on a line that remembers what the whole one does
    same_start : one.0.started ≡ other.0.started
    same_start = ap (λ (world : World). world.0.started) (each 0 here.chips_some)

    -- on both no chip holds a load
    unloaded : (bus : Bus) → any_loading bus ≡ false → seen_of bus ≡ bus_with bus.count bus.started bus.chips no_values
    unloaded bus empty = rw empty

    same_bus : seen_of one.0 ≡ seen_of other.0
    same_bus = unloaded one.0 none ∙ (λ j. bus_with (counts j) (same_start j) (same_chips j) no_values) ∙ sym (unloaded other.0 none')

    same_held : (size : Geometry → ℕ) (xs ys : List ℕ)
        → length xs ≡ start_of (share size one.0) (placed one.0.count)
        → length ys ≡ start_of (share size other.0) (placed other.0.count)
        → ((i : ℕ) → i < one.0.count → held size one.0 i xs ≡ held size other.0 i ys)
        → xs ≡ ys
    same_held size xs ys fits fits' same =
        same_store (share size one.0) (placed one.0.count) xs ys fits
        (fits' ∙ ap (λ (bus : Bus). start_of (share size bus) (placed bus.count)) (sym same_bus))
        (λ i below. same i (omega (arith, here.all_placed)) ∙ ap (λ (bus : Bus). held size bus i ys) (sym same_bus))
