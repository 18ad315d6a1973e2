-- On a well-formed line no two chips are the host's partner, so that `who` names the one that is; where none is, it names none.
use Prim.Native.Nat.{ℕ, zero, suc, ◌<◌}
use native.Mathlib.Decide.{dec_lt}
use native.Mathlib.Omega.{arith}
use mathlib.Core.Bool.{Bool, true, false, cond}
use mathlib.Core.List.{List}
use mathlib.Core.Path.{◌≡◌, refl}
use Rattle.std.specs.Prelude.{Option, Some, None}
use Rattle.base.specs.Fold.{up_to}
use Rattle.base.proofs.Fold.{all_pairs_at}
use Rattle.base.proofs.logic.Laws.{and_left, and_right}
use Rattle.control.specs.declared.Control.{Control}
use Rattle.chip.specs.declared.Chip.{Chip}
use Rattle.wellformed.specs.Beside.{side_by_side}
use Rattle.board.specs.Place.{placed}
use Rattle.lineup.specs.Chips.{control_at}
use Rattle.lineup.specs.Wellformed.{set_up_passes, chips_fit, chips_apart, well_formed}
use Rattle.trace.specs.declared.chips.Test.{Test}
use Rattle.trace.specs.declared.chips.Test.TheVariants.{Partner}
use Rattle.trace.specs.Chips.{is_partner, holds_at, who}

module _ (test : Test) (chips : List Chip) where
  abbrev found : ℕ → Option ℕ
  found n = up_to (λ (i : ℕ) (so_far : Option ℕ). cond (holds_at test chips i) (Some i) so_far) n None

  none_found : (n : ℕ) → ((i : ℕ) → i < n → holds_at test chips i ≡ false) → found n ≡ None
  unfolding up_to
  none_found zero none = refl
  none_found (suc n) none = grind (arith, none n, none_found n (λ i below. none i (omega arith)))

  -- the only one of which the test holds is found
  one_found : (n i : ℕ) → i < n → holds_at test chips i ≡ true → ((j : ℕ) → j < n → holds_at test chips j ≡ true → j ≡ i) → found n ≡ Some i
  unfolding up_to
  one_found zero i below here only = absurd (omega arith)
  one_found (suc n) i below here only = elim (dec_lt i n) [
    | yes p ↦ grind (arith, only n, one_found n i p here (λ j before. only j (omega arith)))
    | no p ↦ let last : i ≡ n = omega arith in grind (arith, here, last)
  ]

-- two chips side by side are not both the host's partner
not_both : (c d : Control) → side_by_side c d ≡ true → is_partner c.phase ≡ true → is_partner d.phase ≡ true → ⊥
not_both c d beside one other = grind arith

module _ (count : ℕ) (started : Bool) (chips : List Chip) (formed : well_formed count started chips ≡ true) where
  apart : (i j : ℕ) → i < placed count → j < i → side_by_side (control_at chips i) (control_at chips j) ≡ true
  unfolding well_formed
  apart i j below before =
      let rest = and_right (set_up_passes count chips) _ formed in
      let line = and_right (chips_fit count chips) _ rest in
      all_pairs_at (λ (k l : ℕ). side_by_side (control_at chips k) (control_at chips l)) (placed count) i j (and_left (chips_apart count chips) _ line) below before

  only_partner : (i j : ℕ) → i < placed count → j < placed count → holds_at Partner chips i ≡ true → holds_at Partner chips j ≡ true → j ≡ i
  only_partner i j below beneath one other = by (dec_lt i j) (dec_lt j i)
    where
      by : Dec (i < j) → Dec (j < i) → j ≡ i
      by (yes p) after = absurd (not_both (control_at chips j) (control_at chips i) (apart j i beneath p) other one)
      by (no p) (yes q) = absurd (not_both (control_at chips i) (control_at chips j) (apart i j below q) one other)
      by (no p) (no q) = omega arith

  -- the host's partner is the chip that is named
  pub the_partner_is_named : (i : ℕ) → i < placed count → is_partner (control_at chips i).phase ≡ true → who Partner count chips ≡ Some i
  unfolding who
  the_partner_is_named i below here =
      one_found Partner chips (placed count) i below here (λ j beneath other. only_partner i j below beneath here other)

  pub no_partner_is_named : ((i : ℕ) → i < placed count → is_partner (control_at chips i).phase ≡ false) → who Partner count chips ≡ None
  unfolding who
  no_partner_is_named none = none_found Partner chips (placed count) none
