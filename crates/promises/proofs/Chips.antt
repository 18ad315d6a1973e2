-- Demand 2 over the line: every chip that an event reaches makes its own step of it, on its own shares as they were before the event.
-- An iteration puts one chip and its two shares in their places and leaves all others, so each chip finds its own as they were.
use Prim.Native.Nat.{ℕ, zero, suc, ◌<◌, ◌≤◌}
use native.Mathlib.Omega.{arith}
use mathlib.Core.List.{List}
use mathlib.Core.Path.{◌≡◌, ◌∙◌, refl, ap}
use lib.ListN.{length}
use Rattle.base.specs.Fold.{up_to}
use Rattle.base.proofs.logic.Laws.{either}
use Rattle.control.specs.declared.Said.{Said}
use Rattle.control.specs.declared.Said.TheVariants.{Nothing}
use Rattle.chip.specs.declared.Chip.{Chip}
use Rattle.chip.specs.declared.Stepped.{Stepped}
use Rattle.promises.proofs.Keeping.Lengths.{Long, lengths_kept}
use Rattle.board.specs.declared.Place.{Place}
use Rattle.board.specs.Place.{placed}
use Rattle.board.specs.Shares.{figures_at, array_start, security_start}
use Rattle.board.proofs.Laws.{placed_most}
use Rattle.decode.specs.declared.Addressed.{Addressed}
use Rattle.decode.specs.Decode.{reaches, event_of}
use Rattle.lineup.specs.Chips.{no_chip, chip_at, places_of}
use Rattle.line.specs.declared.Played.{Played}
use Rattle.line.specs.Line.{array_share, security_share, heard, landed, chip_takes, play}
use Rattle.line.proofs.Takes.{takes_on, chip_lands}
use Rattle.promises.specs.Own.{own, gathered}
use Rattle.lineup.proofs.Filled.{filled, filled_length, filled_past, filled_at}
use Rattle.promises.proofs.Filled.{stored, Stored, all_stored}

abbrev World : Type 0
World = Played × List ℕ × List ℕ

taken_long : (addressed : Addressed) (values : List ℕ) (i : ℕ) (c : Chip) (array security : List ℕ)
    → let next = takes_on addressed values i c array security in Long array security next.1 next.2
taken_long addressed values i c array security =
    either (λ (x : Stepped × List ℕ × List ℕ). Long array security x.1 x.2) (reaches addressed i) _ _
    (lengths_kept c values array security (event_of addressed))
    (refl, refl)

module _ (addressed : Addressed) (count : ℕ) (chips : List Chip) (values array security : List ℕ) (four : length chips ≡ 4) (array_fits : length array ≡ array_start (places_of chips) (placed count)) (security_fits : length security ≡ security_start (places_of chips) (placed count)) where
  abbrev places : List Place
  places = places_of chips

  abbrev mine : ℕ → Stepped × List ℕ × List ℕ
  mine i = own addressed chips values array security i

  abbrev my_chip : ℕ → Chip
  my_chip i = (mine i).0.chip

  abbrev my_array : ℕ → List ℕ
  my_array i = (mine i).1

  abbrev my_security : ℕ → List ℕ
  my_security i = (mine i).2

  abbrev array_size : ℕ → ℕ
  array_size i = (figures_at places i).array

  abbrev security_size : ℕ → ℕ
  security_size i = (figures_at places i).security

  -- the exchanges of both stores keep what they should
  array_stored : (n : ℕ) → n ≤ placed count → Stored array_size my_array array n
  array_stored = all_stored array_size my_array array (placed count) array_fits (λ i. (taken_long addressed values i _ _ _).0)

  security_stored : (n : ℕ) → n ≤ placed count → Stored security_size my_security security n
  security_stored = all_stored security_size my_security security (placed count) security_fits (λ i. (taken_long addressed values i _ _ _).1)

  -- the first n chips have landed, each with its own
  abbrev moved : ℕ → World
  moved n = (
    record {
      chips = filled my_chip n chips;
      said = up_to (λ (i : ℕ) (said : Said). heard said (mine i).0.said) n Nothing;
    },
    stored array_size my_array n array,
    stored security_size my_security n security,
  )

  -- the next chip and its shares are then as they were
  finds : (n : ℕ) → n < placed count → takes_on addressed values n (chip_at (moved n).0.chips n) (array_share places n (moved n).1) (security_share places n (moved n).2) ≡ mine n
  finds n below =
      rw (
        filled_past my_chip chips n n no_chip (omega arith),
        (array_stored n (omega arith)).past n (omega arith),
        (security_stored n (omega arith)).past n (omega arith),
      )

  so_far : (n : ℕ) → n ≤ placed count → up_to (chip_takes addressed values places) n (record { chips = chips; said = Nothing }, array, security) ≡ moved n
  unfolding up_to
  so_far zero below = refl
  so_far (suc n) below =
      ap (chip_takes addressed values places n) (so_far n (omega arith))
      ∙ chip_lands addressed values places n (moved n).0.chips (moved n).0.said (moved n).1 (moved n).2
      ∙ ap (landed places n (moved n)) (finds n below)

  abbrev after : World
  after = play addressed count chips values array security

  all_moved : after ≡ moved (placed count)
  unfolding play
  all_moved = so_far (placed count) (omega arith)

  pub each_chip_takes_its_own : (i : ℕ) → i < placed count
      → (chip_at after.0.chips i ≡ (own addressed chips values array security i).0.chip)
      × (array_share (places_of chips) i after.1 ≡ (own addressed chips values array security i).1)
      × (security_share (places_of chips) i after.2 ≡ (own addressed chips values array security i).2)
  each_chip_takes_its_own i below =
      rw all_moved (
        filled_at my_chip chips (placed count) i no_chip (omega (arith, four, placed_most count)) below,
        (array_stored (placed count) (omega arith)).here i below,
        (security_stored (placed count) (omega arith)).here i below,
      )

  pub the_rest_stays : (i : ℕ) → placed count ≤ i → chip_at after.0.chips i ≡ chip_at chips i
  the_rest_stays i past = rw all_moved (filled_past my_chip chips (placed count) i no_chip past)

  pub answer_is_gathered : after.0.said ≡ gathered addressed count chips values array security
  answer_is_gathered = rw all_moved

  pub stores_keep_their_length : (length after.1 ≡ length array) × (length after.2 ≡ length security)
  stores_keep_their_length = rw all_moved ((array_stored (placed count) (omega arith)).long, (security_stored (placed count) (omega arith)).long)

  pub chips_stay_four : length after.0.chips ≡ 4
  chips_stay_four = rw all_moved (filled_length my_chip chips (placed count) ∙ four)
