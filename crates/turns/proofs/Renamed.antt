-- The turns of a chip, as it has them alone, are turns of the only chip of its bus: so a chip alone is a case of demand 3 too.
use Prim.Native.Nat.{ℕ, ◌<◌, ◌≤◌}
use native.Mathlib.Omega.{arith}
use mathlib.Core.Bool.{true, false, ◌&&◌, ◌||◌}
use mathlib.Core.List.{List, [], ◌∷◌, map}
use mathlib.Core.Path.{◌≡◌, ◌∙◌, refl, sym, subst}
use lib.Dec.{ltb, leb}
use borrow.Author.Tests.{eqb-true, ne_eqb, leb-true}
use Rattle.base.specs.Word.{word_of}
use Rattle.base.proofs.logic.Laws.{and_left, and_right, and_both, or_left, or_right}
use Rattle.board.specs.declared.Place.{Place}
use Rattle.board.specs.Place.{place_at}
use Rattle.decode.specs.Decode.{kind_of, value_of}
use Rattle.lineup.specs.Chips.{places_of}
use Rattle.lineup.proofs.Laws.{place_at_lem}
use Rattle.promises.specs.Playing.{World}
use Rattle.turns.specs.Turn.{Turn, is_start, is_stop, is_sent, is_f8, is_read, is_naming, is_address_of, is_first_byte, Next, Anything, AddressByte, ChoiceByte, is_rest_of_turn, is_turn_at, is_turn}
use Rattle.turns.specs.Shuffle.{are_turns, turns_of}
use Rattle.turns.specs.Alone.{alone, renamed, own_turn, own_turns}
use Rattle.turns.specs.Undisturbed.{Turns}
use Rattle.turns.proofs.Grammar.{Cases, turn_by_cases}
use Rattle.turns.proofs.Lists.{labelled, of_each_chip}

-- an event that names no chip keeps its name
stop_renamed : (word : ℕ) → is_stop word ≡ true → renamed word ≡ word
stop_renamed word is = let same : word ≡ word_of 2 0 = eqb-true _ _ is in rw same

sent_renamed : (word : ℕ) → is_sent word ≡ true → renamed word ≡ word
sent_renamed word is = let kind : kind_of word ≡ 3 = eqb-true _ _ is in rw kind

read_renamed : (word : ℕ) → is_read word ≡ true → renamed word ≡ word
read_renamed word is = let kind : kind_of word ≡ 4 = eqb-true _ _ (and_left _ _ is) in rw kind

module _ (place : Place) where
  abbrev On : Next → List ℕ → Type 0
  On next events = is_rest_of_turn place 0 next (map renamed events) ≡ true

  -- an event between that is neither Start nor Stop
  between : (word : ℕ) (more : List ℕ) → 2 < kind_of word → (is_sent word || (is_read word || is_naming 0 word)) ≡ true → is_rest_of_turn place 0 Anything more ≡ true → is_rest_of_turn place 0 Anything (word ∷ more) ≡ true
  unfolding is_rest_of_turn
  between word more kind is goes =
      rw (ne_eqb word (word_of 2 0) (λ same. omega (arith, kind, same)), ne_eqb word (word_of 1 0) (λ same. omega (arith, kind, same))) (and_both _ _ is goes)

  -- renamed, where it is known what it is renamed to
  kept : (word : ℕ) (more : List ℕ) → renamed word ≡ word → 2 < kind_of word → (is_sent word || (is_read word || is_naming 0 word)) ≡ true → On Anything more → On Anything (word ∷ more)
  kept word more same kind is later = rw same (between word (map renamed more) kind is later)

  stop_on : (word : ℕ) → is_stop word ≡ true → On Anything (word ∷ [])
  unfolding is_rest_of_turn
  stop_on word is = rw (stop_renamed word is, is)

  start_on : (word : ℕ) (more : List ℕ) → is_start word ≡ true → On AddressByte more → On Anything (word ∷ more)
  unfolding is_rest_of_turn
  start_on word more is later = let same : word ≡ word_of 1 0 = eqb-true _ _ is in rw same later

  sent_on : (word : ℕ) (more : List ℕ) → is_sent word ≡ true → On Anything more → On Anything (word ∷ more)
  sent_on word more is = let kind : kind_of word ≡ 3 = eqb-true _ _ is in kept word more (sent_renamed word is) (omega (arith, kind)) (or_left (is_sent word) _ is)

  read_on_lem : (word : ℕ) (more : List ℕ) → is_read word ≡ true → On Anything more → On Anything (word ∷ more)
  read_on_lem word more is =
      let kind : kind_of word ≡ 4 = eqb-true _ _ (and_left _ _ is) in
      kept word more (read_renamed word is) (omega (arith, kind)) (or_right (is_sent word) _ (or_left (is_read word) _ is))

  module _ (k : ℕ) where
    -- one that names k names the only chip
    names : (word : ℕ) → is_naming k word ≡ true → (renamed word ≡ word_of (kind_of word) 0) × ((2 < kind_of (word_of (kind_of word) 0)) × (is_naming 0 (word_of (kind_of word) 0) ≡ true))
    names word is =
        let kinds : (leb 5 (kind_of word) && leb (kind_of word) 7) ≡ true = and_left _ _ is in
        let least : 5 ≤ kind_of word = leb-true _ _ (and_left _ _ kinds) in
        let kind : kind_of (word_of (kind_of word) 0) ≡ kind_of word = omega arith in
        let value : value_of (word_of (kind_of word) 0) ≡ 0 = omega arith in
        (rw kinds, (omega (arith, least, kind), rw (kind, value, kinds)))

    named_on : (word : ℕ) (more : List ℕ) → is_naming k word ≡ true → On Anything more → On Anything (word ∷ more)
    named_on word more is later =
        let (same, (kind, naming)) = names word is in
        let only : ℕ = word_of (kind_of word) 0 in
        rw same (between only (map renamed more) kind (or_right (is_sent only) _ (or_right (is_read only) _ naming)) later)

    first_on : (word : ℕ) (more : List ℕ) → is_f8 word ≡ false → is_sent word ≡ true → is_first_byte place (value_of word) ≡ true → On Anything more → On AddressByte (word ∷ more)
    unfolding is_rest_of_turn
    first_on word more other is first later = rw (sent_renamed word is, other) (and_both _ _ is (and_both _ _ first later))

    f8_on : (word : ℕ) (more : List ℕ) → is_f8 word ≡ true → On ChoiceByte more → On AddressByte (word ∷ more)
    unfolding is_rest_of_turn
    f8_on word more is later = let same : word ≡ word_of 3 0xF8 = eqb-true _ _ is in rw same later

    choice_on : (word : ℕ) (more : List ℕ) → is_sent word ≡ true → is_address_of 0b1010 place (value_of word) ≡ true → On Anything more → On ChoiceByte (word ∷ more)
    unfolding is_rest_of_turn
    choice_on word more is named later = rw (sent_renamed word is) (and_both _ _ is (and_both _ _ named later))

    each_on : Cases place k On
    each_on =
        record {
          stop = stop_on;
          start = start_on;
          sent = sent_on;
          read = read_on_lem;
          named = named_on;
          first = first_on;
          f8 = f8_on;
          choice = choice_on;
        }

    pub renamed_turn : (events : List ℕ) → is_turn_at place k events ≡ true → is_turn_at place 0 (map renamed events) ≡ true
    unfolding is_turn_at
    renamed_turn =
        turn_by_cases place k On each_on (λ (events : List ℕ). is_turn_at place 0 (map renamed events) ≡ true)
        (λ word more is later. let same : word ≡ word_of 1 0 = eqb-true _ _ is in rw same later)
        only
      where
        only : (word : ℕ) → is_naming k word ≡ true → is_turn_at place 0 (renamed word ∷ []) ≡ true
        only word is =
            let (same, (kind, naming)) = names word is in
            rw (same, ne_eqb (word_of (kind_of word) 0) (word_of 1 0) (λ start. omega (arith, kind, start)), naming)

-- the only chip stands where it stood
same_place : (world : World) (k : ℕ) → k < 4 → place_at (places_of (alone k world).0.chips) 0 ≡ place_at (places_of world.0.chips) k
same_place world k inside = place_at_lem (alone k world).0.chips 0 (omega arith) ∙ sym (place_at_lem world.0.chips k inside)

own_are_turns : (world : World) (k : ℕ) → k < 4 → (own : List (List ℕ)) → are_turns world.0.count (places_of world.0.chips) (labelled k own) ≡ true
    → are_turns 1 (places_of (alone k world).0.chips) (map own_turn own) ≡ true
unfolding are_turns
own_are_turns world k inside [] are = refl
own_are_turns world k inside (events ∷ own) are =
    let is = and_right (ltb k world.0.count) _ (and_left _ _ are) in
    and_both _ _
    (subst (λ (place : Place). is_turn_at place 0 (map renamed events) ≡ true) (sym (same_place world k inside)) (renamed_turn (place_at (places_of world.0.chips) k) k events is))
    (own_are_turns world k inside own (and_right (is_turn world.0.count (places_of world.0.chips) (record { chip = k; events = events })) _ are))

pub own_turns_are_turns : (world : World) (turns : List Turn) → Turns world turns → (k : ℕ) → k < 4 → Turns (alone k world) (own_turns k turns)
own_turns_are_turns world turns are k inside =
    own_are_turns world k inside (turns_of k turns) (of_each_chip world.0.count (places_of world.0.chips) turns are k)
