-- Array turns ask of the array alone, whatever came before them: a turn opens with a Start or is a single event 05 to 07, and neither it nor a power up
-- is a byte sent. So what is said of such events holds of every list of array turns, with power ups between them.
use Prim.Native.Nat.{ℕ, suc, ◌≤◌}
use native.Mathlib.Omega.{arith}
use mathlib.Core.Bool.{Bool, true, false, cond, not, ◌&&◌, ◌||◌}
use mathlib.Core.List.{List, [], ◌∷◌, ◌++◌}
use mathlib.Core.Path.{◌≡◌, refl}
use lib.Dec.{eqb, ltb, leb}
use lib.ListN.{length}
use borrow.Author.Tests.{eqb-true, leb-true, ne_eqb}
use Rattle.base.specs.Word.{word_of}
use Rattle.base.proofs.logic.Laws.{and_left, and_right, and_both, or_either}
use Rattle.board.specs.declared.Place.{Place}
use Rattle.board.specs.Place.{place_at}
use Rattle.decode.specs.Decode.{kind_of, value_of}
use Rattle.lineup.specs.Chips.{places_of}
use Rattle.promises.specs.Playing.{World, bus_of}
use Rattle.turns.specs.Turn.{Turn, AddressByte, is_start, is_sent, is_naming, is_rest_of_turn, is_turn_at, is_turn}
use Rattle.turns.specs.Shuffle.{events_of}
use Rattle.twins.specs.ArrayTurns.{is_power_up, is_array_byte, may_be_first, only_array, is_array_turn, is_one_power_up, are_array_turns}
use Rattle.twins.specs.Twins.{TwinLines, AsTwins}
use Rattle.twins.proofs.Line.{as_a_24csm01}

-- one list after the other, where the second does so whatever came before
only_append : (events more : List ℕ) (first : Bool) → only_array first events ≡ true → ((any : Bool) → only_array any more ≡ true)
    → only_array first (events ++ more) ≡ true
unfolding only_array
only_append [] more first one later = later first
only_append (word ∷ events) more first one later =
    let asks : (not (first && is_sent word) || is_array_byte (value_of word)) ≡ true = and_left _ _ one in
    and_both _ _ asks (only_append events more (may_be_first first word) (and_right (not (first && is_sent word) || is_array_byte (value_of word)) _ one) later)

-- a single event that is no byte sent
single : (word : ℕ) (more : List ℕ) → is_sent word ≡ false → eqb (length more) 0 ≡ true → (first : Bool) → only_array first (word ∷ more) ≡ true
unfolding only_array
single word [] other none false = refl
single word [] other none true = rw other
single word (next ∷ more) other none first = let long : suc (length more) ≡ 0 = eqb-true _ _ none in absurd (omega (arith, long))

-- one that names a chip is passed over: nothing is asked, and what came before stays
pub named_over : (word : ℕ) (more : List ℕ) → 5 ≤ kind_of word → kind_of word ≤ 7 → (first : Bool) → only_array first (word ∷ more) ≡ only_array first more
unfolding only_array
named_over word more least most first =
    rw (
      ne_eqb (kind_of word) 3 (λ same. omega (arith, least, same)),
      ne_eqb word (word_of 1 0) (λ same. omega (arith, least, same)),
      ne_eqb word (word_of 2 0) (λ same. omega (arith, least, same)),
      ne_eqb word (word_of 8 0) (λ same. omega (arith, most, same)),
    )
    (go first)
  where
    go : (first : Bool) → ((not (first && false) || is_array_byte (value_of word)) && only_array (first && true) more) ≡ only_array first more
    go true = refl
    go false = refl

naming_single : (k word : ℕ) (more : List ℕ) → (is_naming k word && eqb (length more) 0) ≡ true → (first : Bool) → only_array first (word ∷ more) ≡ true
naming_single k word more is =
    let kinds : (leb 5 (kind_of word) && leb (kind_of word) 7) ≡ true = and_left _ _ (and_left (is_naming k word) _ is) in
    let least : 5 ≤ kind_of word = leb-true _ _ (and_left _ _ kinds) in
    single word more (ne_eqb (kind_of word) 3 (λ same. omega (arith, least, same))) (and_right (is_naming k word) _ is)

turn_only : (place : Place) (k : ℕ) (events : List ℕ) → is_turn_at place k events ≡ true → only_array false events ≡ true
    → (first : Bool) → only_array first events ≡ true
unfolding is_turn_at only_array
turn_only place k [] is only first = refl
turn_only place k (word ∷ more) is only first = go first (is_start word) refl is
  where
    go : (first starts : Bool) → is_start word ≡ starts → cond starts (is_rest_of_turn place k AddressByte more) (is_naming k word && eqb (length more) 0) ≡ true
        → only_array first (word ∷ more) ≡ true
    go false starts now held = only
    go true true now held = let same : word ≡ word_of 1 0 = eqb-true _ _ now in rw same (rw same at only)
    go true false now held = naming_single k word more held true

power_up_only : (events : List ℕ) → is_one_power_up events ≡ true → (first : Bool) → only_array first events ≡ true
unfolding only_array
power_up_only [] is first = refl
power_up_only (word ∷ more) is first =
    let same : word ≡ word_of 8 0 = eqb-true _ _ (and_left _ _ is) in single word more (rw same) (and_right (is_power_up word) _ is) first

pub array_turns_only : (count : ℕ) (places : List Place) (turns : List Turn) → are_array_turns count places turns ≡ true
    → (first : Bool) → only_array first (events_of turns) ≡ true
unfolding are_array_turns events_of only_array
array_turns_only count places [] are first = refl
array_turns_only count places (turn ∷ rest) are first =
    let this : (is_array_turn count places turn || is_one_power_up turn.events) ≡ true = and_left _ _ are in
    only_append turn.events (events_of rest) first
    (or_either (is_array_turn count places turn) _ this
    (λ is.
    let at : is_turn_at (place_at places turn.chip) turn.chip turn.events ≡ true = and_right (ltb turn.chip count) _ (and_left (is_turn count places turn) _ is) in
    turn_only (place_at places turn.chip) turn.chip turn.events at (and_right (is_turn count places turn) _ is) first)
    (λ is. power_up_only turn.events is first))
    (array_turns_only count places rest (and_right (is_array_turn count places turn || is_one_power_up turn.events) _ are))

pub turns_as_a_24csm01 : (old new : World) → TwinLines old new
    → (turns : List Turn) → are_array_turns (bus_of old).count (places_of (bus_of old).chips) turns ≡ true
    → AsTwins old new (events_of turns)
turns_as_a_24csm01 old new t turns are =
    as_a_24csm01 old new t (events_of turns) (array_turns_only (bus_of old).count (places_of (bus_of old).chips) turns are (bus_of old).started)
