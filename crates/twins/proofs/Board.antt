-- An AT24CM01 on any board, whatever the turns of the other chips: where its own are array turns, it answers and ends as a 24CSM01 does that is alone on
-- its line. For it answers and ends as it does by itself (demand 3), and by itself it has a twin; the excepted answer is one to F8h, no 1010 byte.
use Prim.Native.Nat.{ℕ, zero, suc, ◌<◌, ◌≤◌}
use native.Mathlib.Omega.{arith}
use mathlib.Core.Bool.{Bool, true, false, cond, not, ◌&&◌, ◌||◌, false≢true}
use mathlib.Core.List.{List, [], ◌∷◌, map}
use mathlib.Core.Path.{◌≡◌, ◌∙◌, refl, sym, ap, subst}
use lib.Dec.{leb}
use lib.ListN.{get_or}
use borrow.Author.Tests.{eqb-true, leb-true}
use Rattle.base.specs.Word.{word_of}
use Rattle.base.proofs.logic.Laws.{and_left, and_right, and_both, or_left}
use Rattle.board.specs.declared.Place.{Place}
use Rattle.board.specs.Stores.{array_of}
use Rattle.chip.specs.declared.Chip.{Chip}
use Rattle.decode.specs.Decode.{kind_of, value_of}
use Rattle.lineup.specs.Chips.{places_of}
use Rattle.bus.specs.Step.{step}
use Rattle.bus.proofs.Entry.{entered}
use Rattle.bus.proofs.Typed.{OfItsType}
use Rattle.promises.specs.Playing.{World, bus_of, after}
use Rattle.turns.specs.Turn.{Turn, is_start, is_sent, is_f8, is_turn}
use Rattle.turns.specs.Shuffle.{are_turns, events_of, turns_of, answer_of, is_excepted}
use Rattle.turns.specs.Alone.{alone, renamed, own_turn, own_turns}
use Rattle.turns.specs.Undisturbed.{Ready, Turns}
use Rattle.turns.proofs.Renamed.{own_turns_are_turns}
use Rattle.turns.proofs.Undisturbed.{undisturbed}
use Rattle.twins.specs.ArrayTurns.{is_array_byte, may_be_first, only_array, is_array_turn, are_array_turns, all_only_array}
use Rattle.twins.specs.Twins.{Twins, only_chip, TwinLines}
use Rattle.twins.specs.Board.{AsTwinAlone}
use Rattle.twins.proofs.Turns.{named_over, turns_as_a_24csm01}

-- events that are renamed ask the same: those that name a chip are passed over
only_renamed : (events : List ℕ) (first : Bool) → only_array first (map renamed events) ≡ only_array first events
unfolding only_array
only_renamed [] first = refl
only_renamed (word ∷ more) first = go (leb 5 (kind_of word) && leb (kind_of word) 7) refl (only_renamed more)
  where
    go : (names : Bool) → (leb 5 (kind_of word) && leb (kind_of word) 7) ≡ names → ((any : Bool) → only_array any (map renamed more) ≡ only_array any more)
        → only_array first (cond names (word_of (kind_of word) 0) word ∷ map renamed more) ≡ only_array first (word ∷ more)
    go true is later =
        let least : 5 ≤ kind_of word = leb-true _ _ (and_left _ _ is) in
        let most : kind_of word ≤ 7 = leb-true _ _ (and_right (leb 5 (kind_of word)) _ is) in
        let kind : kind_of (word_of (kind_of word) 0) ≡ kind_of word = omega arith in
        named_over (word_of (kind_of word) 0) (map renamed more) (omega (arith, least, kind)) (omega (arith, most, kind)) first
        ∙ later first
        ∙ sym (named_over word more least most first)
    go false is later = rw (later (may_be_first first word))

own_array_turns : (count : ℕ) (places : List Place) (lists : List (List ℕ)) → are_turns count places (map own_turn lists) ≡ true → all_only_array lists ≡ true
    → are_array_turns count places (map own_turn lists) ≡ true
unfolding are_turns all_only_array are_array_turns
own_array_turns count places [] are only = refl
own_array_turns count places (events ∷ rest) are only =
    let turn = own_turn events in
    and_both _ _
    (or_left (is_array_turn count places turn) _
    (and_both _ _ (and_left (is_turn count places turn) _ are) (only_renamed events false ∙ and_left (only_array false events) _ only)))
    (own_array_turns count places rest (and_right (is_turn count places (own_turn events)) _ are) (and_right (only_array false events) _ only))

-- F8h after a Start is no 1010 byte
after_start : (events : List ℕ) → only_array true events ≡ true → is_f8 (get_or events 0 0) ≡ false
unfolding only_array
after_start [] only = refl
after_start (word ∷ more) only = go (is_f8 word) refl
  where
    go : (is : Bool) → is_f8 word ≡ is → is ≡ false
    go true is =
        let same : word ≡ word_of 3 0xF8 = eqb-true _ _ is in
        let asks : (not (is_sent word) || is_array_byte (value_of word)) ≡ true = and_left _ _ only in
        absurd (false≢true (rw same at asks))
    go false is = refl

not_excepted : (events : List ℕ) (first : Bool) (i : ℕ) → only_array first events ≡ true → is_excepted events i ≡ false
unfolding only_array
not_excepted events first zero only = refl
not_excepted [] first (suc i) only = refl
not_excepted (word ∷ more) first (suc zero) only =
    go (is_start word) refl (and_right (not (first && is_sent word) || is_array_byte (value_of word)) _ only)
  where
    go : (starts : Bool) → is_start word ≡ starts → only_array (may_be_first first word) more ≡ true → (starts && is_f8 (get_or more 0 0)) ≡ false
    go true is later = after_start more (rw is at later)
    go false is later = refl
not_excepted (word ∷ more) first (suc (suc i)) only =
    not_excepted more (may_be_first first word) (suc i) (and_right (not (first && is_sent word) || is_array_byte (value_of word)) _ only)

nowhere_excepted : (lists : List (List ℕ)) → all_only_array lists ≡ true → (j i : ℕ) → is_excepted (get_or lists j []) i ≡ false
unfolding all_only_array only_array
nowhere_excepted [] only j i = not_excepted [] false i refl
nowhere_excepted (events ∷ rest) only zero i = not_excepted events false i (and_left _ _ only)
nowhere_excepted (events ∷ rest) only (suc j) i = nowhere_excepted rest (and_right (only_array false events) _ only) j i

pub as_a_24csm01_on_any_board : (world : World) (turns : List Turn) → OfItsType (bus_of world) → Ready world → Turns world turns
    → (k : ℕ) → k < (bus_of world).count → all_only_array (turns_of k turns) ≡ true
    → (new : World) → TwinLines (alone k world) new
    → AsTwinAlone k world turns new
as_a_24csm01_on_any_board world turns typed ready are k below only new t =
    let by_itself = undisturbed.by_itself world turns typed ready are k below in
    let own_are = own_turns_are_turns world turns are k (omega (arith, below, (entered world.0 world.1 world.2 ready.enters).chips_most)) in
    let array_turns = own_array_turns 1 (places_of (bus_of (alone k world)).chips) (turns_of k turns) own_are only in
    let as_twins = turns_as_a_24csm01 (alone k world) new t (own_turns k turns) array_turns in
    let ends = after step new (events_of (own_turns k turns)) in
    record {
      answers = λ j i.
          by_itself.answers j i (nowhere_excepted (turns_of k turns) only j i)
          ∙ ap (λ (answers : List ℕ). answer_of 0 (own_turns k turns) answers j i) as_twins.answers;
      twins = subst (λ (c : Chip). Twins c (only_chip ends)) (sym (ap only_chip by_itself.ends)) as_twins.ends.twins;
      array = ap (λ (w : World). array_of w) by_itself.ends ∙ as_twins.ends.array;
    }
