-- A list of turns is played turn by turn, and its answers are cut where its turns are. A shuffle has the same turns of each chip, so each of
-- its turns is one.
use Prim.Native.Nat.{ℕ, zero, suc, ◌+◌, ◌<◌, ◌≤◌}
use native.Mathlib.Decide.{dec_lt}
use native.Mathlib.Nat.{zero-add, add-suc, add_assoc}
use native.Mathlib.Omega.{arith}
use mathlib.Core.Bool.{Bool, true, false, cond, false≢true}
use mathlib.Core.List.{List, [], ◌∷◌, ◌++◌, map}
use mathlib.Core.Path.{◌≡◌, ◌∙◌, refl, sym, ap, subst}
use lib.Dec.{eqb}
use lib.ListN.{length, get_or, take, drop, length-append, length-drop, get_or-eq_default}
use lib.Seq.{take_at, drop_at, take-append_seam, drop-append_seam, take-append-le, drop-append-le, get_or-take, get_or-drop}
use borrow.Author.Tests.{eqb-true, eq-eqb}
use Rattle.base.proofs.logic.Laws.{and_left, and_right, and_both}
use Rattle.board.specs.declared.Place.{Place}
use Rattle.promises.specs.Playing.{World, Bench, after, answers_to}
use Rattle.promises.proofs.Playing.{answers_append, answers_length}
use Rattle.turns.specs.Turn.{Turn, is_start, is_f8, is_turn}
use Rattle.turns.specs.Shuffle.{are_turns, events_of, turns_of, Shuffle, turn_of, began_at, answers_of, answer_of, is_excepted}

module _ (bench : Bench) where
  pub answers_cut : (world : World) (k : ℕ) (turn : Turn) (rest : List Turn)
      → let later = answers_of k rest (answers_to bench (after bench world turn.events) (events_of rest)) in
      answers_of k (turn ∷ rest) (answers_to bench world (events_of (turn ∷ rest)))
      ≡ cond (eqb turn.chip k) (answers_to bench world turn.events ∷ later) later
  unfolding answers_of events_of
  answers_cut world k turn rest =
      let first : List ℕ = answers_to bench world turn.events in
      let long : length first ≡ length turn.events = answers_length bench world turn.events in
      rw (answers_append, take_at first _ _ long, drop_at first _ _ long)

-- answers past those to the turns are not looked at
pub answers_past : (k : ℕ) (turns : List Turn) (answers tail : List ℕ) → length answers ≡ length (events_of turns)
    → answers_of k turns (answers ++ tail) ≡ answers_of k turns answers
unfolding answers_of events_of
answers_past k [] answers tail enough = refl
answers_past k (turn ∷ rest) answers tail enough =
    let n : ℕ = length turn.events in
    let both : length answers ≡ n + length (events_of rest) = enough ∙ length-append turn.events (events_of rest) in
    let some : n ≤ length answers = omega arith in
    rw (take-append-le n answers tail some, drop-append-le n answers tail some, answers_past k rest (drop n answers) tail (length-drop n answers ∙ omega arith))

-- cut as answers are, the events are the turns
own_cut : (k : ℕ) (turns : List Turn) → answers_of k turns (events_of turns) ≡ turns_of k turns
unfolding answers_of events_of turns_of
own_cut k [] = refl
own_cut k (turn ∷ rest) =
    rw (take-append_seam turn.events (events_of rest), drop-append_seam turn.events (events_of rest), own_cut k rest)

past : (n m i : ℕ) (answers : List ℕ) → get_or (drop n answers) (m + i) 0 ≡ get_or answers (n + m + i) 0
past n m i answers = get_or-drop n answers (m + i) 0 ∙ ap (λ (at : ℕ). get_or answers at 0) (sym (add_assoc n m i))

-- where the answer to event i of the j-th turn of chip k stands among all
pub answer_at : (k : ℕ) (turns : List Turn) (answers : List ℕ) (j i : ℕ) → i < length (turn_of k turns j)
    → answer_of k turns answers j i ≡ get_or answers (began_at k turns j + i) 0
unfolding answers_of turns_of began_at
answer_at k [] answers j i inside = absurd (omega arith)
answer_at k (turn ∷ rest) answers zero i inside = go (eqb turn.chip k) inside (answer_at k rest (drop (length turn.events) answers) zero i)
  where
    n : ℕ
    n = length turn.events

    others : List (List ℕ)
    others = answers_of k rest (drop n answers)

    go : (mine : Bool) → i < length (get_or (cond mine (turn.events ∷ turns_of k rest) (turns_of k rest)) zero [])
        → (i < length (turn_of k rest zero) → get_or (get_or others zero []) i 0 ≡ get_or (drop n answers) (began_at k rest zero + i) 0)
        → get_or (get_or (cond mine (take n answers ∷ others) others) zero []) i 0 ≡ get_or answers (cond mine 0 (n + began_at k rest zero) + i) 0
    go true inside later = get_or-take n answers i 0 inside ∙ ap (λ (at : ℕ). get_or answers at 0) (sym (zero-add i))
    go false inside later = later inside ∙ past n (began_at k rest zero) i answers
answer_at k (turn ∷ rest) answers (suc j) i inside = go (eqb turn.chip k) inside (λ m. answer_at k rest (drop (length turn.events) answers) m i)
  where
    n : ℕ
    n = length turn.events

    others : List (List ℕ)
    others = answers_of k rest (drop n answers)

    go : (mine : Bool) → i < length (get_or (cond mine (turn.events ∷ turns_of k rest) (turns_of k rest)) (suc j) [])
        → ((m : ℕ) → i < length (turn_of k rest m) → get_or (get_or others m []) i 0 ≡ get_or (drop n answers) (began_at k rest m + i) 0)
        → get_or (get_or (cond mine (take n answers ∷ others) others) (suc j) []) i 0 ≡ get_or answers (n + began_at k rest (cond mine j (suc j)) + i) 0
    go true inside later = later j inside ∙ past n (began_at k rest j) i answers
    go false inside later = later (suc j) inside ∙ past n (began_at k rest (suc j)) i answers

-- an excepted answer of a turn is one of the whole list
pub excepted_inside : (events : List ℕ) (i : ℕ) → is_excepted events i ≡ true → i < length events
excepted_inside events zero is = absurd (false≢true is)
excepted_inside events (suc i) is = go (dec_lt (suc i) (length events))
  where
    go : Dec (suc i < length events) → suc i < length events
    go (yes p) = p
    go (no p) =
        let here : is_f8 (get_or events (suc i) 0) ≡ true = and_right (is_start (get_or events i 0)) _ is in
        absurd (false≢true (rw (get_or-eq_default events 0 {n = suc i} (omega arith)) at here))

pub excepted_at : (k : ℕ) (turns : List Turn) (j i : ℕ) → is_excepted (turn_of k turns j) i ≡ true → is_excepted (events_of turns) (began_at k turns j + i) ≡ true
excepted_at k turns j zero is = absurd (false≢true is)
excepted_at k turns j (suc i) is =
    let inside : suc i < length (turn_of k turns j) = excepted_inside (turn_of k turns j) (suc i) is in
    let before : get_or (events_of turns) (began_at k turns j + i) 0 ≡ get_or (turn_of k turns j) i 0 = event_at_lem i (omega arith) in
    let here : get_or (events_of turns) (began_at k turns j + suc i) 0 ≡ get_or (turn_of k turns j) (suc i) 0 = event_at_lem (suc i) inside in
    let next : began_at k turns j + suc i ≡ suc (began_at k turns j + i) = add-suc (began_at k turns j) i in
    rw (next, before, rw next at here) is
  where
    event_at_lem : (i : ℕ) → i < length (turn_of k turns j) → get_or (events_of turns) (began_at k turns j + i) 0 ≡ get_or (turn_of k turns j) i 0
    event_at_lem i inside =
        sym (answer_at k turns (events_of turns) j i inside) ∙ ap (λ (own : List (List ℕ)). get_or (get_or own j []) i 0) (own_cut k turns)

-- the turns of one chip, labelled again
abbrev pub labelled : ℕ → List (List ℕ) → List Turn
labelled k = map (λ (events : List ℕ). record { chip = k; events = events })

module _ (count : ℕ) (places : List Place) where
  abbrev pub Each : ℕ → List (List ℕ) → Type 0
  Each k own = are_turns count places (labelled k own) ≡ true

  pub of_each_chip : (turns : List Turn) → are_turns count places turns ≡ true → (k : ℕ) → Each k (turns_of k turns)
  unfolding are_turns turns_of
  of_each_chip [] all k = refl
  of_each_chip (turn ∷ rest) all k =
      go (eqb turn.chip k) refl (of_each_chip rest (and_right (is_turn count places turn) _ all) k)
    where
      go : (mine : Bool) → eqb turn.chip k ≡ mine → Each k (turns_of k rest) → Each k (cond mine (turn.events ∷ turns_of k rest) (turns_of k rest))
      go true is later =
          let here : is_turn count places (record { chip = k; events = turn.events }) ≡ true = rw (← eqb-true turn.chip k is) (and_left _ _ all) in
          and_both _ _ here later
      go false is later = later

  from_each_chip : (turns : List Turn) → ((k : ℕ) → Each k (turns_of k turns)) → are_turns count places turns ≡ true
  unfolding are_turns turns_of
  from_each_chip [] each = refl
  from_each_chip (turn ∷ rest) each =
      and_both (is_turn count places turn) _ (here (eqb turn.chip turn.chip) (eq-eqb turn.chip _ refl) (each turn.chip))
      (from_each_chip rest (λ k. later k (eqb turn.chip k) (each k)))
    where
      here : (mine : Bool) → mine ≡ true → Each turn.chip (cond mine (turn.events ∷ turns_of turn.chip rest) (turns_of turn.chip rest))
          → is_turn count places turn ≡ true
      here mine is all = and_left _ _ (rw is at all)

      later : (k : ℕ) (mine : Bool) → Each k (cond mine (turn.events ∷ turns_of k rest) (turns_of k rest)) → Each k (turns_of k rest)
      later k true all = and_right (is_turn count places (record { chip = k; events = turn.events })) _ all
      later k false all = all

  pub shuffle_turns : (turns others : List Turn) → are_turns count places turns ≡ true → Shuffle turns others → are_turns count places others ≡ true
  shuffle_turns turns others all shuffle =
      from_each_chip others (λ k. subst (Each k) (shuffle k) (of_each_chip turns all k))
