-- A list of turns, by induction: whatever the order, chip k ends as it does when its own turns are played to it alone, and each of them
-- gets the answers that it gets there.
use Prim.Native.Nat.{ℕ, zero, suc, ◌<◌, ◌≤◌}
use native.Mathlib.Omega.{arith}
use mathlib.Core.Bool.{Bool, true, false, cond}
use mathlib.Core.List.{List, [], ◌∷◌, map}
use mathlib.Core.Path.{◌≡◌, ◌∙◌, refl, sym, ap, subst}
use lib.Dec.{eqb}
use lib.ListN.{get_or}
use borrow.Author.Tests.{eqb-true, eqb-false}
use Rattle.base.proofs.logic.Laws.{and_left, and_right}
use Rattle.lineup.specs.Chips.{chip_at, places_of}
use Rattle.bus.specs.Step.{step}
use Rattle.promises.specs.Playing.{World, after, answers_to}
use Rattle.promises.proofs.Playing.{after_append}
use Rattle.turns.specs.Seen.{seen}
use Rattle.turns.specs.Turn.{Turn, is_turn}
use Rattle.turns.specs.Shuffle.{are_turns, events_of, turns_of, answers_of, is_excepted}
use Rattle.turns.specs.Alone.{alone, renamed, own_turn, own_turns}
use Rattle.turns.specs.Undisturbed.{Turns}
use Rattle.turns.proofs.Entering.{entering_after, Idling}
use Rattle.turns.proofs.Seen.{never_seen}
use Rattle.turns.proofs.Alone.{alone_seen}
use Rattle.turns.proofs.Lists.{answers_cut}
use Rattle.turns.proofs.OneTurn.{Leaves, turn_leaves, alone_idles}

-- what turns keep from one world to another: a bus that waits for turns, its count and the places past it
pub record Passes (world ends : World) : Type 0 where
  pub waits : Idling ends
  pub count : ends.0.count ≡ world.0.count
  pub rest : (i : ℕ) → world.0.count ≤ i → chip_at ends.0.chips i ≡ chip_at world.0.chips i

-- the first turn of a list, and where the others begin
module _ (world : World) (waits : Idling world) (turn : Turn) (rest : List Turn) (are : Turns world (turn ∷ rest)) where
  abbrev next : World
  next = after step world turn.events

  leaves : Leaves world turn.chip turn.events
  unfolding are_turns
  leaves = turn_leaves world waits turn (and_left _ _ are)

  are_later : Turns next rest
  unfolding are_turns
  are_later = rw (leaves.count, leaves.board) (and_right (is_turn world.0.count (places_of world.0.chips) turn) _ are)

  -- its chip's world then, and another's
  own_next : (k : ℕ) → turn.chip ≡ k → alone k next ≡ seen (after step (alone k world) (map renamed turn.events))
  own_next k same = subst (λ (n : ℕ). alone n next ≡ seen (after step (alone n world) (map renamed turn.events))) same leaves.own

  own_answers : (k : ℕ) → turn.chip ≡ k → (i : ℕ) → is_excepted turn.events i ≡ false
      → get_or (answers_to step world turn.events) i 0 ≡ get_or (answers_to step (alone k world) (map renamed turn.events)) i 0
  own_answers k same i usual = subst (λ (n : ℕ). get_or (answers_to step world turn.events) i 0 ≡ get_or (answers_to step (alone n world) (map renamed turn.events)) i 0) same (leaves.answers i usual)

  -- whose values are not seen in what follows
  own_unseen : (k : ℕ) → k < world.0.count → (events : List ℕ) → let then = after step (alone k world) (map renamed turn.events) in
      (answers_to step (seen then) events ≡ answers_to step then events) × (seen (after step (seen then) events) ≡ seen (after step then events))
  own_unseen k below events = never_seen events _ (entering_after (map renamed turn.events) (alone k world) (alone_idles world waits k below).entering)

  other_next : (k : ℕ) → k < world.0.count → (turn.chip ≡ k → ⊥) → alone k next ≡ alone k world
  other_next k below differ = leaves.others k below (λ (is : k ≡ turn.chip). differ (sym is))

pub turns_pass : (turns : List Turn) (world : World) → Idling world → Turns world turns → Passes world (after step world (events_of turns))
unfolding after events_of
turns_pass [] world waits are = record { waits = waits; count = refl; rest = λ i past. refl }
turns_pass (turn ∷ rest) world waits are =
    let first = leaves world waits turn rest are in
    let later = turns_pass rest (after step world turn.events) first.waits (are_later world waits turn rest are) in
    subst (Passes world) (sym (after_append step world turn.events (events_of rest))) (
    record {
      waits = later.waits;
      count = later.count ∙ first.count;
      rest = λ i past. later.rest i (omega (arith, past, first.count)) ∙ first.rest i past;
    }
    )

pub ends_alone : (turns : List Turn) (world : World) → Idling world → Turns world turns → (k : ℕ) → k < world.0.count
    → alone k (after step world (events_of turns)) ≡ seen (after step (alone k world) (events_of (own_turns k turns)))
unfolding after events_of turns_of
ends_alone [] world waits are k below = sym (alone_seen k world)
ends_alone (turn ∷ rest) world waits are k below =
    let first = leaves world waits turn rest are in
    ap (alone k) (after_append step world turn.events (events_of rest))
    ∙ ends_alone rest (after step world turn.events) first.waits (are_later world waits turn rest are) k (omega (arith, below, first.count))
    ∙ go (eqb turn.chip k) refl
  where
    go : (same : Bool) → eqb turn.chip k ≡ same
        → seen (after step (alone k (after step world turn.events)) (events_of (own_turns k rest)))
        ≡ seen (after step (alone k world) (events_of (map own_turn (cond same (turn.events ∷ turns_of k rest) (turns_of k rest)))))
    go true is =
        ap (λ (w : World). seen (after step w (events_of (own_turns k rest)))) (own_next world waits turn rest are k (eqb-true _ _ is))
        ∙ (own_unseen world waits turn rest are k below (events_of (own_turns k rest))).1
        ∙ ap seen (sym (after_append step (alone k world) (map renamed turn.events) (events_of (own_turns k rest))))
    go false is = ap (λ (w : World). seen (after step w (events_of (own_turns k rest)))) (other_next world waits turn rest are k below (eqb-false _ _ is))

-- the answers to the turns of chip k, in the list and alone
module _ (k : ℕ) where
  abbrev in_list : World → List Turn → List (List ℕ)
  in_list world turns = answers_of k turns (answers_to step world (events_of turns))

  abbrev in_own : World → List (List ℕ) → List (List ℕ)
  in_own world own = answers_of 0 (map own_turn own) (answers_to step world (events_of (map own_turn own)))

  -- event i of the j-th turn gets the same answer in both, unless it is excepted
  abbrev Same : List (List ℕ) → List (List ℕ) → List (List ℕ) → Type 0
  Same own one other = (j i : ℕ) → is_excepted (get_or own j []) i ≡ false → get_or (get_or one j []) i 0 ≡ get_or (get_or other j []) i 0

  same_more : (events : List ℕ) (own : List (List ℕ)) (a b : List ℕ) (one other : List (List ℕ))
      → ((i : ℕ) → is_excepted events i ≡ false → get_or a i 0 ≡ get_or b i 0)
      → Same own one other
      → Same (events ∷ own) (a ∷ one) (b ∷ other)
  same_more events own a b one other first later zero i usual = first i usual
  same_more events own a b one other first later (suc j) i usual = later j i usual

  pub answers_alone : (turns : List Turn) (world : World) → Idling world → Turns world turns → k < world.0.count
      → Same (turns_of k turns) (in_list world turns) (in_own (alone k world) (turns_of k turns))
  unfolding turns_of answers_of
  answers_alone [] world waits are below = λ j i usual. refl
  answers_alone (turn ∷ rest) world waits are below =
      let first = leaves world waits turn rest are in
      subst (λ (one : List (List ℕ)). Same (turns_of k (turn ∷ rest)) one (in_own (alone k world) (turns_of k (turn ∷ rest)))) (sym (answers_cut step world k turn rest))
      (go (eqb turn.chip k) refl
      (answers_alone rest (after step world turn.events) first.waits (are_later world waits turn rest are) (omega (arith, below, first.count))))
    where
      next : World
      next = after step world turn.events

      own : List (List ℕ)
      own = turns_of k rest

      go : (same : Bool) → eqb turn.chip k ≡ same → Same own (in_list next rest) (in_own (alone k next) own)
          → Same (cond same (turn.events ∷ own) own) (cond same (answers_to step world turn.events ∷ in_list next rest) (in_list next rest))
          (in_own (alone k world) (cond same (turn.events ∷ own) own))
      go true is later =
          subst (Same (turn.events ∷ own) (answers_to step world turn.events ∷ in_list next rest)) (sym (answers_cut step (alone k world) 0 (own_turn turn.events) (map own_turn own)))
          (same_more turn.events own (answers_to step world turn.events) (answers_to step (alone k world) (map renamed turn.events)) (in_list next rest) (in_own (after step (alone k world) (map renamed turn.events)) own)
          (own_answers world waits turn rest are k (eqb-true _ _ is))
          (subst (λ (answers : List ℕ). Same own (in_list next rest) (answers_of 0 (map own_turn own) answers)) (own_unseen world waits turn rest are k below (events_of (map own_turn own))).0
          (subst (λ (w : World). Same own (in_list next rest) (in_own w own)) (own_next world waits turn rest are k (eqb-true _ _ is)) later)))
      go false is later = subst (λ (w : World). Same own (in_list next rest) (in_own w own)) (other_next world waits turn rest are k below (eqb-false _ _ is)) later
