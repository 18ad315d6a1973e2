-- One turn on a bus that waits for turns: it waits again, the other chips and their shares are as they were, and chip k, its
-- shares and the answers are those of k alone on the line. All of demand 3 is made of this.
use Prim.Native.Nat.{ℕ, zero, suc, ◌<◌, ◌≤◌}
use native.Mathlib.Decide.{dec_lt}
use native.Mathlib.Omega.{arith}
use mathlib.Core.Bool.{Bool, true, false}
use mathlib.Core.List.{List, map}
use mathlib.Core.Path.{◌≡◌, ◌∙◌, refl, sym, ap, subst}
use lib.Dec.{eqb, ltb}
use lib.ListN.{get_or}
use borrow.Author.Tests.{eqb-true, eqb-false, ltb-true}
use Rattle.base.specs.Fold.{up_to}
use Rattle.base.proofs.logic.Laws.{and_left, and_right}
use Rattle.base.proofs.Fold.{all_at, all_each}
use Rattle.parts.specs.Part.{geometry_of}
use Rattle.parts.specs.Address.{share_address}
use Rattle.load.specs.Load.{no_values}
use Rattle.chip.specs.declared.Chip.{Chip}
use Rattle.board.specs.declared.Place.{Place}
use Rattle.board.specs.Place.{place_at, placed}
use Rattle.board.specs.Board.{shared_address}
use Rattle.board.proofs.Laws.{shared_sym}
use Rattle.lineup.specs.Chips.{chip_at, places_of}
use Rattle.lineup.proofs.Laws.{place_at_lem}
use Rattle.bus.specs.declared.Bus.{Bus}
use Rattle.bus.specs.Step.{step}
use Rattle.bus.proofs.Entry.{Entered, entered}
use Rattle.bus.proofs.Typed.{OfItsType}
use Rattle.promises.specs.Playing.{World, after, answers_to}
use Rattle.promises.proofs.Formed.{Formed, formed_of, unshared_places}
use Rattle.turns.specs.Idle.{is_at_rest, is_idle}
use Rattle.turns.specs.Seen.{seen}
use Rattle.turns.specs.Turn.{Turn, Anything, is_turn_at, is_turn}
use Rattle.turns.specs.Shuffle.{is_excepted}
use Rattle.turns.specs.Alone.{alone, renamed, only_bus}
use Rattle.turns.specs.Undisturbed.{Ready}
use Rattle.turns.proofs.Entering.{Idling, idling, ready_of}
use Rattle.turns.proofs.Alone.{only_unloaded, alone_enters}
use Rattle.turns.proofs.Bystander.{waiting_unloaded}
use Rattle.turns.proofs.Others.{Others}
use Rattle.turns.proofs.Typed.{alone_typed}
use Rattle.turns.proofs.During.{During, excepted, Went}
use Rattle.turns.proofs.Grammar.{turn_by_cases}
use Rattle.turns.proofs.Turn.{Leads, named_leads, each_leads}

-- where turns may begin every chip is at rest
rests_at : (world : World) → Ready world → (j : ℕ) → j < world.0.count → is_at_rest (chip_at world.0.chips j) ≡ true
unfolding is_idle
rests_at world ready j below =
    all_at (λ (i : ℕ). is_at_rest (chip_at world.0.chips i)) (placed world.0.count) j ready.idle
    (omega (arith, (entered world.0 world.1 world.2 ready.enters).all_placed))

module _ (began : World) (waits : Idling began) where
  abbrev count : ℕ
  count = began.0.count

  abbrev chips : List Chip
  chips = began.0.chips

  abbrev places : List Place
  places = places_of chips

  entry : Entered began.0 began.1 began.2
  entry = entered began.0 began.1 began.2 waits.entering.enters

  at_rest : (j : ℕ) → j < count → is_at_rest (chip_at chips j) ≡ true
  at_rest = rests_at began (ready_of waits).1

  unshared : (k j : ℕ) → k < count → j < count → (j ≡ k → ⊥) → shared_address places k j ≡ false
  unshared k j below before differ = go (dec_lt j k)
    where
      formed : Formed count began.0.started chips
      formed = formed_of count began.0.started chips entry.formed

      go : Dec (j < k) → shared_address places k j ≡ false
      go (yes p) = unshared_places formed k j (omega (arith, entry.all_placed)) p
      go (no p) = shared_sym places k j ∙ unshared_places formed j k (omega (arith, entry.all_placed)) (omega (arith, differ))

  others : (k : ℕ) → k < count → Others k (place_at places k) began
  others k below =
      record {
        below = below;
        at_rest = at_rest;
        unshared = λ j before differ.
            subst (λ (p : Place). share_address (geometry_of (place_at places k).part) (place_at places k).strap (geometry_of p.part) p.strap ≡ false)
            (place_at_lem chips j (omega (arith, entry.chips_most)))
            (unshared k j below before differ);
      }

  begins : (k : ℕ) → During k Anything began began
  begins k =
      record {
        entering = waits.entering;
        count = refl;
        board = refl;
        rest = λ i past. refl;
        started = waits.forgot;
        heeds = tt;
        others = λ j before differ. ap (λ (bus : Bus). (bus, (alone j began).1, (alone j began).2)) (only_unloaded _ _ _ (waiting_unloaded (chip_at chips j) (at_rest j before) Anything) ∙ ap (λ (started : Bool). only_bus started (chip_at chips j) no_values) waits.forgot);
      }

  went : (k : ℕ) (events : List ℕ) → k < count → is_turn_at (place_at places k) k events ≡ true → Went k false events began began
  went k events below =
      let place = place_at places k in
      turn_by_cases place k (Leads k place began (others k below)) (each_leads k place began (others k below))
      (λ (turn : List ℕ). Went k false turn began began)
      (λ word more is leads. (each_leads k place began (others k below)).start word more is leads false began tt (begins k))
      (λ word is. named_leads k place began (others k below) word is (begins k))
      events

-- what a turn of chip k leaves
pub record Leaves (began : World) (k : ℕ) (events : List ℕ) : Type 0 where
  pub waits : Idling (after step began events)
  pub count : (after step began events).0.count ≡ began.0.count
  pub board : places_of (after step began events).0.chips ≡ places_of began.0.chips
  pub rest : (i : ℕ) → began.0.count ≤ i → chip_at (after step began events).0.chips i ≡ chip_at began.0.chips i
  pub others : (j : ℕ) → j < began.0.count → (j ≡ k → ⊥) → alone j (after step began events) ≡ alone j began
  pub own : alone k (after step began events) ≡ seen (after step (alone k began) (map renamed events))
  pub answers : (i : ℕ) → is_excepted events i ≡ false
      → get_or (answers_to step began events) i 0 ≡ get_or (answers_to step (alone k began) (map renamed events)) i 0

pub turn_leaves : (began : World) → Idling began → (turn : Turn) → is_turn began.0.count (places_of began.0.chips) turn ≡ true
    → Leaves began turn.chip turn.events
unfolding is_idle
turn_leaves began waits turn is =
    record {
      waits = record { entering = now.entering; idle = at_rest_again; forgot = now.started };
      count = now.count;
      board = now.board;
      rest = now.rest;
      others = λ j before differ. now.others j before differ ∙ sym ((begins began waits k).others j before differ);
      own = whole.moves;
      answers = λ i usual. whole.answers i (plain i usual);
    }
  where
    plain : (i : ℕ) → is_excepted turn.events i ≡ false → excepted false turn.events i ≡ false
    plain zero usual = refl
    plain (suc i) usual = usual

    k : ℕ
    k = turn.chip

    below : k < began.0.count
    below = ltb-true _ _ (and_left _ _ is)

    whole : Went k false turn.events began began
    whole = went began waits k turn.events below (and_right (ltb k began.0.count) _ is)

    ends : World
    ends = after step began turn.events

    now : During k Anything began ends
    now = whole.ended

    rests : (j : ℕ) → j < began.0.count → (same : Bool) → eqb j k ≡ same → is_at_rest (chip_at ends.0.chips j) ≡ true
    rests j before true same = rw (eqb-true j k same) whole.rests
    rests j before false same =
        ap (λ (w : World). is_at_rest (chip_at w.0.chips 0)) (now.others j before (eqb-false j k same)) ∙ at_rest began waits j before

    at_rest_again : is_idle ends.0 ≡ true
    at_rest_again =
        all_each (λ (i : ℕ). is_at_rest (chip_at ends.0.chips i)) (placed ends.0.count)
        (λ j below. rests j (omega (arith, below, now.count, (entered ends.0 ends.1 ends.2 now.entering.enters).all_placed)) (eqb j k) refl)

-- a chip alone on the line waits for its turns too, whether a Start is remembered or none
pub alone_ready : (world : World) → OfItsType world.0 → Ready world → (k : ℕ) → k < world.0.count → OfItsType (alone k world).0 × Ready (alone k world)
unfolding is_idle up_to
alone_ready world typed ready k below = (
  alone_typed world k (omega (arith, below, (entered world.0 world.1 world.2 ready.enters).chips_most)) typed,
  record { enters = alone_enters world ready.enters k below; idle = rw (rests_at world ready k below) },
)

pub alone_idles : (world : World) → Idling world → (k : ℕ) → k < world.0.count → Idling (alone k world)
alone_idles world waits k below =
    let (typed, ready) = ready_of waits in
    let (typed', ready') = alone_ready world typed ready k below in
    idling typed' ready' waits.forgot
