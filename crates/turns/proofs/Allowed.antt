-- Every event of a turn has a kind of 01 to 08 and a value allowed for it, so refusals 6 and 7 do not occur in one.
use Prim.Native.Nat.{ℕ, zero, suc, ◌<◌}
use native.Mathlib.Omega.{arith}
use mathlib.Core.Bool.{true, false}
use mathlib.Core.List.{List, [], ◌∷◌}
use mathlib.Core.Path.{◌≡◌}
use lib.Dec.{ltb}
use lib.ListN.{length, get_or}
use borrow.Author.Tests.{ltb-true}
use Rattle.base.proofs.logic.Laws.{and_left, and_right}
use Rattle.std.specs.Prelude.{Ok}
use Rattle.refusal.specs.Checks.{first_of}
use Rattle.board.specs.declared.Place.{Place}
use Rattle.board.specs.Place.{place_at}
use Rattle.decode.specs.declared.Addressed.{Addressed}
use Rattle.decode.specs.Decode.{decode_checks}
use Rattle.turns.specs.Turn.{Turn, is_naming, Next, is_turn}
use Rattle.turns.proofs.Asked.{Asked, start_asks, stop_asks, sent_asks, f8_asks, read_asks, naming_asks}
use Rattle.turns.proofs.Grammar.{Cases, turn_by_cases}

module _ (count : ℕ) where
  abbrev Allowed : List ℕ → Type 0
  Allowed events = (i : ℕ) → i < length events → first_of (decode_checks count (get_or events i 0)) ≡ Ok tt

  none : Allowed []
  none i inside = absurd (omega arith)

  -- one event, and the rest; whether a Start is remembered is nothing to 6 and 7
  also : (word : ℕ) (more : List ℕ) (addressed : Addressed) → Asked false count word addressed → Allowed more → Allowed (word ∷ more)
  also word more addressed asked later zero inside = rw (asked.0.0, asked.0.1)
  also word more addressed asked later (suc i) inside = later i (omega arith)

  module _ (place : Place) (k : ℕ) (below : k < count) where
    naming : (word : ℕ) (more : List ℕ) → is_naming k word ≡ true → Allowed more → Allowed (word ∷ more)
    naming word more is = let (event, (named, asked)) = naming_asks false count k word below is in also word more _ asked

    allowed : Cases place k (λ (next : Next) (events : List ℕ). Allowed events)
    allowed =
        record {
          stop = λ word is. also word [] _ (stop_asks false count word is) none;
          start = λ word more is. also word more _ (start_asks false count word is);
          sent = λ word more is. also word more _ (sent_asks false count word is);
          read = λ word more is. also word more _ (read_asks false count word is);
          named = naming;
          first = λ word more other is first. also word more _ (sent_asks false count word is);
          f8 = λ word more is. also word more _ (f8_asks false count word is);
          choice = λ word more is named. also word more _ (sent_asks false count word is);
        }

pub turn_values_are_allowed : (count : ℕ) (places : List Place) (turn : Turn) → is_turn count places turn ≡ true
    → (i : ℕ) → i < length turn.events
    → first_of (decode_checks count (get_or turn.events i 0)) ≡ Ok tt
turn_values_are_allowed count places turn is =
    let place = place_at places turn.chip in
    let below : turn.chip < count = ltb-true _ _ (and_left _ _ is) in
    turn_by_cases place turn.chip _ (allowed count place turn.chip below) (Allowed count) (allowed count place turn.chip below).start
    (λ word naming_it. naming count place turn.chip below word [] naming_it (none count))
    turn.events (and_right (ltb turn.chip count) _ is)
