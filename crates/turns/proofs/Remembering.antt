-- A Start that a line remembers where turns begin is of no account: an exchange begins with a Start of its own, and events 05 to 07 neither ask for what is
-- remembered nor change it. So any turns get the same answers from the same bus without it, and end the same but for what is remembered at the end, which
-- is kept exactly where no turn is an exchange. And that is the same for every shuffle (request E8).
use Prim.Native.Nat.{ℕ, ◌<◌, ◌≤◌}
use native.Mathlib.Omega.{arith}
use mathlib.Core.Bool.{Bool, true, false, cond, not, ◌&&◌, ◌||◌, false≢true}
use mathlib.Core.List.{List, [], ◌∷◌, ◌++◌}
use mathlib.Core.Path.{◌≡◌, ◌∙◌, refl, sym, ap, subst}
use lib.Dec.{eqb, ltb, leb}
use lib.ListN.{length}
use borrow.Author.Tests.{eqb-true, leb-true, ltb-true, lt-ltb, eq-eqb, ne_eqb, not-true}
use Rattle.base.proofs.logic.Laws.{and_left, and_right, and_both, or_left, or_right, or_either, either}
use Rattle.base.proofs.Fold.{none_any, all_at}
use Rattle.control.specs.declared.phase.Phase.{Phase}
use Rattle.control.specs.Phase.{is_sending, is_taking}
use Rattle.control.proofs.phase.Laws.{resting_is}
use Rattle.chip.specs.declared.event.Event.{Event}
use Rattle.chip.specs.declared.event.Event.TheVariants.{Start}
use Rattle.refusal.specs.Refusal.{answer_word}
use Rattle.refusal.specs.Verdict.{Verdict}
use Rattle.std.specs.Prelude.{Ok, Err}
use Rattle.board.specs.declared.Place.{Place}
use Rattle.board.specs.Place.{placed, place_at}
use Rattle.decode.specs.declared.Addressed.TheVariants.{ToAll, ToOne}
use Rattle.decode.specs.Decode.{kind_of, value_of, addressed_of}
use Rattle.wellformed.specs.Wellformed.{heeds_start}
use Rattle.lineup.specs.Chips.{chip_at, control_at, places_of}
use Rattle.bus.specs.declared.Bus.{Bus}
use Rattle.bus.specs.Step.{bus_with, played, step}
use Rattle.bus.proofs.Typed.{OfItsType, count_fits, has_four, every_typed, values_typed, bus_typed}
use Rattle.promises.specs.Playing.{World, Made, stepped, led_to, after_one, answer_to, after, answers_to}
use Rattle.promises.proofs.Keeping.Beside.{names_a_chip}
use Rattle.promises.proofs.Kept.{named_remembers}
use Rattle.promises.proofs.Formed.{Formed, formed_of, of_formed, EntryHolds, entry_of, of_entry}
use Rattle.turns.specs.Idle.{is_at_rest, is_idle}
use Rattle.turns.specs.Turn.{Turn, is_start, is_naming, is_rest_of_turn, is_turn_at, is_turn, AddressByte}
use Rattle.turns.specs.Shuffle.{are_turns, events_of, turns_of, Shuffle}
use Rattle.turns.specs.Alone.{with_start}
use Rattle.turns.specs.Remembering.{has_start, AsWithout}
use Rattle.turns.specs.Undisturbed.{Ready, Turns}
use Rattle.turns.proofs.Asked.{Legal, start_asks, naming_asks}
use Rattle.turns.proofs.Entering.{Entering, entering_kept}
use Rattle.turns.proofs.Grammar.{only_one}
use Rattle.turns.proofs.Lists.{labelled}
use Rattle.turns.proofs.Stepping.{line_verdict, to_all_passes, step_refused, step_plays, count_kept}

abbrev restarted : Bool → Made → Made
restarted started made =
    let bus = made.0.bus in (record { bus = bus_with bus.count started bus.chips bus.values; answer = made.0.answer }, made.1, made.2)

module _ (world : World) (started : Bool) (e : Entering world) (es : Entering (with_start started world)) (word : ℕ) where
  -- a Start is done, and remembered then, whatever was
  start_same : is_start word ≡ true → stepped step (with_start started world) word ≡ stepped step world word
  unfolding played
  start_same is =
      let calm = none_any (λ (i : ℕ). false) (placed world.0.count) (λ i below. refl) in
      step_plays (with_start started world) word (ToAll Start) es (start_asks started world.0.count word is).0 (to_all_passes (with_start started world) Start calm)
      ∙ sym (step_plays world word (ToAll Start) e (start_asks world.0.started world.0.count word is).0 (to_all_passes world Start calm))

  -- an event that names a chip is done or refused alike, and what is remembered stays
  module _ (k : ℕ) (below : k < world.0.count) (is : is_naming k word ≡ true) where
    asks_alike : (one other : Bool) → addressed_of one word ≡ addressed_of other word
    unfolding addressed_of
    asks_alike one other =
        let least : 5 ≤ kind_of word = leb-true _ _ (and_left _ _ (and_left _ _ is)) in
        rw (ne_eqb (kind_of word) 3 (λ (three : kind_of word ≡ 3). absurd (omega (arith, least, three))))

    named_alike : stepped step (with_start started world) word ≡ restarted started (stepped step world word)
    unfolding played
    named_alike =
        let (event, (named, (legal, own))) = naming_asks started world.0.count k word below is in
        go event named legal (legal.0, legal.1, asks_alike world.0.started started ∙ legal.2) (line_verdict (ToOne k event) world) refl
      where
        go : (event : Event) → names_a_chip event ≡ true → Legal started world.0.count word (ToOne k event) → Legal world.0.started world.0.count word (ToOne k event)
            → (v : Verdict) → line_verdict (ToOne k event) world ≡ v → stepped step (with_start started world) word ≡ restarted started (stepped step world word)
        go event named legal legal' (Err refusal) says =
            step_refused (with_start started world) word (ToOne k event) es legal refusal says
            ∙ sym (ap (restarted started) (step_refused world word (ToOne k event) e legal' refusal says))
        go event named legal legal' (Ok tt) says =
            step_plays (with_start started world) word (ToOne k event) es legal says
            ∙ ap (λ (now : Bool). restarted now (played (ToOne k event) world.0 world.1 world.2)) (named_remembers event started named)
            ∙ sym (ap (restarted started) (step_plays world word (ToOne k event) e legal' says))

-- an event that names a chip of the line
abbrev names_one : ℕ → ℕ → Bool
names_one count word = ltb (value_of word) count && is_naming (value_of word) word

-- up to the first Start all do
unfoldable opens : ℕ → List ℕ → Bool
opens count [] = true
opens count (word ∷ more) = is_start word || (names_one count word && opens count more)

events_alike : (started : Bool) (events : List ℕ) (world : World) → Entering world → Entering (with_start started world) → opens world.0.count events ≡ true
    → AsWithout started events world
unfolding after answers_to opens has_start
events_alike started [] world e es all = record { answers = refl; ends = refl }
events_alike started (word ∷ more) world e es all =
    let (answers, ends) = go (is_start word) refl all (events_alike started more (after_one step world word) (entering_kept world word e)) in
    record { answers = answers; ends = ends }
  where
    go : (start : Bool) → is_start word ≡ start → (start || (names_one world.0.count word && opens world.0.count more)) ≡ true
        → (Entering (with_start started (after_one step world word)) → opens (after_one step world word).0.count more ≡ true → AsWithout started more (after_one step world word))
        → (answers_to step (with_start started world) (word ∷ more) ≡ answers_to step world (word ∷ more))
        × (after step (with_start started world) (word ∷ more) ≡ with_start (cond (start || has_start more) (after step world (word ∷ more)).0.started started) (after step world (word ∷ more)))
    go true is all later =
        let same = start_same world started e es word is in
        (ap (λ (made : Made). answer_word made.0.answer ∷ answers_to step (led_to made) more) same, ap (λ (made : Made). after step (led_to made) more) same)
    go false is all later =
        let named = and_left (names_one world.0.count word) _ all in
        let below : value_of word < world.0.count = ltb-true _ _ (and_left _ _ named) in
        let naming = and_right (ltb (value_of word) world.0.count) _ named in
        let same = named_alike world started e es word (value_of word) below naming in
        let legal = (naming_asks world.0.started world.0.count (value_of word) word below naming).1.1.0 in
        let kept = subst Entering (ap led_to same) (entering_kept (with_start started world) word es) in
        let rest = later kept (rw (count_kept world word _ e legal) (and_right (names_one world.0.count word) _ all)) in (
          ap (λ (made : Made). answer_word made.0.answer ∷ answers_to step (led_to made) more) same ∙ ap (λ (answers : List ℕ). answer_to step world word ∷ answers) rest.answers,
          ap (λ (made : Made). after step (led_to made) more) same ∙ rest.ends,
        )

-- the events of turns are such
module _ (count : ℕ) (places : List Place) where
  first_opens : (k : ℕ) → k < count → (place : Place) (events more : List ℕ) → is_turn_at place k events ≡ true → opens count more ≡ true → opens count (events ++ more) ≡ true
  unfolding opens is_turn_at
  first_opens k below place [] more is later = absurd (false≢true is)
  first_opens k below place (word ∷ rest) more is later = go (is_start word) is
    where
      go : (start : Bool) → cond start (is_rest_of_turn place k AddressByte rest) (is_naming k word && eqb (length rest) 0) ≡ true
          → (start || (names_one count word && opens count (rest ++ more))) ≡ true
      go true is = refl
      go false is =
          let naming = and_left _ _ is in
          let named : value_of word ≡ k = eqb-true _ _ (and_right (leb 5 (kind_of word) && leb (kind_of word) 7) _ naming) in
          and_both (names_one count word) _ (subst (λ (n : ℕ). (ltb n count && is_naming n word) ≡ true) (sym named) (and_both (ltb k count) _ (lt-ltb k count below) naming))
          (only_one (λ (rest : List ℕ). opens count (rest ++ more) ≡ true) rest (and_right (is_naming k word) _ is) later)

  turns_open : (turns : List Turn) → are_turns count places turns ≡ true → opens count (events_of turns) ≡ true
  unfolding opens are_turns events_of
  turns_open [] are = refl
  turns_open (turn ∷ rest) are =
      let first = and_left (is_turn count places turn) _ are in
      first_opens turn.chip (ltb-true _ _ (and_left _ _ first)) (place_at places turn.chip) turn.events (events_of rest)
      (and_right (ltb turn.chip count) _ first)
      (turns_open rest (and_right (is_turn count places turn) _ are))

-- and the bus that they begin at is idle: whatever it remembers it is well formed, since a chip at rest heeds a Start and none
pub idle_enters : (started : Bool) (world : World) → OfItsType world.0 → Ready world → Entering (with_start started world)
unfolding is_idle
idle_enters started world typed ready =
    record {
      typed = bus_typed bus.count started bus.chips bus.values (count_fits typed) (has_four typed) (every_typed typed) (values_typed typed);
      enters = of_entry (with_start started world).0 world.1 world.2 (of_formed bus.count started bus.chips clauses, entry.1, entry.2);
    }
  where
    bus : Bus
    bus = world.0

    entry : EntryHolds bus world.1 world.2
    entry = entry_of bus world.1 world.2 ready.enters

    heeds : (phase : Phase) → is_sending phase ≡ false → is_taking phase ≡ false → heeds_start started phase ≡ true
    heeds phase sends takes =
        resting_is phase sends takes (λ (p : Phase). heeds_start started p ≡ true) (either (λ (b : Bool). b ≡ true) started true true refl refl) (either (λ (b : Bool). b ≡ true) started true true refl refl)

    clauses : Formed bus.count started bus.chips
    clauses =
        let formed = formed_of bus.count bus.started bus.chips entry.0 in
        record {
          set_up_lem = formed.set_up_lem;
          fit = formed.fit;
          apart = formed.apart;
          heed = λ i below.
              let rest = all_at (λ (i : ℕ). is_at_rest (chip_at bus.chips i)) (placed bus.count) i ready.idle below in
              let phase = (control_at bus.chips i).phase in
              let both = and_left (not (is_sending phase) && not (is_taking phase)) _ rest in
              heeds phase (not-true _ (and_left _ _ both)) (not-true _ (and_right (not (is_sending phase)) _ both));
        }

-- whether some turn is an exchange is told by the turns of each chip
start_among : (events more : List ℕ) → has_start (events ++ more) ≡ (has_start events || has_start more)
unfolding has_start
start_among [] more = refl
start_among (word ∷ rest) more = go (is_start word) (start_among rest more)
  where
    go : (start : Bool) → has_start (rest ++ more) ≡ (has_start rest || has_start more) → (start || has_start (rest ++ more)) ≡ ((start || has_start rest) || has_start more)
    go true later = refl
    go false later = later

abbrev exchanges : ℕ → List (List ℕ) → Bool
exchanges k own = has_start (events_of (labelled k own))

some_exchanges : (turns : List Turn) → has_start (events_of turns) ≡ true → (k : ℕ) × (exchanges k (turns_of k turns) ≡ true)
unfolding has_start events_of turns_of
some_exchanges [] is = absurd (false≢true is)
some_exchanges (turn ∷ rest) is = go (has_start turn.events) refl (sym (start_among turn.events (events_of rest)) ∙ is) (some_exchanges rest)
  where
    -- one more turn of a chip, or of another
    more : (k : ℕ) (mine : Bool) → exchanges k (turns_of k rest) ≡ true → exchanges k (cond mine (turn.events ∷ turns_of k rest) (turns_of k rest)) ≡ true
    more k true there = start_among turn.events _ ∙ or_right (has_start turn.events) _ there
    more k false there = there

    go : (here : Bool) → has_start turn.events ≡ here → (here || has_start (events_of rest)) ≡ true
        → (has_start (events_of rest) ≡ true → (k : ℕ) × (exchanges k (turns_of k rest) ≡ true))
        → (k : ℕ) × (exchanges k (turns_of k (turn ∷ rest)) ≡ true)
    go true is some later =
        (turn.chip, rw (eq-eqb turn.chip turn.chip refl) (start_among turn.events _ ∙ or_left (has_start turn.events) _ is))
    go false is some later = let (k, there) = later some in (k, more k (eqb turn.chip k) there)

exchanges_some : (turns : List Turn) (k : ℕ) → exchanges k (turns_of k turns) ≡ true → has_start (events_of turns) ≡ true
unfolding has_start events_of turns_of
exchanges_some [] k is = absurd (false≢true is)
exchanges_some (turn ∷ rest) k is = start_among turn.events (events_of rest) ∙ go (eqb turn.chip k) is (exchanges_some rest k)
  where
    go : (mine : Bool) → exchanges k (cond mine (turn.events ∷ turns_of k rest) (turns_of k rest)) ≡ true
        → (exchanges k (turns_of k rest) ≡ true → has_start (events_of rest) ≡ true)
        → (has_start turn.events || has_start (events_of rest)) ≡ true
    go true is later =
        or_either (has_start turn.events) (exchanges k (turns_of k rest)) (sym (start_among turn.events _) ∙ is)
        (λ here. or_left (has_start turn.events) _ here)
        (λ there. or_right (has_start turn.events) _ (later there))
    go false is later = or_right (has_start turn.events) _ (later is)

pub shuffle_exchanges : (turns others : List Turn) → Shuffle turns others → has_start (events_of turns) ≡ has_start (events_of others)
shuffle_exchanges turns others shuffle = go (has_start (events_of turns)) (has_start (events_of others)) refl refl
  where
    across : (one other : List Turn) → Shuffle one other → has_start (events_of one) ≡ true → has_start (events_of other) ≡ true
    across one other shuffle is =
        let (k, there) = some_exchanges one is in exchanges_some other k (subst (λ (own : List (List ℕ)). exchanges k own ≡ true) (shuffle k) there)

    go : (one other : Bool) → has_start (events_of turns) ≡ one → has_start (events_of others) ≡ other → one ≡ other
    go true other is too = sym (across turns others shuffle is) ∙ too
    go false true is too = sym is ∙ across others turns (λ k. sym (shuffle k)) too
    go false false is too = refl

pub turns_alike : (started : Bool) (world : World) → OfItsType world.0 → Ready world → (turns : List Turn) → Turns world turns → AsWithout started (events_of turns) world
turns_alike started world typed ready turns are =
    events_alike started (events_of turns) world (record { typed = typed; enters = ready.enters }) (idle_enters started world typed ready)
    (turns_open world.0.count (places_of world.0.chips) turns are)
