-- Values that no chip's load holds are never seen: whatever they are, every event gets the same answer, and leads to worlds that differ in such values
-- alone. For without a loaded byte a Stop stores nothing, and a load that begins finds none of an earlier one.
use Prim.Native.Nat.{ℕ, zero, suc, ◌<◌, ◌≤◌}
use native.Mathlib.Omega.{arith}
use mathlib.Core.Bool.{Bool, true, false, cond, ◌||◌, false≢true, true≢false}
use mathlib.Core.List.{List, [], ◌∷◌}
use mathlib.Core.Path.{◌≡◌, ◌∙◌, refl, sym, ap}
use lib.Seq.{get_or-set_other}
use borrow.Author.Tests.{not-true, not-false}
use Rattle.base.specs.Fold.{up_to, any_below}
use Rattle.base.proofs.logic.Laws.{either}
use Rattle.base.proofs.Fold.{up_same, any_none}
use Rattle.load.specs.Span.{is_empty}
use Rattle.load.specs.Load.{no_values}
use Rattle.control.specs.declared.Said.TheVariants.{Nothing}
use Rattle.chip.specs.declared.Chip.{Chip}
use Rattle.chip.specs.declared.Stepped as chips_own
use Rattle.chip.specs.Chip as chip
use Rattle.refusal.specs.Verdict.{Verdict}
use Rattle.std.specs.Prelude.{Ok, Err}
use Rattle.refusal.specs.Refusal.{answer_word}
use Rattle.refusal.specs.Checks.{first_of}
use Rattle.board.specs.declared.Place.{Place}
use Rattle.board.specs.Place.{placed}
use Rattle.decode.specs.declared.Addressed.{Addressed}
use Rattle.decode.specs.Decode.{addressed_of, reaches, event_of}
use Rattle.lineup.specs.Chips.{no_chip, chip_at, places_of}
use Rattle.line.specs.Line.{OnLine, chips_of, array_share, security_share, landed, chip_takes, play, chip_loads, values_after}
use Rattle.bus.specs.declared.Bus.{Bus}
use Rattle.bus.specs.Step.{event_checks, bus_with, remembers, done, played, step_by, event, step}
use Rattle.bus.proofs.Entry.{Entered, entered}
use Rattle.bus.proofs.Typed.{count_fits, has_four, every_typed, ValuesTyped, values_typed, bus_typed}
use Rattle.promises.specs.Own.{own}
use Rattle.promises.specs.Playing.{World, Made, stepped, led_to, after_one, answer_to, after, answers_to}
use Rattle.promises.proofs.Keeping.Values.{unloaded_blind, load_begins}
use Rattle.promises.proofs.Chips.{each_chip_takes_its_own}
use Rattle.promises.proofs.Runs.{step_is_event}
use Rattle.turns.specs.Idle.{is_loading}
use Rattle.turns.specs.Seen.{any_loading, seen}
use Rattle.turns.proofs.Typed.{no_values_typed}
use Rattle.turns.proofs.Entering.{Entering, entering_kept}

-- a line on which no chip holds a load
module _ (addressed : Addressed) (count : ℕ) (chips : List Chip) (array security : List ℕ) (empty : (i : ℕ) → i < placed count → is_empty (chip_at chips i).span ≡ true) where
  abbrev places : List Place
  places = places_of chips

  abbrev start : OnLine
  start = (record { chips = chips; said = Nothing }, array, security)

  -- a chip that the loop has not come to is as it came
  untouched : (values : List ℕ) (n k : ℕ) → n ≤ k → chip_at (chips_of (up_to (chip_takes addressed values places) n start)) k ≡ chip_at chips k
  unfolding up_to
  untouched values zero k past = refl
  untouched values (suc n) k past =
      let before = untouched values n k (omega arith) in
      either (λ (line : OnLine). chip_at (chips_of line) k ≡ chip_at chips k) (reaches addressed n) _ _
      (get_or-set_other (chips_of (up_to (chip_takes addressed values places) n start)) n k _ no_chip (λ (is : k ≡ n). absurd (omega arith)) ∙ before)
      before

  -- so no chip sees the values
  module _ (values others : List ℕ) where
    blind_so_far : (n : ℕ) → n ≤ placed count → up_to (chip_takes addressed values places) n start ≡ up_to (chip_takes addressed others places) n start
    unfolding up_to
    blind_so_far zero below = refl
    blind_so_far (suc n) below =
        let line = up_to (chip_takes addressed values places) n start in
        let here : is_empty (chip_at (chips_of line) n).span ≡ true = rw (untouched values n n (omega arith)) (empty n (omega arith)) in
        ap (λ (next : chips_own.Stepped × List ℕ × List ℕ). cond (reaches addressed n) (landed places n line next) line)
        (unloaded_blind (chip_at (chips_of line) n) values others (array_share places n line.1) (security_share places n line.2) (event_of addressed) here)
        ∙ ap (chip_takes addressed others places n) (blind_so_far n (omega arith))

    blind_play : play addressed count chips values array security ≡ play addressed count chips others array security
    unfolding play
    blind_play = blind_so_far (placed count) (omega arith)

    -- what an event leaves of a chip
    abbrev next : ℕ → Chip
    next i = (own addressed chips values array security i).0.chip

    -- a chip whose load begins leaves the same values, whatever it found
    begins : (i : ℕ) → i < placed count → is_loading (next i) ≡ true → (one other : List ℕ) → chip_loads addressed chips i one ≡ chip_loads addressed chips i other
    begins i below loads one other = go (reaches addressed i) loads
      where
        go : (reached : Bool)
            → is_loading (cond reached (chip.step (chip_at chips i) values (array_share places i array) (security_share places i security) (event_of addressed)) (chip.quiet (chip_at chips i), array_share places i array, security_share places i security)).0.chip ≡ true
            → cond reached (chip.values_after (chip_at chips i) (event_of addressed) one) one ≡ cond reached (chip.values_after (chip_at chips i) (event_of addressed) other) other
        go true loads = load_begins (chip_at chips i) one other (array_share places i array) (security_share places i security) (event_of addressed) (empty i below) (rw (unloaded_blind (chip_at chips i) one values (array_share places i array) (security_share places i security) (event_of addressed) (empty i below)) (not-true _ loads))
        go false loads = absurd (true≢false (sym (empty i below) ∙ not-true _ loads))

    -- so where some load has begun, the values are the same
    anew : (n : ℕ) → n ≤ placed count → any_below (λ (i : ℕ). is_loading (next i)) n ≡ true → up_to (chip_loads addressed chips) n values ≡ up_to (chip_loads addressed chips) n others
    unfolding up_to
    anew zero below some = absurd (false≢true some)
    anew (suc n) below some = go (is_loading (next n)) refl (anew n (omega arith)) some
      where
        go : (here : Bool) → is_loading (next n) ≡ here
            → (any_below (λ (i : ℕ). is_loading (next i)) n ≡ true → up_to (chip_loads addressed chips) n values ≡ up_to (chip_loads addressed chips) n others)
            → (here || any_below (λ (i : ℕ). is_loading (next i)) n) ≡ true
            → chip_loads addressed chips n (up_to (chip_loads addressed chips) n values) ≡ chip_loads addressed chips n (up_to (chip_loads addressed chips) n others)
        go true is earlier some = begins n (omega arith) is _ _
        go false is earlier some = ap (chip_loads addressed chips n) (earlier some)

    values_anew : any_below (λ (i : ℕ). is_loading (next i)) (placed count) ≡ true → values_after addressed count chips values ≡ values_after addressed count chips others
    unfolding values_after
    values_anew = anew (placed count) (omega arith)

-- what can be seen of what an event makes: the answer, and the world that it leads to
abbrev shown : Made → ℕ × World
shown made = (answer_word made.0.answer, seen (led_to made))

module _ (world : World) (e : Entering world) where
  abbrev bus : Bus
  bus = world.0

  -- the same bus with other values
  abbrev holding : List ℕ → Bus
  holding values = bus_with bus.count bus.started bus.chips values

  entry : Entered world.0 world.1 world.2
  entry = entered world.0 world.1 world.2 e.enters

  module _ (none : any_loading bus ≡ false) (word : ℕ) where
    abbrev addressed : Addressed
    addressed = addressed_of bus.started word

    empty : (i : ℕ) → i < placed bus.count → is_empty (chip_at bus.chips i).span ≡ true
    empty i below = not-false _ (any_none (λ (i : ℕ). is_loading (chip_at bus.chips i)) (placed bus.count) i none below)

    abbrev line : OnLine
    line = play addressed bus.count bus.chips bus.values world.1 world.2

    some_loads : any_below (λ (i : ℕ). is_loading (chip_at (chips_of line) i)) (placed bus.count)
        ≡ any_below (λ (i : ℕ). is_loading (own addressed bus.chips bus.values world.1 world.2 i).0.chip) (placed bus.count)
    some_loads =
        up_same _ _ (placed bus.count)
        (λ i found below. ap (λ (c : Chip). is_loading c || found)
        (each_chip_takes_its_own addressed bus.count bus.chips bus.values world.1 world.2 (has_four e.typed) entry.array_fits entry.security_fits i below).0)
        false

    values_shown : (some : Bool) → any_below (λ (i : ℕ). is_loading (chip_at (chips_of line) i)) (placed bus.count) ≡ some
        → cond some (values_after addressed bus.count bus.chips no_values) no_values ≡ cond some (values_after addressed bus.count bus.chips bus.values) no_values
    values_shown true is = sym (values_anew addressed bus.count bus.chips world.1 world.2 empty bus.values no_values (sym some_loads ∙ is))
    values_shown false is = refl

    unseen_by : (verdict : Verdict) → shown (step_by verdict (holding no_values) world.1 world.2 word) ≡ shown (step_by verdict bus world.1 world.2 word)
    unfolding played
    unseen_by (Ok tt) =
        ap (λ (now : OnLine). shown (done (event_of addressed) bus.count bus.started (now, values_after addressed bus.count bus.chips no_values)))
        (blind_play addressed bus.count bus.chips world.1 world.2 empty no_values bus.values)
        ∙ ap (λ (values : List ℕ). (answer_word (done (event_of addressed) bus.count bus.started (line, values)).0.answer, (bus_with bus.count (remembers (event_of addressed) bus.started) (chips_of line) values, line.1, line.2)))
        (values_shown (any_below (λ (i : ℕ). is_loading (chip_at (chips_of line) i)) (placed bus.count)) refl)
    unseen_by (Err refusal) = rw none

    unseen : shown (step (holding no_values) world.1 world.2 word) ≡ shown (step bus world.1 world.2 word)
    unfolding event
    unseen =
        ap shown (step_is_event (holding no_values) world.1 world.2 word e.enters)
        ∙ unseen_by (first_of (event_checks bus word))
        ∙ sym (ap shown (step_is_event bus world.1 world.2 word e.enters))

  one_event : (word : ℕ) → shown (stepped step (seen world) word) ≡ shown (stepped step world word)
  one_event word = go (any_loading bus) refl
    where
      go : (some : Bool) → any_loading bus ≡ some → shown (step (holding (cond some bus.values no_values)) world.1 world.2 word) ≡ shown (stepped step world word)
      go true is = refl
      go false is = unseen is word

  pub seen_enters : Entering (seen world)
  seen_enters =
      record {
        typed = bus_typed bus.count bus.started bus.chips _ (count_fits e.typed) (has_four e.typed) (every_typed e.typed) (either ValuesTyped (any_loading bus) _ _ (values_typed e.typed) no_values_typed);
        enters = e.enters;
      }

-- a list of events
pub never_seen : (events : List ℕ) (world : World) → Entering world
    → (answers_to step (seen world) events ≡ answers_to step world events) × (seen (after step (seen world) events) ≡ seen (after step world events))
unfolding after answers_to
never_seen [] world e = (refl, twice (any_loading world.0))
  where
    holding_if : Bool → List ℕ → World
    holding_if some values = (bus_with world.0.count world.0.started world.0.chips (cond some values no_values), world.1, world.2)

    twice : (some : Bool) → holding_if some (cond some world.0.values no_values) ≡ holding_if some world.0.values
    twice true = refl
    twice false = refl
never_seen (word ∷ more) world e =
    let first = one_event world e word in
    let answer : answer_to step (seen world) word ≡ answer_to step world word = ap (λ (x : ℕ × World). x.0) first in
    let leads : seen (after_one step (seen world) word) ≡ seen (after_one step world word) = ap (λ (x : ℕ × World). x.1) first in
    let one = never_seen more (after_one step (seen world) word) (entering_kept (seen world) word (seen_enters world e)) in
    let other = never_seen more (after_one step world word) (entering_kept world word e) in (
      (λ j. answer j ∷ (sym one.0 ∙ ap (λ (w : World). answers_to step w more) leads ∙ other.0) j),
      sym one.1 ∙ ap (λ (w : World). seen (after step w more)) leads ∙ other.1,
    )
