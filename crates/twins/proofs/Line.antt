-- The line of an AT24CM01 alone, and that of its twin. An event of the array gets the same answer from both, a refusal too, and leads to twins again:
-- refusals look at the word, at how many chips there are and at their phases, and an event that is not refused is the chip's own step.
use Prim.Native.Nat.{ℕ, ◌+◌, ◌<◌}
use native.Mathlib.Omega.{arith}
use mathlib.Core.Bool.{Bool, true, false, not, ◌&&◌, ◌||◌, false≢true, true≢false}
use mathlib.Core.List.{List, [], ◌∷◌}
use mathlib.Core.Path.{◌≡◌, ◌∙◌, refl, sym, ap, ap₂, subst₂}
use lib.Dec.{eqb, ltb}
use lib.ListN.{length}
use lib.Seq.{take_all}
use borrow.Author.Tests.{eqb-true, eqb-false, ltb-true, not-true, not-false}
use Rattle.base.specs.Fold.{up_to}
use Rattle.base.specs.Store.{span}
use Rattle.base.specs.Word.{word_of}
use Rattle.base.proofs.logic.Laws.{and_left, and_right, or_either, either, either_if}
use Rattle.control.specs.declared.Said.{Said}
use Rattle.control.specs.declared.Said.TheVariants.{Nothing}
use Rattle.control.specs.declared.phase.Phase.{Phase}
use Rattle.control.specs.Phase.{awaits_address}
use Rattle.chip.specs.declared.Stepped.{Stepped}
use Rattle.chip.specs.declared.event.Event.{Event}
use Rattle.chip.specs.declared.event.Event.TheVariants.{Stop, Sent, PowerUp}
use Rattle.chip.specs.Chip as chip
use Rattle.wellformed.specs.Wellformed.{heeds_start}
use Rattle.refusal.specs.Verdict.{Verdict}
use Rattle.std.specs.Prelude.{Ok, Err}
use Rattle.refusal.specs.Refusal.{answer_word}
use Rattle.refusal.specs.Checks.{first_of}
use Rattle.refusal.proofs.Checks.{passed_first}
use Rattle.board.specs.declared.Place.{Place}
use Rattle.board.specs.Place.{placed}
use Rattle.board.specs.declared.shares.Region.{Region}
use Rattle.board.specs.declared.shares.Region.TheVariants.{Array, Security}
use Rattle.board.specs.Shares.{figures_at, size_in, start_in}
use Rattle.board.specs.Stores.{array_of, security_of}
use Rattle.decode.specs.declared.Addressed.{Addressed}
use Rattle.decode.specs.declared.Addressed.TheVariants.{ToAll, ToOne}
use Rattle.decode.specs.Decode.{kind_of, value_of, unknown_kind, value_allowed, decode_checks, addressed_of, reaches, event_of}
use Rattle.decode.specs.Hearing.{clashes_with}
use Rattle.lineup.specs.Chips.{places_of}
use Rattle.line.specs.Line.{line_checks, array_share, heard, line_reply, values_after}
use Rattle.bus.specs.declared.Bus.{Bus}
use Rattle.bus.specs.Step.{entry_checks, event_checks, step_checks, remembers, played, step_by, event, step}
use Rattle.bus.proofs.Entry.{Entered, entered}
use Rattle.promises.specs.Own.{own}
use Rattle.promises.specs.Playing.{World, Made, bus_of, stepped, led_to, after_one, answer_to, after, answers_to}
use Rattle.promises.proofs.Formed.{Formed, formed_of, none_holds}
use Rattle.promises.proofs.Kept.{Kept}
use Rattle.promises.proofs.Runs.{step_is_event, step_keeps}
use Rattle.promises.proofs.Steps.{step_is_each_chips_own, step_answers_for_all}
use Rattle.turns.specs.Turn.{is_start, is_stop, is_sent}
use Rattle.twins.specs.ArrayTurns.{is_power_up, is_array_byte, may_be_first, only_array}
use Rattle.twins.specs.Twins.{Twins, AsksArray, AsOne, only_chip, LineOfOne, TwinLines, AsTwins}
use Rattle.twins.proofs.Step.{both_either, step_same}

-- of one chip only chip 0 can be named
abbrev NamesFirst : Addressed → Type 0
NamesFirst (ToAll event) = Unit {0}
NamesFirst (ToOne named event) = named ≡ 0

names_first : (started : Bool) (word : ℕ) → value_allowed 1 (kind_of word) (value_of word) ≡ true → NamesFirst (addressed_of started word)
unfolding addressed_of
names_first started word allowed =
    either NamesFirst (eqb (kind_of word) 1) _ _ tt
    (either NamesFirst (eqb (kind_of word) 2) _ _ tt
    (either NamesFirst (eqb (kind_of word) 3) _ _ tt
    (either NamesFirst (eqb (kind_of word) 4) _ _ tt
    (either_if NamesFirst (eqb (kind_of word) 5) _ _ (named 5 refl)
    (either_if NamesFirst (eqb (kind_of word) 6) _ _ (named 6 refl)
    (either_if NamesFirst (eqb (kind_of word) 7) _ _ (named 7 refl) tt))))))
  where
    named : (kind : ℕ) → value_allowed 1 kind (value_of word) ≡ ltb (value_of word) 1 → eqb (kind_of word) kind ≡ true → value_of word ≡ 0
    named kind asks is =
        let same : kind_of word ≡ kind = eqb-true _ _ is in
        let below : value_of word < 1 = ltb-true _ _ (sym asks ∙ rw same at allowed) in omega arith

reached_first : (addressed : Addressed) → NamesFirst addressed → reaches addressed 0 ≡ true
reached_first (ToAll event) first = refl
reached_first (ToOne named event) first = rw first

-- a line of one chip
module _ (world : World) (line : LineOfOne world) where
  abbrev bus : Bus
  bus = bus_of world

  abbrev places : List Place
  places = places_of bus.chips

  pub entry : Entered bus (array_of world) (security_of world)
  entry = entered bus (array_of world) (security_of world) line.enters

  alone : placed bus.count ≡ 1
  alone = entry.all_placed ∙ line.one

  pub here : 0 < placed bus.count
  here = omega (arith, alone)

  pub formed : Formed bus.count bus.started bus.chips
  formed = formed_of bus.count bus.started bus.chips entry.formed

  -- a store is all its own
  pub whole : (region : Region) (store : List ℕ) → length store ≡ start_in region places (placed bus.count)
      → span (start_in region places 0) (size_in region (figures_at places 0)) store ≡ store
  unfolding up_to
  whole region store fits =
      let long : length store ≡ 0 + size_in region (figures_at places 0) = fits ∙ ap (start_in region places) alone in
      take_all (size_in region (figures_at places 0)) store (omega arith)

  heeds : heeds_start bus.started (only_chip world).control.phase ≡ true
  heeds = formed.heed 0 here

  -- an event that is refused, or played
  module _ (word : ℕ) where
    abbrev addressed : Addressed
    addressed = addressed_of bus.started word

    abbrev made : Made
    made = stepped step world word

    step_by_lem : (verdict : Verdict) → first_of (event_checks bus word) ≡ verdict → made ≡ step_by verdict bus (array_of world) (security_of world) word
    unfolding event
    step_by_lem verdict is =
        step_is_event bus (array_of world) (security_of world) word line.enters
        ∙ ap (λ (verdict : Verdict). step_by verdict bus (array_of world) (security_of world) word) is

    kept : Kept bus made
    kept = step_keeps bus (array_of world) (security_of world) word line.typed line.enters

    keeps : LineOfOne (after_one step world word)
    keeps = record { typed = kept.typed; enters = kept.enters; one = kept.count ∙ line.one }

    still_whole : array_share places 0 made.1 ≡ made.1
    still_whole =
        let fits = (entered made.0.bus made.1 made.2 kept.enters).array_fits in
        whole Array made.1 (fits ∙ rw (kept.places, kept.count))

  module _ (word : ℕ) (passes : first_of (event_checks bus word) ≡ Ok tt) where
    plays : made word ≡ played (addressed word) bus (array_of world) (security_of world)
    plays = step_by_lem word (Ok tt) passes

    all_pass : first_of (step_checks bus (array_of world) (security_of world) word) ≡ Ok tt
    all_pass = passed_first (entry_checks bus (array_of world) (security_of world)) (event_checks bus word) line.enters ∙ passes

    first : NamesFirst (addressed word)
    first =
        let allowed : value_allowed bus.count (kind_of word) (value_of word) ≡ true = not-false _ (none_holds (event_checks bus word) passes).1.0 in
        names_first bus.started word (rw line.one at allowed)

    -- the chip's own step
    abbrev taken : Stepped × List ℕ × List ℕ
    taken = chip.step (only_chip world) bus.values (array_of world) (security_of world) (event_of (addressed word))

    owns : own (addressed word) bus.chips bus.values (array_of world) (security_of world) 0 ≡ taken
    owns = rw (reached_first (addressed word) first, whole Array (array_of world) entry.array_fits, whole Security (security_of world) entry.security_fits)

    record Moved : Type 0 where
      chip_is : only_chip (led_to (made word)) ≡ taken.0.chip
      array_is : (made word).1 ≡ taken.1
      values_is : (made word).0.bus.values ≡ chip.values_after (only_chip world) (event_of (addressed word)) bus.values
      started_is : (made word).0.bus.started ≡ remembers (event_of (addressed word)) bus.started
      answer_is : (made word).0.answer ≡ Ok (line_reply (event_of (addressed word)) (heard Nothing taken.0.said))

    moved : Moved
    unfolding played up_to values_after
    moved =
        let below : 0 < bus.count = omega (arith, line.one) in
        let (chip_is, array_is, security_is) = step_is_each_chips_own bus (array_of world) (security_of world) word line.typed all_pass 0 below in
        record {
          chip_is = chip_is ∙ ap (λ (at : Stepped × List ℕ × List ℕ). at.0.chip) owns;
          array_is = sym (still_whole word) ∙ array_is ∙ ap (λ (at : Stepped × List ℕ × List ℕ). at.1) owns;
          values_is = ap (λ (next : Made). next.0.bus.values) plays ∙ rw (alone, reached_first (addressed word) first);
          started_is = ap (λ (next : Made). next.0.bus.started) plays;
          answer_is = step_answers_for_all bus (array_of world) (security_of world) word line.typed all_pass ∙ rw (alone, owns);
        }

-- both lines refuse an event or neither does, with the same number
module _ {old new : World} (t : TwinLines old new) (word : ℕ) where
  abbrev asked : Addressed
  asked = addressed_of (bus_of old).started word

  line_same : (o : Addressed) → NamesFirst o → first_of (line_checks o 1 (bus_of old).chips) ≡ first_of (line_checks o 1 (bus_of new).chips)
  unfolding up_to
  line_same (ToAll event) first = rw t.twins.controls.phase
  line_same (ToOne named event) first = rw (first, t.twins.controls.phase)

  checks_same : first_of (event_checks (bus_of old) word) ≡ first_of (event_checks (bus_of new) word)
  checks_same =
      rw (t.old_line.one, t.new_line.one, ← t.started)
      (both_either ◌≡◌ {one = unknown_kind (kind_of word)} refl (λ unknown. refl)
      (λ known. both_either ◌≡◌ {one = not (value_allowed 1 (kind_of word) (value_of word))} refl (λ wrong. refl)
      (λ allowed. line_same asked (names_first (bus_of old).started word (not-false _ allowed)))))

-- a chip awaits an address byte only while a Start is remembered, and sends nothing then
awaits_started : (started : Bool) (phase : Phase) → heeds_start started phase ≡ true → awaits_address phase ≡ true → started ≡ true
awaits_started true phase heeds awaits = refl
awaits_started false phase heeds awaits = absurd (true≢false (sym awaits ∙ not-true _ heeds))

-- so every byte of such events that could be an address byte is a 1010 byte
asks_array : (started : Bool) (phase : Phase) (first : Bool) (word : ℕ) → heeds_start started phase ≡ true → (started ≡ true → first ≡ true)
    → (not (first && is_sent word) || is_array_byte (value_of word)) ≡ true
    → AsksArray phase (event_of (addressed_of started word))
unfolding addressed_of
asks_array started phase first word heeds over only =
    either P (eqb (kind_of word) 1) _ _ tt
    (either P (eqb (kind_of word) 2) _ _ tt
    (either_if P (eqb (kind_of word) 3) _ _ sent
    (either P (eqb (kind_of word) 4) _ _ tt
    (either P (eqb (kind_of word) 5) _ _ tt
    (either P (eqb (kind_of word) 6) _ _ tt
    (either P (eqb (kind_of word) 7) _ _ tt tt))))))
  where
    P : Addressed → Type 0
    P addressed = AsksArray phase (event_of addressed)

    sent : is_sent word ≡ true → (started || awaits_address phase) ≡ true → is_array_byte (value_of word) ≡ true
    sent is asked =
        let begun : started ≡ true = or_either started _ asked (λ now. now) (awaits_started started phase heeds) in
        rw (over begun, is) at only

-- of the events that are played only a Start makes the line remember one
only_start : (count : ℕ) (started : Bool) (word : ℕ) → value_allowed count (kind_of word) (value_of word) ≡ true → is_start word ≡ false
    → remembers (event_of (addressed_of started word)) started ≡ true → started ≡ true
unfolding addressed_of
only_start count started word allowed other =
    either_if P (eqb (kind_of word) 1) _ _ no_start
    (either P (eqb (kind_of word) 2) _ _ gone
    (either P (eqb (kind_of word) 3) _ _ gone
    (either P (eqb (kind_of word) 4) _ _ gone
    (either P (eqb (kind_of word) 5) _ _ stays
    (either P (eqb (kind_of word) 6) _ _ stays
    (either P (eqb (kind_of word) 7) _ _ stays gone))))))
  where
    P : Addressed → Type 0
    P addressed = remembers (event_of addressed) started ≡ true → started ≡ true

    gone : false ≡ true → started ≡ true
    gone now = absurd (false≢true now)

    stays : started ≡ true → started ≡ true
    stays now = now

    no_start : eqb (kind_of word) 1 ≡ true → true ≡ true → started ≡ true
    no_start is now =
        let kind : kind_of word ≡ 1 = eqb-true _ _ is in
        let value : value_of word ≡ 0 = eqb-true _ _ (rw kind at allowed) in
        absurd (eqb-false word (word_of 1 0) other (omega arith))

-- where a Start is remembered after an event, a byte sent next may be an address byte, as far as the words say
module _ (world : World) (line : LineOfOne world) (first : Bool) (over : (bus_of world).started ≡ true → first ≡ true) (word : ℕ) where
  abbrev started : Bool
  started = (bus_of world).started

  abbrev later : Bool
  later = (after_one step world word).0.started

  was_started : is_start word ≡ false → later ≡ true → started ≡ true
  was_started other now = go (first_of (event_checks (bus_of world) word)) refl
    where
      go : (verdict : Verdict) → first_of (event_checks (bus_of world) word) ≡ verdict → started ≡ true
      go (Ok tt) passes =
          only_start (bus_of world).count started word (not-false _ (none_holds (event_checks (bus_of world) word) passes).1.0) other
          (sym (moved world line word passes).started_is ∙ now)
      go (Err refusal) is = sym (ap (λ (next : Made). next.0.bus.started) (step_by_lem world line word (Err refusal) is)) ∙ now

  -- an event to all that no chip clashes with is played
  forgets : (event : Event) → first_of (decode_checks 1 word) ≡ Ok tt → addressed_of started word ≡ ToAll event
      → clashes_with event (only_chip world).control.phase ≡ false → remembers event started ≡ false → later ≡ false
  unfolding up_to
  forgets event decodes asks calm gone =
      let passes : first_of (event_checks (bus_of world) word) ≡ Ok tt =
      rw line.one (passed_first (decode_checks 1 word) (line_checks (addressed_of started word) 1 (bus_of world).chips) decodes ∙ rw (asks, calm)) in
      (moved world line word passes).started_is ∙ rw asks gone

  stop_forgets : is_stop word ≡ true → later ≡ false
  unfolding addressed_of
  stop_forgets is = let same : word ≡ word_of 2 0 = eqb-true _ _ is in forgets Stop (rw same) (rw same) refl refl

  up_forgets : is_power_up word ≡ true → later ≡ false
  unfolding addressed_of
  up_forgets is = let same : word ≡ word_of 8 0 = eqb-true _ _ is in forgets PowerUp (rw same) (rw same) refl refl

  sent_forgets : started ≡ true → is_sent word ≡ true → later ≡ false
  unfolding addressed_of
  sent_forgets begun is =
      let kind : kind_of word ≡ 3 = eqb-true _ _ is in
      forgets (Sent started (value_of word)) (rw kind) (rw kind) (not-true _ (and_left _ _ (rw begun at (heeds world line)))) refl

  over_still : later ≡ true → may_be_first first word ≡ true
  over_still now = go (is_start word) refl (is_sent word || (is_stop word || is_power_up word)) refl
    where
      go : (starts : Bool) → is_start word ≡ starts → (ends : Bool) → (is_sent word || (is_stop word || is_power_up word)) ≡ ends
          → (starts || (first && not ends)) ≡ true
      go true is ends done = refl
      go false is true done =
          let gone : later ≡ false = or_either (is_sent word) _ done (sent_forgets (was_started is now)) (λ rest. or_either (is_stop word) _ rest stop_forgets up_forgets) in
          absurd (true≢false (sym now ∙ gone))
      go false is false done = rw (over (was_started is now))

-- one event
module _ {old new : World} (t : TwinLines old new) (word : ℕ) (asks : AsksArray (only_chip old).control.phase (event_of (addressed_of (bus_of old).started word))) where
  abbrev asks_of : Bool → Event
  asks_of started = event_of (addressed_of started word)

  -- one that is played
  module _ (passes : first_of (event_checks (bus_of old) word) ≡ Ok tt) where
    passes_too : first_of (event_checks (bus_of new) word) ≡ Ok tt
    passes_too = sym (checks_same t word) ∙ passes

    one : Moved old t.old_line word passes
    one = moved old t.old_line word passes

    other : Moved new t.new_line word passes_too
    other = moved new t.new_line word passes_too

    both : AsOne (taken old t.old_line word passes) (chip.values_after (only_chip old) (asks_of (bus_of old).started) (bus_of old).values)
        (taken new t.new_line word passes_too) (chip.values_after (only_chip new) (asks_of (bus_of new).started) (bus_of new).values)
    both =
        subst₂
        (λ (started : Bool) (array : List ℕ).
        AsOne (taken old t.old_line word passes) (chip.values_after (only_chip old) (asks_of (bus_of old).started) (bus_of old).values)
        (chip.step (only_chip new) (bus_of new).values array (security_of new) (asks_of started))
        (chip.values_after (only_chip new) (asks_of started) (bus_of new).values))
        t.started t.array
        (step_same (only_chip old) (only_chip new) t.twins ((formed old t.old_line).fit 0 (here old t.old_line))
        (bus_of old).values (bus_of new).values (array_of old) (security_of old) (security_of new) t.values (asks_of (bus_of old).started) asks)

    answers_same : answer_to step old word ≡ answer_to step new word
    answers_same =
        ap answer_word
        (one.answer_is
        ∙ ap₂ (λ (started : Bool) (said : Said). Ok (line_reply (asks_of started) (heard Nothing said))) t.started both.said
        ∙ sym other.answer_is)

    twins_still : TwinLines (after_one step old word) (after_one step new word)
    twins_still =
        record {
          old_line = keeps old t.old_line word;
          new_line = keeps new t.new_line word;
          twins = subst₂ Twins (sym one.chip_is) (sym other.chip_is) both.twins;
          started = one.started_is ∙ ap (λ (started : Bool). remembers (asks_of started) started) t.started ∙ sym other.started_is;
          values = λ loads. one.values_is ∙ both.values (rw one.chip_is at loads) ∙ sym other.values_is;
          array = one.array_is ∙ both.array ∙ sym other.array_is;
        }

  one_event : (answer_to step old word ≡ answer_to step new word) × TwinLines (after_one step old word) (after_one step new word)
  one_event = go (first_of (event_checks (bus_of old) word)) refl
    where
      go : (verdict : Verdict) → first_of (event_checks (bus_of old) word) ≡ verdict
          → (answer_to step old word ≡ answer_to step new word) × TwinLines (after_one step old word) (after_one step new word)
      go (Ok tt) passes = (answers_same passes, twins_still passes)
      go (Err refusal) is =
          rw (step_by_lem old t.old_line word (Err refusal) is, step_by_lem new t.new_line word (Err refusal) (sym (checks_same t word) ∙ is)) (refl, t)

-- and a list of them
as_twins : (events : List ℕ) (first : Bool) {old new : World} → TwinLines old new → ((bus_of old).started ≡ true → first ≡ true) → only_array first events ≡ true
    → AsTwins old new events
unfolding only_array after answers_to
as_twins [] first t over only = record { answers = refl; ends = t }
as_twins (word ∷ more) first {old} {new} t over only =
    let asks = asks_array (bus_of old).started (only_chip old).control.phase first word (heeds old t.old_line) over (and_left _ _ only) in
    let (same, next) = one_event t word asks in
    let later = and_right (not (first && is_sent word) || is_array_byte (value_of word)) _ only in
    let rest = as_twins more (may_be_first first word) next (over_still old t.old_line first over word) later in
    record { answers = ap₂ ◌∷◌ same rest.answers; ends = rest.ends }

pub as_a_24csm01 : (old new : World) → TwinLines old new → (events : List ℕ) → only_array (bus_of old).started events ≡ true → AsTwins old new events
as_a_24csm01 old new t events only = as_twins events (bus_of old).started t (λ begun. begun) only
