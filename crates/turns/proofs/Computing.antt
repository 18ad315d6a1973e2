-- How the examples are computed. Before each event a step tests the whole bus and measures both stores. But a bus that enters keeps entering, so
-- that the event alone gives the same; on a bench with a fault in what it makes of an event, too.
use Prim.Native.Nat.{ℕ}
use mathlib.Core.List.{List, [], ◌∷◌}
use mathlib.Core.Path.{◌≡◌, refl, ap, subst}
use Rattle.base.specs.Fold.{up_to}
use Rattle.parts.specs.Part.{geometry_of}
use Rattle.load.specs.Load.{store_page}
use Rattle.addressing.specs.Address.{call_by_form, call_of, take_address, take_busy, take_choice}
use Rattle.taking.specs.Taking as taking
use Rattle.sending.specs.Sending.{read}
use Rattle.cycle.specs.Stop.{stop}
use Rattle.chip.specs.Chip as chip
use Rattle.refusal.specs.Refusal.{answer_word}
use Rattle.decode.specs.Decode.{addressed_of}
use Rattle.lineup.specs.Chips.{places_of}
use Rattle.line.specs.Line as line
use Rattle.bus.specs.Step.{played, event, step}
use Rattle.promises.specs.Playing.{World, Made, Bench, led_to, after, answers_to}
use Rattle.promises.proofs.Runs.{step_is_event}
use Rattle.turns.specs.Turn.{Turn, is_turn_at, is_rest_of_turn}
use Rattle.turns.specs.Shuffle.{are_turns, events_of, turns_of, began_at, answers_of, answer_of}
use Rattle.turns.specs.Benches.{Fault, with}
use Rattle.turns.proofs.Entering.{Entering, entering_kept}

-- who unfolds it unfolds all that an event and a turn are made of
unfoldable pub event_by_event : Bench
unfolding event played line.play line.values_after chip.step chip.values_after taking.take taking.span_after taking.values_after take_address take_busy take_choice call_of call_by_form geometry_of read stop store_page up_to addressed_of places_of are_turns is_turn_at is_rest_of_turn events_of turns_of began_at answers_of after answers_to
event_by_event = event

-- what entered still enters with it
abbrev pub Keeps : Fault → Type 0
Keeps fault = (world : World) (word : ℕ) (made : Made) → Entering (led_to made) → Entering (led_to (fault world word made))

module _ (fault : Fault) (keeps : Keeps fault) where
  pub computed : (world : World) → Entering world → (events : List ℕ)
      → (after (with fault step) world events ≡ after (with fault event) world events)
      × (answers_to (with fault step) world events ≡ answers_to (with fault event) world events)
  unfolding after answers_to
  computed world e [] = (refl, refl)
  computed world e (word ∷ more) =
      let made : Made = event world.0 world.1 world.2 word in
      let now : Made = fault world word made in
      let same = step_is_event world.0 world.1 world.2 word e.enters in
      let kept = subst (λ (next : Made). Entering (led_to next)) same (entering_kept world word e) in
      let (ends, answers) = computed (led_to now) (keeps world word made kept) more in
      rw (with, same)
      (ends, ap (λ (rest : List ℕ). answer_word now.0.answer ∷ rest) answers)

  pub computed_answer : (world : World) → Entering world → (k : ℕ) (turns : List Turn) (j i : ℕ)
      → answer_of k turns (answers_to (with fault step) world (events_of turns)) j i ≡ answer_of k turns (answers_to (with fault event) world (events_of turns)) j i
  computed_answer world e k turns j i =
      ap (λ (answers : List ℕ). answer_of k turns answers j i) (computed world e (events_of turns)).1

-- our own bench has none
abbrev pub none : Fault
none world word made = made

pub none_keeps : Keeps none
none_keeps world word made e = e
