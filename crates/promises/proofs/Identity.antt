-- The Device ID goes round (request E5; UM10204; sheets 11.0): after F9h the n-th byte read, counted from 0, is the ID byte at n modulo 3,
-- whatever n. First of a chip by itself; then of the line, where no other chip clashes with F9h or with a read, and no other is heard.
use Prim.Native.Nat.{ℕ, zero, suc, ◌+◌, ◌%◌, ◌<◌}
use native.Mathlib.Decide.{dec_lt}
use native.Mathlib.Omega.{arith}
use mathlib.Core.Bool.{Bool, true, false}
use mathlib.Core.List.{List, [], ◌∷◌, ◌++◌, map}
use mathlib.Core.Path.{◌≡◌, ◌∙◌, refl, sym, ap, subst}
use lib.ListN.{replicate}
use Rattle.base.specs.Word.{word_of}
use Rattle.base.proofs.logic.Laws.{either}
use Rattle.base.proofs.Fold.{any_one}
use Rattle.parts.specs.Part.{geometry_of}
use Rattle.regions.proofs.page.Laws.{next_of_mod}
use Rattle.control.specs.declared.Said.{Said}
use Rattle.control.specs.declared.Said.TheVariants.{Ack, Byte}
use Rattle.control.specs.declared.phase.Phase.TheVariants.{SendsByte}
use Rattle.control.specs.declared.phase.Source.TheVariants.{FromId}
use Rattle.control.specs.Phase.{is_sending, is_taking}
use Rattle.control.specs.Control.{in_phase}
use Rattle.control.specs.Said.{reply_of}
use Rattle.addressing.specs.Address.{call_by_form, call_of, take_address, take_choice}
use Rattle.load.specs.Load.{no_values}
use Rattle.taking.specs.Taking as taking
use Rattle.taking.specs.Taking.{take, span_after}
use Rattle.sending.specs.Sending.{read}
use Rattle.chip.specs.declared.Chip.{Chip}
use Rattle.chip.specs.declared.Stepped.{Stepped}
use Rattle.chip.specs.declared.event.Event.{Event}
use Rattle.chip.specs.declared.event.Event.TheVariants.{Start, Sent, Read}
use Rattle.chip.specs.Chip.{fresh, quiet, step, values_after}
use Rattle.wellformed.specs.Beside.{side_by_side}
use Rattle.std.specs.Prelude.{Ok}
use Rattle.refusal.specs.Refusal.{answer_word}
use Rattle.refusal.specs.Checks.{first_of}
use Rattle.refusal.proofs.Checks.{passed_first}
use Rattle.board.specs.Place.{placed}
use Rattle.board.specs.Stores.{array_of, security_of}
use Rattle.decode.specs.declared.Addressed.TheVariants.{ToAll}
use Rattle.decode.specs.Decode.{decode_checks, addressed_of}
use Rattle.decode.specs.Hearing.{clashes_with}
use Rattle.lineup.specs.Chips.{chip_at, control_at, places_of}
use Rattle.line.specs.Line.{line_checks, array_share, security_share}
use Rattle.bus.specs.Step.{entry_checks, event_checks, step_checks}
use Rattle.bus.specs.Step as bus
use Rattle.bus.proofs.Entry.{Entered, entered}
use Rattle.bus.proofs.Typed.{OfItsType}
use Rattle.promises.specs.ChipPlayed.{chip_played}
use Rattle.promises.specs.Playing.{World, bus_of, after_one, answer_to, after}
use Rattle.promises.specs.Identity.{IsAsked, id_events, id_words, read_word, round_byte}
use Rattle.promises.proofs.Keeping.Wellformed.{chosen_identifies}
use Rattle.promises.proofs.Keeping.Beside.{beside_sym, no_other_sends, no_other_takes}
use Rattle.promises.proofs.Formed.{formed_of}
use Rattle.promises.proofs.Steps.{step_is_each_chips_own, step_answers_for_all}
use Rattle.promises.proofs.Runs.{step_keeps}
use Rattle.promises.proofs.Replies.{the_sender_is_heard}

-- a chip that has sent n ID bytes and goes on
abbrev identifies : Chip → ℕ → Chip
identifies c n = record { control = in_phase (SendsByte (FromId (n % 3))) c.control; span = c.span }

module _ (c : Chip) (values array security : List ℕ) where
  asked_identifies : (first : Bool) → (geometry_of c.control.part).identifies ≡ true → IsAsked c.control → step c values array security (Sent first 0xF9) ≡ (record { chip = identifies c 0; said = Ack }, array, security)
  unfolding step take span_after take_address call_of call_by_form
  asked_identifies first able asked = rw (asked.awaits, able, asked.chosen)

  sends_round : (n : ℕ) (nack : Bool) → (step (identifies c n) values array security (Read nack)).0.said ≡ Byte (round_byte c.control n)
  unfolding step read
  sends_round n nack = refl

  goes_on : (n : ℕ)
      → step (identifies c n) values array security (Read false) ≡ (record { chip = identifies c (n + 1); said = Byte (round_byte c.control n) }, array, security)
  unfolding step read
  goes_on n = rw (next_of_mod 3 n (omega arith))

  abbrev Sends : ℕ → Stepped × List ℕ × List ℕ × List ℕ → Type 0
  Sends n at = (at.0.chip ≡ identifies c n) × (at.1 ≡ array) × (at.2 ≡ security)

-- n bytes more, whatever the values
goes_round : (c : Chip) (array security : List ℕ) (n from to : ℕ) → from + n ≡ to → (said : Said) (values : List ℕ)
    → Sends c values array security to (chip_played (replicate n (Read false)) (record { chip = identifies c from; said = said }, array, security, values))
goes_round c array security zero from to is said values = (ap (identifies c) (omega (arith, is)), refl, refl)
goes_round c array security (suc n) from to is said values =
    subst (λ (x : Stepped × List ℕ × List ℕ). Sends c values array security to (chip_played (replicate n (Read false)) (x.0, x.1, x.2, values_after (identifies c from) (Read false) values)))
    (sym (goes_on c values array security from))
    (goes_round c array security n (from + 1) to (omega (arith, is)) (Byte (round_byte c.control from)) (values_after (identifies c from) (Read false) values))

pub id_goes_round : (c : Chip) (values array security : List ℕ) → (geometry_of c.control.part).identifies ≡ true → IsAsked c.control → (n : ℕ) (nack : Bool)
    → let at = chip_played (id_events n) (quiet c, array, security, values) in
    (step at.0.chip at.3 at.1 at.2 (Read nack)).0.said ≡ Byte (round_byte c.control n)
id_goes_round c values array security able asked n nack =
    let then = values_after c (Sent true 0xF9) values in
    let at = chip_played (id_events n) (quiet c, array, security, values) in
    let (there, same_array, same_security) =
    subst (λ (x : Stepped × List ℕ × List ℕ). Sends c values array security n (chip_played (replicate n (Read false)) (x.0, x.1, x.2, then))) (sym (asked_identifies c values array security true able asked))
    (goes_round c array security n 0 n (omega arith) Ack then) in
    rw (there, same_array, same_security) (sends_round c at.3 array security n nack)

-- seven bytes, computed from a fresh chip on: F8h, its address, Start, F9h, and n bytes before the one that is looked at
abbrev id_read : ℕ → ℕ → ℕ
id_read part n =
    reply_of 0xFF
    (chip_played ((Start ∷ Sent true 0xF8 ∷ Sent false 0xA0 ∷ Start ∷ []) ++ (id_events n ++ (Read true ∷ []))) (quiet (fresh part 0), [], [], no_values)).0.said

pub seven_id_bytes :
    map (id_read 1) (0 ∷ 1 ∷ 2 ∷ 3 ∷ 4 ∷ 5 ∷ 6 ∷ []) ++ map (id_read 2) (0 ∷ 1 ∷ 2 ∷ 3 ∷ 4 ∷ 5 ∷ 6 ∷ [])
    ≡ (0x00 ∷ 0xD0 ∷ 0xD0 ∷ 0x00 ∷ 0xD0 ∷ 0xD0 ∷ 0x00 ∷ []) ++ (0x00 ∷ 0xD0 ∷ 0xA8 ∷ 0x00 ∷ 0xD0 ∷ 0xA8 ∷ 0x00 ∷ [])
unfolding step values_after take span_after taking.values_after take_address take_choice call_of call_by_form geometry_of read
seven_id_bytes = refl

-- a line that passes the checks at entry, and one of its chips
module _ (world : World) (typed : OfItsType (bus_of world)) (enters : first_of (entry_checks (bus_of world) (array_of world) (security_of world)) ≡ Ok tt) (k : ℕ) (below : k < (bus_of world).count) where
  abbrev count : ℕ
  count = (bus_of world).count

  abbrev chips : List Chip
  chips = (bus_of world).chips

  entry : Entered (bus_of world) (array_of world) (security_of world)
  entry = entered (bus_of world) (array_of world) (security_of world) enters

  here : k < placed count
  here = omega (arith, below, entry.all_placed)

  others_beside : (j : ℕ) → j < placed count → (j ≡ k → ⊥) → side_by_side (control_at chips k) (control_at chips j) ≡ true
  others_beside j before differ = go (dec_lt j k) (dec_lt k j)
    where
      apart : (i j : ℕ) → i < placed count → j < i → side_by_side (control_at chips i) (control_at chips j) ≡ true
      apart = (formed_of count (bus_of world).started chips entry.formed).apart

      go : Dec (j < k) → Dec (k < j) → side_by_side (control_at chips k) (control_at chips j) ≡ true
      go (yes p) q = apart k j here p
      go (no p) (yes q) = beside_sym (control_at chips j) (control_at chips k) (apart j k before q)
      go (no p) (no q) = absurd (differ (omega arith))

  -- an event to all that clashes with no chip passes all checks
  passes : (word : ℕ) (event : Event) → first_of (decode_checks count word) ≡ Ok tt → addressed_of (bus_of world).started word ≡ ToAll event
      → ((j : ℕ) → j < placed count → (j ≡ k → ⊥) → clashes_with event (control_at chips j).phase ≡ false)
      → clashes_with event (control_at chips k).phase ≡ false
      → first_of (step_checks (bus_of world) (array_of world) (security_of world) word) ≡ Ok tt
  passes word event decodes asks others mine =
      passed_first (entry_checks (bus_of world) (array_of world) (security_of world)) (event_checks (bus_of world) word) enters
      ∙ passed_first (decode_checks count word) (line_checks (addressed_of (bus_of world).started word) count chips) decodes
      ∙ rw (asks, any_one (λ (i : ℕ). clashes_with event (control_at chips i).phase) (placed count) k here others, mine)

  -- F9h, where the chip is chosen: no other sends, and it identifies itself (request E7)
  module _ (asked : IsAsked (control_at chips k)) where
    able : (geometry_of (control_at chips k).part).identifies ≡ true
    able = chosen_identifies (chip_at chips k) ((formed_of count (bus_of world).started chips entry.formed).fit k here) asked.chosen

    f9_passes : first_of (step_checks (bus_of world) (array_of world) (security_of world) (word_of 3 0xF9)) ≡ Ok tt
    unfolding addressed_of
    f9_passes =
        passes (word_of 3 0xF9) (Sent (bus_of world).started 0xF9) refl refl
        (λ j before differ. no_other_sends (control_at chips k) (control_at chips j) (others_beside j before differ) (rw asked.chosen))
        (rw asked.awaits)

    f9_taken : chip_at (after_one bus.step world (word_of 3 0xF9)).0.chips k ≡ identifies (chip_at chips k) 0
    unfolding addressed_of
    f9_taken =
        (step_is_each_chips_own (bus_of world) (array_of world) (security_of world) (word_of 3 0xF9) typed f9_passes k below).0
        ∙ ap (λ (at : Stepped × List ℕ × List ℕ). at.0.chip) (asked_identifies (chip_at chips k) _ _ _ _ able asked)

  -- a byte read, where the chip sends its ID: no other takes
  module _ (c : Chip) (n : ℕ) (sends : chip_at chips k ≡ identifies c n) (nack : Bool) where
    abbrev array : List ℕ
    array = array_share (places_of chips) k (array_of world)

    abbrev security : List ℕ
    security = security_share (places_of chips) k (security_of world)

    asks : addressed_of (bus_of world).started (read_word nack) ≡ ToAll (Read nack)
    unfolding addressed_of
    asks = go nack
      where
        go : (nack : Bool) → addressed_of (bus_of world).started (read_word nack) ≡ ToAll (Read nack)
        go true = refl
        go false = refl

    is_sending_lem : is_sending (control_at chips k).phase ≡ true
    is_sending_lem = ap (λ (d : Chip). is_sending d.control.phase) sends

    read_passes : first_of (step_checks (bus_of world) (array_of world) (security_of world) (read_word nack)) ≡ Ok tt
    read_passes =
        passes (read_word nack) (Read nack)
        (either (λ (reply : ℕ). first_of (decode_checks count (word_of 4 reply)) ≡ Ok tt) nack 1 0 refl refl)
        asks
        (λ j before differ. no_other_takes (control_at chips k) (control_at chips j) (others_beside j before differ) is_sending_lem)
        (ap (λ (d : Chip). is_taking d.control.phase) sends)

    read_taken : chip_at (after_one bus.step world (read_word nack)).0.chips k ≡ (step (identifies c n) (bus_of world).values array security (Read nack)).0.chip
    read_taken =
        (step_is_each_chips_own (bus_of world) (array_of world) (security_of world) (read_word nack) typed read_passes k below).0 ∙ rw (asks, sends)

    read_answered : answer_to bus.step world (read_word nack) ≡ word_of 0 (round_byte c.control n)
    read_answered =
        ap answer_word (step_answers_for_all (bus_of world) (array_of world) (security_of world) (read_word nack) typed read_passes)
        ∙ rw (
          asks,
          the_sender_is_heard nack count (bus_of world).started chips (bus_of world).values (array_of world) (security_of world) k entry.formed here is_sending_lem,
          sends,
          sends_round c (bus_of world).values array security n nack,
        )

-- a line on which chip k has sent n ID bytes and goes on
record Identifies (c : Chip) (k n : ℕ) (now : World) : Type 0 where
  typed : OfItsType (bus_of now)
  enters : first_of (entry_checks (bus_of now) (array_of now) (security_of now)) ≡ Ok tt
  below : k < (bus_of now).count
  sends : chip_at (bus_of now).chips k ≡ identifies c n

after_word : (world : World) (word : ℕ) (c : Chip) (k n : ℕ) → OfItsType (bus_of world)
    → first_of (entry_checks (bus_of world) (array_of world) (security_of world)) ≡ Ok tt
    → k < (bus_of world).count
    → chip_at (after_one bus.step world word).0.chips k ≡ identifies c n
    → Identifies c k n (after_one bus.step world word)
after_word world word c k n typed enters below sends =
    let kept = step_keeps (bus_of world) (array_of world) (security_of world) word typed enters in
    record { typed = kept.typed; enters = kept.enters; below = omega (arith, below, kept.count); sends = sends }

-- m bytes more
reads_on_lem : (c : Chip) (k m from to : ℕ) → from + m ≡ to → (now : World) → Identifies c k from now
    → Identifies c k to (after bus.step now (replicate m (read_word false)))
unfolding after
reads_on_lem c k zero from to is now i = subst (λ (n : ℕ). Identifies c k n now) (omega (arith, is)) i
reads_on_lem c k (suc m) from to is now i =
    reads_on_lem c k m (from + 1) to (omega (arith, is)) (after_one bus.step now (read_word false))
    (after_word now (read_word false) c k (from + 1) i.typed i.enters i.below
    (read_taken now i.typed i.enters k i.below c from i.sends false
    ∙ ap (λ (at : Stepped × List ℕ × List ℕ). at.0.chip) (goes_on c _ _ _ from)))

pub id_goes_round_on_the_line : (world : World) → OfItsType (bus_of world)
    → first_of (entry_checks (bus_of world) (array_of world) (security_of world)) ≡ Ok tt
    → (k : ℕ) → k < (bus_of world).count
    → IsAsked (control_at (bus_of world).chips k)
    → (n : ℕ) (nack : Bool)
    → answer_to bus.step (after bus.step world (id_words n)) (read_word nack) ≡ word_of 0 (round_byte (control_at (bus_of world).chips k) n)
unfolding after
id_goes_round_on_the_line world typed enters k below asked n nack =
    let c = chip_at (bus_of world).chips k in
    let begun = after_word world (word_of 3 0xF9) c k 0 typed enters below (f9_taken world typed enters k below asked) in
    let i : Identifies c k n (after bus.step world (id_words n)) = reads_on_lem c k n 0 n (omega arith) (after_one bus.step world (word_of 3 0xF9)) begun in
    read_answered (after bus.step world (id_words n)) i.typed i.enters k i.below c n i.sends nack
