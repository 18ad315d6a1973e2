-- The events of a turn of chip k, one after the other: each is one that the others sit through, and the last leaves k at rest.
use Prim.Native.Nat.{ℕ, ◌<◌}
use native.Mathlib.Omega.{arith}
use mathlib.Core.Bool.{Bool, true, false, true≢false}
use mathlib.Core.List.{List, [], ◌∷◌}
use mathlib.Core.Path.{◌≡◌, ◌∙◌, refl, sym, ap}
use borrow.Author.Tests.{eq-eqb}
use Rattle.chip.specs.declared.event.Event.TheVariants.{Start, Stop, Sent}
use Rattle.std.specs.Result.{is_ok}
use Rattle.board.specs.declared.Place.{Place}
use Rattle.decode.specs.declared.Addressed.{Addressed}
use Rattle.decode.specs.declared.Addressed.TheVariants.{ToAll, ToOne}
use Rattle.decode.specs.Decode.{value_of, reaches, event_of}
use Rattle.lineup.specs.Chips.{chip_at, control_at}
use Rattle.bus.specs.Step.{remembers, step}
use Rattle.bus.proofs.Entry.{entered}
use Rattle.promises.specs.Playing.{World, after_one}
use Rattle.promises.proofs.Formed.{formed_of}
use Rattle.promises.proofs.Kept.{named_remembers}
use Rattle.turns.specs.Turn.{is_start, is_stop, is_sent, is_f8, is_naming, is_address_of, is_first_byte, Next, Anything, AddressByte, ChoiceByte}
use Rattle.turns.specs.Alone.{alone}
use Rattle.turns.proofs.Asked.{Asked, start_asks, stop_asks, sent_asks, f8_asks, read_asks, naming_asks}
use Rattle.turns.proofs.Resting.{stop_rests, named_rests, start_heeds, f8_heeds, heeding_sends_nothing}
use Rattle.turns.proofs.Event.{calm_alone}
use Rattle.turns.proofs.During.{During, SitsThrough, Went, event_goes, calm_goes, last_goes}
use Rattle.turns.proofs.Others.{silent, to_f8, Others, sits_start, sits_stop, sits_byte, sits_read, sits_named, sits_first, sits_f8, sits_choice}
use Rattle.turns.proofs.Grammar.{Cases}

-- the byte that follows a Start at once has one just before it
abbrev Flag : Next → Bool → Type 0
Flag Anything started = Unit {0}
Flag AddressByte started = started ≡ true
Flag ChoiceByte started = Unit {0}

module _ (k : ℕ) (place : Place) (began : World) (b : Others k place began) where
  -- from wherever a turn has come to, the rest of it leads to its end
  abbrev pub Leads : Next → List ℕ → Type 0
  Leads next events = (started : Bool) (now : World) → Flag next started → During k next began now → Went k started events began now

  stop_leads : (word : ℕ) → is_stop word ≡ true → Leads Anything (word ∷ [])
  stop_leads word is started now flag d =
      let entry = entered now.0 now.1 now.2 d.entering.enters in
      last_goes k Anything Anything began now b.below d word (ToAll Stop) (stop_asks false now.0.count word is) refl refl silent (sits_stop k place began b) started
      (λ none c. refl)
      refl
      (λ refusal is. absurd (true≢false (ap is_ok (sym (calm_alone k now Stop refl) ∙ is))))
      (stop_rests _ _ _ _ ((formed_of now.0.count now.0.started now.0.chips entry.formed).fit k (omega (arith, b.below, d.count, entry.all_placed))))

  -- an event by itself that names k: refused it leaves k as it was
  pub named_leads : (word : ℕ) → is_naming k word ≡ true → During k Anything began began → Went k false (word ∷ []) began began
  named_leads word is d =
      let (event, (named, asked)) = naming_asks false began.0.count k word b.below is in
      last_goes k Anything Anything began began b.below d word (ToOne k event) asked (eq-eqb k k refl) (named_remembers event false named) silent (λ j before differ. sits_named k place began b j before differ event) false
      (λ none c. refl)
      refl
      (λ refusal is. (refl, b.at_rest k b.below))
      (named_rests _ _ _ _ event named (b.at_rest k b.below))

  module _ (word : ℕ) (more : List ℕ) where
    start_leads : is_start word ≡ true → Leads AddressByte more → Leads Anything (word ∷ more)
    start_leads is later started now flag d =
        calm_goes k Anything AddressByte began now b.below d word (ToAll Start) (start_asks false now.0.count word is) refl refl silent (sits_start k place began b) started
        (λ none c. refl)
        more
        (later (is_start word) (after_one step now word) is)
        (calm_alone k now Start refl)
        (start_heeds (chip_at now.0.chips k) now.0.values (alone k now).1 (alone k now).2)

    -- between, refused or not
    between_leads : Leads Anything more → (started : Bool) (now : World) (d : During k Anything began now) (addressed : Addressed) → Asked false now.0.count word addressed → reaches addressed k ≡ true → remembers (event_of addressed) false ≡ false
        → ((j : ℕ) → j < began.0.count → (j ≡ k → ⊥) → SitsThrough addressed Anything Anything silent j began)
        → Went k started (word ∷ more) began now
    between_leads later started now d addressed asked reached remembered sit =
        event_goes k Anything Anything began now b.below d word addressed asked reached remembered silent sit started
        (λ none c. refl)
        more
        (later (is_start word) (after_one step now word) tt)
        (λ refusal is. refl)
        tt

    naming_leads : is_naming k word ≡ true → Leads Anything more → Leads Anything (word ∷ more)
    naming_leads is later started now flag d =
        let (event, (named, asked)) = naming_asks false now.0.count k word (omega (arith, b.below, d.count)) is in
        between_leads later started now d (ToOne k event) asked (eq-eqb k k refl) (named_remembers event false named) (λ j before differ. sits_named k place began b j before differ event)

    first_leads : is_sent word ≡ true → is_first_byte place (value_of word) ≡ true → Leads Anything more → Leads AddressByte (word ∷ more)
    first_leads is first later started now flag d =
        calm_goes k AddressByte Anything began now b.below d word _ (sent_asks true now.0.count word is) refl refl silent (λ j before differ. sits_first k place began b j before differ _ first) started
        (λ none c. refl)
        more
        (later (is_start word) (after_one step now word) tt)
        (calm_alone k now (Sent true (value_of word)) (heeding_sends_nothing (control_at now.0.chips k).phase d.heeds))
        tt

    -- the one event to which other chips answer
    f8_leads : is_f8 word ≡ true → Leads ChoiceByte more → Leads AddressByte (word ∷ more)
    f8_leads is later started now flag d =
        calm_goes k AddressByte ChoiceByte began now b.below d word (ToAll (Sent true 0xF8)) (f8_asks true now.0.count word is) refl refl to_f8 (sits_f8 k place began b) started
        (λ none. absurd (true≢false (rw (flag, is) at none)))
        more
        (later (is_start word) (after_one step now word) tt)
        (calm_alone k now (Sent true 0xF8) (heeding_sends_nothing (control_at now.0.chips k).phase d.heeds))
        (f8_heeds (chip_at now.0.chips k) now.0.values (alone k now).1 (alone k now).2 true d.heeds)

    choice_leads : is_sent word ≡ true → is_address_of 0b1010 place (value_of word) ≡ true → Leads Anything more → Leads ChoiceByte (word ∷ more)
    choice_leads is named later started now flag d =
        calm_goes k ChoiceByte Anything began now b.below d word _ (sent_asks false now.0.count word is) refl refl silent (λ j before differ. sits_choice k place began b j before differ _ named) started
        (λ none c. refl)
        more
        (later (is_start word) (after_one step now word) tt)
        (calm_alone k now (Sent false (value_of word)) d.heeds)
        tt

  pub each_leads : Cases place k Leads
  each_leads =
      record {
        stop = stop_leads;
        start = start_leads;
        sent = λ word more is later started now flag d.
            between_leads word more later started now d _ (sent_asks false now.0.count word is) refl refl (λ j before differ. sits_byte k place began b j before differ _);
        read = λ word more is later started now flag d.
            between_leads word more later started now d _ (read_asks false now.0.count word is) refl refl (λ j before differ. sits_read k place began b j before differ _);
        named = naming_leads;
        first = λ word more other. first_leads word more;
        f8 = f8_leads;
        choice = choice_leads;
      }
