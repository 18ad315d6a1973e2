-- FFFF0900 is said exactly when a run is over. No line is answered so: the event FFFF is of no known kind, so that a step refuses it
-- with 10, 5 or 6, and any other event's answer begins with other digits.
use Prim.Native.Nat.{ℕ, zero, suc, ◌+◌, ◌*◌, ◌<◌, ◌/◌, ◌%◌}
use native.Mathlib.Decide.{dec_lt}
use native.Mathlib.Omega.{arith}
use mathlib.Core.Bool.{Bool, true, false}
use mathlib.Core.List.{List, ◌∷◌, ◌++◌}
use mathlib.Core.Logic.{◌↔◌, ◌⊎◌}
use mathlib.Core.Path.{◌≡◌, ◌∙◌, refl, sym, ap}
use lib.Dec.{ltb}
use lib.ListN.{length, get_or, take, drop, length-append}
use lib.Seq.{drop_at}
use borrow.Author.Tests.{ltb-true}
use Rattle.base.specs.Fold.{up_to}
use Rattle.base.specs.Store.{span}
use Rattle.base.specs.Word.{high_of}
use Rattle.refusal.specs.Refusal.{answer_word}
use Rattle.refusal.specs.Checks.{first_of}
use Rattle.refusal.specs.declared.Refusal.TheVariants.{NotWellFormed, WrongLength}
use Rattle.bus.specs.declared.Bus.{Bus}
use Rattle.bus.specs.Step.{entry_checks, event_checks, step_by, step}
use Rattle.bus.proofs.Entry.{step_by_checks}
use Rattle.transcript.specs.Frame.{event_at}
use Rattle.print.specs.Print.{digit_text, printed, closing}
use Rattle.conversation.specs.declared.Heard.{Heard}
use Rattle.conversation.specs.Talk.{Left, laid_on, converse}
use Rattle.conversation.specs.Whole.{answer_all}
use Rattle.blocks.specs.Frames.{TalkEnds, WholeEnds, Spoken, unplayed, after_frames, WholeLeft, SaysNine}
use Rattle.base.proofs.Store.{span_front}
use Rattle.blocks.proofs.Nine.{told_apart, said_long, converse_ends, converse_pauses, talk_ends_or_pauses, answer_all_ends, answer_all_pauses, whole_ends_or_pauses}

digit_f : (value : ℕ) → digit_text value ≡ 70 → value ≡ 15
digit_f value is = go (ltb value 10) refl
  where
    go : (small : Bool) → ltb value 10 ≡ small → value ≡ 15
    go true e =
        let same : 48 + value ≡ 70 = rw e at is in
        omega (arith, ltb-true value 10 e)
    go false e =
        let same : 55 + value ≡ 70 = rw e at is in
        omega arith

module _ (bus : Bus) (array security : List ℕ) (event : ℕ) where
  abbrev answer : List ℕ
  answer = printed event (answer_word (step bus array security event).0.answer)

  kind_ff : answer ≡ closing 9 → high_of event ≡ 255
  kind_ff same =
      let first = digit_f (high_of event / 16) (ap (λ (xs : List ℕ). get_or xs 0 0) same) in
      let second = digit_f (high_of event % 16) (ap (λ (xs : List ℕ). get_or xs 1 0) same) in
      omega arith

  -- by the two checks that come before the event's kind
  abbrev answer_by : Bool → Bool → List ℕ
  answer_by unfit wrong =
      printed event (answer_word (step_by (first_of ((unfit, NotWellFormed) ∷ (wrong, WrongLength) ∷ event_checks bus event)) bus array security event).0.answer)

  other_status : (unfit wrong : Bool) → high_of event ≡ 255 → get_or (answer_by unfit wrong) 5 0 ≡ 57 → ⊥
  other_status true wrong kind is = let ten : ◌≡◌ {A = ℕ} 65 57 = is in omega arith
  other_status false true kind is = let five : ◌≡◌ {A = ℕ} 53 57 = is in omega arith
  other_status false false kind is = let six : ◌≡◌ {A = ℕ} 54 57 = rw kind at is in omega arith

  pub no_answer_is_nine : answer ≡ closing 9 → ⊥
  no_answer_is_nine same =
      let checks = entry_checks bus array security in
      other_status (get_or checks 0 (false, NotWellFormed)).0 (get_or checks 1 (false, WrongLength)).0 (kind_ff same) (ap (λ (xs : List ℕ). get_or xs 5 0) (rw (step_by_checks bus array security event) at same))

module _ (text : List ℕ) (bus : Bus) (array security : List ℕ) where
  abbrev after : ℕ → Spoken
  after k = after_frames text k (unplayed bus array security)

  abbrev answer_of : ℕ → List ℕ
  answer_of j = answer (after j).bus (after j).array (after j).security (event_at text (j * 5))

  long : (k : ℕ) → length (after k).said ≡ k * 9
  long = said_long text bus array security

  -- each line's answer stands at its place
  pub line_said : (k j : ℕ) → j < k → span (j * 9) 9 (after k).said ≡ answer_of j
  unfolding up_to
  line_said zero j below = absurd (omega arith)
  line_said (suc k) j below = go (dec_lt j k) (line_said k j)
    where
      go : Dec (j < k) → (j < k → span (j * 9) 9 (after k).said ≡ answer_of j) → span (j * 9) 9 (after (suc k)).said ≡ answer_of j
      go (yes before) earlier = span_front (j * 9) 9 (after k).said (answer_of k) (omega (arith, long k)) ∙ earlier before
      go (no last) earlier =
          let same : j ≡ k = omega arith in
          rw same (ap (take 9) (drop_at (after k).said (answer_of k) (k * 9) (long k)))

  module _ (buffer : List ℕ) where
    none_said : (k : ℕ) (heard : Heard) (out : List ℕ) → heard.written ≡ k * 9 → out ≡ laid_on buffer (after k).said → SaysNine heard out → ⊥
    none_said k heard out written laid (j, inside, here) =
        let front = span_front (j * 9) 9 (after k).said (drop (length (after k).said) buffer) (omega (arith, long k)) in
        no_answer_is_nine (after j).bus (after j).array (after j).security (event_at text (j * 5))
        (sym (line_said k j (omega arith)) ∙ sym front ∙ ap (span (j * 9) 9) (sym laid) ∙ here)

    nine_said : (k : ℕ) (heard : Heard) (out : List ℕ) → heard.written ≡ (k + 1) * 9 → out ≡ laid_on buffer ((after k).said ++ closing 9) → SaysNine heard out
    nine_said k heard out written laid =
        let all = (after k).said ++ closing 9 in
        let front = span_front (k * 9) 9 all (drop (length all) buffer) (omega (arith, long k, length-append (after k).said (closing 9))) in
        (k, omega arith, ap (span (k * 9) 9) laid ∙ front ∙ ap (take 9) (drop_at (after k).said (closing 9) (k * 9) (long k)))

    -- what ends in one of two ways says it exactly when it ends so
    says_nine_when : {Ends Pauses : Type 0} (heard : Heard) (out : List ℕ) → Ends ⊎ Pauses
        → (Ends → (k : ℕ) × (heard.written ≡ (k + 1) * 9) × (out ≡ laid_on buffer ((after k).said ++ closing 9)))
        → (Pauses → (k : ℕ) × (heard.written ≡ k * 9) × (out ≡ laid_on buffer (after k).said))
        → SaysNine heard out ↔ Ends
    says_nine_when heard out one ends pauses =
        (told_apart one
        (λ e. let (k, written, laid) = ends e in nine_said k heard out written laid)
        (λ p. let (k, written, laid) = pauses p in none_said k heard out written laid)
        (λ says never. never says)
        ).0

    abbrev talked : Left
    talked = converse text bus array security buffer

    pub converse_says_nine_exactly_when : SaysNine talked.0 talked.4 ↔ TalkEnds text buffer
    converse_says_nine_exactly_when =
        says_nine_when talked.0 talked.4 (talk_ends_or_pauses text bus array security buffer)
        (λ (k, bad, room). let left = converse_ends text bus array security buffer k bad room in (k, ap (λ (l : Left). l.0.written) left, ap (λ (l : Left). l.4) left))
        (λ (k, frames, room, stop). let left = converse_pauses text bus array security buffer k frames room stop in (k, ap (λ (l : Left). l.0.written) left, ap (λ (l : Left). l.4) left))

    abbrev answered : WholeLeft
    answered = answer_all text bus array security buffer

    pub answer_all_says_nine_exactly_when : SaysNine answered.0 answered.3 ↔ WholeEnds text buffer
    answer_all_says_nine_exactly_when =
        says_nine_when answered.0 answered.3 (whole_ends_or_pauses text bus array security buffer)
        (λ (k, bad, room). let left = answer_all_ends text bus array security buffer k bad room in (k, ap (λ (l : WholeLeft). l.0.written) left, ap (λ (l : WholeLeft). l.3) left))
        (λ (k, frames, room, stop). let left = answer_all_pauses text bus array security buffer k frames room stop in (k, ap (λ (l : WholeLeft). l.0.written) left, ap (λ (l : WholeLeft). l.3) left))
