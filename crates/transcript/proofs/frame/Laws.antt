-- When each answer is given: the end exactly at or past the end, an event exactly where a line stands, and 9 exactly where
-- something is left that is no line.
use Prim.Native.Nat.{ℕ, ◌+◌, ◌<◌, ◌≤◌}
use native.Mathlib.Omega.{arith}
use mathlib.Core.Bool.{Bool, true, false, cond, true≢false}
use mathlib.Core.List.{List}
use mathlib.Core.Logic.{◌↔◌}
use mathlib.Core.Path.{◌≡◌, refl, sym}
use lib.Dec.{leb}
use lib.ListN.{length}
use borrow.Author.Tests.{le-leb, lt-leb, leb-true, leb-false}
use Rattle.base.proofs.logic.Laws.{and_left}
use Rattle.transcript.specs.Frame.{is_frame_at, event_at, frame_at, meaning}
use Rattle.transcript.specs.declared.frame.Frame.{Frame}
use Rattle.transcript.specs.declared.frame.Frame.TheVariants.{Event, Malformed, End}

module _ (event next at : ℕ) where
  -- the three answers, by the two tests that tell them apart
  answer : Bool → Bool → Frame
  answer ended frame = cond ended End (cond frame (Event event next) Malformed)

  nine : (ended frame : Bool) → ((meaning (answer ended frame) at).status ≡ 9) ↔ ((ended ≡ false) × (frame ≡ false))
  unfolding answer
  nine true frame = (λ (no_nine : ◌≡◌ {A = ℕ} 0 9). absurd (omega arith), λ both. absurd (true≢false both.0))
  nine false true = (λ (no_nine : ◌≡◌ {A = ℕ} 0 9). absurd (omega arith), λ both. absurd (true≢false both.1))
  nine false false = (λ _. (refl, refl), λ _. refl)

  end : (ended frame : Bool) → (answer ended frame ≡ End) ↔ (ended ≡ true)
  unfolding answer
  end true frame = (λ _. refl, λ _. refl)
  end false true = (λ same. cc, λ said. cc)
  end false false = (λ same. cc, λ said. cc)

  event_read : (ended frame : Bool) (e n : ℕ) → (answer ended frame ≡ Event e n) ↔ ((ended ≡ false) × (frame ≡ true) × (e ≡ event) × (n ≡ next))
  unfolding answer
  event_read true frame e n = (λ same. (cc, cc, cc, cc), λ all. absurd (true≢false all.0))
  event_read false true e n = (λ same. (refl, refl, cc, cc), λ all. let is-e : e ≡ event = all.2 in let is-n : n ≡ next = all.3 in cc)
  event_read false false e n = (λ same. (cc, cc, cc, cc), λ all. absurd (true≢false (sym all.1)))

module _ (text : List ℕ) (at : ℕ) where
  pub nine_exactly_when : ((meaning (frame_at text at) at).status ≡ 9) ↔ ((at < length text) × (is_frame_at text at ≡ false))
  unfolding answer
  nine_exactly_when =
      let by_tests : ((meaning (frame_at text at) at).status ≡ 9) ↔ ((leb (length text) at ≡ false) × (is_frame_at text at ≡ false)) = nine (event_at text at) (at + 5) at (leb (length text) at) (is_frame_at text at) in (
        λ said. (leb-false _ _ (by_tests.0 said).0, (by_tests.0 said).1),
        λ both. by_tests.1 (lt-leb _ _ both.0, both.1),
      )

  pub end_exactly_when : (frame_at text at ≡ End) ↔ (length text ≤ at)
  unfolding answer
  end_exactly_when =
      let by_test : (frame_at text at ≡ End) ↔ (leb (length text) at ≡ true) = end (event_at text at) (at + 5) at (leb (length text) at) (is_frame_at text at) in
      (λ said. leb-true _ _ (by_test.0 said), λ past. by_test.1 (le-leb _ _ past))

  pub event_exactly_when : (event next : ℕ) → (frame_at text at ≡ Event event next) ↔ ((is_frame_at text at ≡ true) × (event ≡ event_at text at) × (next ≡ at + 5))
  unfolding answer
  event_exactly_when event next =
      let by_tests : (frame_at text at ≡ Event event next) ↔ ((leb (length text) at ≡ false) × (is_frame_at text at ≡ true) × (event ≡ event_at text at) × (next ≡ at + 5)) = event_read (event_at text at) (at + 5) at (leb (length text) at) (is_frame_at text at) event next in (
        λ said. ((by_tests.0 said).1, (by_tests.0 said).2, (by_tests.0 said).3),
        λ all.
            let room : at + 5 ≤ length text = leb-true _ _ (and_left (leb (at + 5) (length text)) _ all.0) in
            let left : at < length text = omega arith in
            by_tests.1 (lt-leb _ _ left, all.0, all.1, all.2),
      )
