-- The answers of a run, as its caller finds them in the buffer: each is that of the step in the state that the events before it
-- have led to, and a reply is a byte, so that a word says which refusal was given. A refused step leads nowhere, so all else is
-- as if it had not been there.
use Prim.Native.Nat.{ℕ, suc, ◌+◌, ◌*◌, ◌<◌}
use native.Mathlib.Omega.{arith}
use mathlib.Core.List.{List, [], ◌∷◌, ◌++◌}
use mathlib.Core.Logic.{◌↔◌}
use mathlib.Core.Path.{◌≡◌, ◌∙◌, refl, sym, ap}
use lib.ListN.{length, get_or, take, length-append, get_or-append}
use lib.Seq.{take-append_seam, get_or-append-add, get_or-append_seam}
use Rattle.base.specs.Every.{AllBytes}
use Rattle.refusal.specs.Verdict.{Verdict, Answer}
use Rattle.std.specs.Prelude.{Ok, Err}
use Rattle.refusal.specs.Refusal.{status_in, answer_word}
use Rattle.refusal.proofs.Checks.{Given}
use Rattle.bus.specs.declared.Bus.{Bus}
use Rattle.bus.specs.Step.{step_checks, step}
use Rattle.bus.specs.Run.{Progress, run}
use Rattle.bus.proofs.Typed.{OfItsType}
use Rattle.promises.specs.Answers.{ButForItsWord}
use Rattle.promises.specs.Bytes.{HoldsBytes}
use Rattle.promises.specs.Playing.{World, stepped, led_to, after_one, answer_to, after, answers_to}
use Rattle.promises.proofs.Bytes.{AnswerByte, typed_holds_bytes, every_step_keeps_bytes, replies_are_bytes}
use Rattle.promises.proofs.Exactly.{step_exactly_when}
use Rattle.promises.proofs.Playing.{answers_append, answers_length, answer_at, after_without, answers_without}
use Rattle.promises.proofs.Refused.{refused_step_leaves_all}
use Rattle.promises.proofs.Runs.{run_is_its_steps}

-- a refusal is given as its number times 256, and no reply that is a byte looks like one
refused_word : (a : Answer) (n : ℕ) → 0 < n → status_in a ≡ n → answer_word a ≡ n * 256
refused_word (Ok reply) n some is = absurd (omega (arith, is))
refused_word (Err refusal) n some is = omega (arith, is)

word_refused : (a : Answer) → AnswerByte a → (n : ℕ) → 0 < n → answer_word a ≡ n * 256 → status_in a ≡ n
word_refused (Ok reply) byte n some is = absurd (omega (arith, is))
word_refused (Err refusal) byte n some is = omega (arith, is)

after_bytes : (world : World) (events : List ℕ) → HoldsBytes world.0 world.1 world.2
    → let now = after step world events in HoldsBytes now.0 now.1 now.2
unfolding after
after_bytes world [] held = held
after_bytes world (word ∷ more) held =
    after_bytes (after_one step world word) more (every_step_keeps_bytes world.0 world.1 world.2 word held)

-- a step that is refused leads nowhere
refused_stays : (world : World) (word n : ℕ) → 0 < n → status_in (stepped step world word).0.answer ≡ n → after_one step world word ≡ world
refused_stays world word n some is = go (stepped step world word).0.answer refl is
  where
    go : (a : Answer) → (stepped step world word).0.answer ≡ a → status_in a ≡ n → after_one step world word ≡ world
    go (Ok reply) said given = absurd (omega (arith, given))
    go (Err refusal) said given = ap led_to (refused_step_leaves_all world.0 world.1 world.2 word refusal said)

-- two buffers whose answers differ by one that only the first has
module _ (first later rest rest' : List ℕ) (word : ℕ) where
  abbrev longer : List ℕ
  longer = (first ++ (word ∷ later)) ++ rest

  abbrev shorter : List ℕ
  shorter = (first ++ later) ++ rest'

  same_before : (i : ℕ) → i < length first → get_or longer i 0 ≡ get_or shorter i 0
  same_before i below =
      get_or-append (first ++ (word ∷ later)) rest 0 i (omega (arith, length-append first (word ∷ later)))
      ∙ get_or-append first (word ∷ later) 0 i below
      ∙ sym (get_or-append first later 0 i below)
      ∙ sym (get_or-append (first ++ later) rest' 0 i (omega (arith, length-append first later)))

  same_behind : (i : ℕ) → i < length later → get_or longer (length first + suc i) 0 ≡ get_or shorter (length first + i) 0
  same_behind i below =
      get_or-append (first ++ (word ∷ later)) rest 0 (length first + suc i) (omega (arith, length-append first (word ∷ later)))
      ∙ get_or-append-add first (word ∷ later) (suc i) 0
      ∙ sym (get_or-append-add first later i 0)
      ∙ sym (get_or-append (first ++ later) rest' 0 (length first + i) (omega (arith, length-append first later)))

module _ (bus : Bus) (array security : List ℕ) (typed : OfItsType bus) where
  abbrev world : World
  world = (bus, array, security)

  -- the state that the events before event i have led to
  abbrev reached : List ℕ → ℕ → World
  reached events i = after step (bus, array, security) (take i events)

  module _ (events answers : List ℕ) (passes : (run bus array security events answers).0 ≡ Ok tt) where
    word_is : (i : ℕ) → i < length events → get_or (run bus array security events answers).1.3 i 0 ≡ answer_to step (reached events i) (get_or events i 0)
    word_is i below =
        ap (λ (ran : Verdict × Progress). get_or ran.1.3 i 0) (run_is_its_steps bus array security events answers typed passes)
        ∙ get_or-append (answers_to step world events) _ 0 i (omega (arith, below, answers_length step world events))
        ∙ answer_at step world events i below

    pub run_answers_exactly_when : AllBytes array → AllBytes security → (i : ℕ) → i < length events → (n : ℕ) → 0 < n
        → let now = reached events i in
        (get_or (run bus array security events answers).1.3 i 0 ≡ n * 256) ↔ Given (step_checks now.0 now.1 now.2 (get_or events i 0)) n
    run_answers_exactly_when in_array in_security i below n some =
        let now : World = reached events i in
        let word : ℕ = get_or events i 0 in
        let said : Answer = (stepped step now word).0.answer in
        let held = after_bytes world (take i events) (typed_holds_bytes bus array security typed in_array in_security) in
        let byte = replies_are_bytes now.0 now.1 now.2 word held in
        let exactly = step_exactly_when now.0 now.1 now.2 word n some in
        (λ given. exactly.0 (word_refused said byte n some (sym (word_is i below) ∙ given)), λ holds. word_is i below ∙ refused_word said n some (exactly.1 holds))

  -- an event that a run refuses leaves everything but its word: a run of the list without it ends alike and answers alike
  module _ (before : List ℕ) (word : ℕ) (rest answers others : List ℕ) (passes : (run bus array security (before ++ (word ∷ rest)) answers).0 ≡ Ok tt) (passes' : (run bus array security (before ++ rest) others).0 ≡ Ok tt) where
    abbrev now : World
    now = after step world before

    the_word : get_or (run bus array security (before ++ (word ∷ rest)) answers).1.3 (length before) 0 ≡ answer_to step now word
    the_word =
        word_is (before ++ (word ∷ rest)) answers passes (length before) (omega (arith, length-append before (word ∷ rest)))
        ∙ rw (take-append_seam before (word ∷ rest), get_or-append_seam before word rest 0)

    pub refused_event_leaves_all_but_its_word : (n : ℕ) → 0 < n
        → let now = after step (bus, array, security) before in Given (step_checks now.0 now.1 now.2 word) n
        → (get_or (run bus array security (before ++ (word ∷ rest)) answers).1.3 (length before) 0 ≡ n * 256)
        × ButForItsWord before rest (run bus array security (before ++ (word ∷ rest)) answers).1 (run bus array security (before ++ rest) others).1
    refused_event_leaves_all_but_its_word n some given =
        let status = (step_exactly_when now.0 now.1 now.2 word n some).1 given in
        let stays = refused_stays now word n some status in
        let with = run_is_its_steps bus array security (before ++ (word ∷ rest)) answers typed passes in
        let without = run_is_its_steps bus array security (before ++ rest) others typed passes' in
        let ends = after_without step world before word rest stays in
        let first : List ℕ = answers_to step world before in
        let later : List ℕ = answers_to step now rest in
        let long : length first ≡ length before = answers_length step world before in
        let words = answers_without step world before word rest stays in
        let words' = answers_append step world before rest in (
          the_word ∙ refused_word (stepped step now word).0.answer n some status,
          record {
            bus = ap (λ (ran : Verdict × Progress). ran.1.0) with ∙ ap (λ (w : World). w.0) ends ∙ sym (ap (λ (ran : Verdict × Progress). ran.1.0) without);
            array = ap (λ (ran : Verdict × Progress). ran.1.1) with ∙ ap (λ (w : World). w.1) ends ∙ sym (ap (λ (ran : Verdict × Progress). ran.1.1) without);
            security = ap (λ (ran : Verdict × Progress). ran.1.2) with ∙ ap (λ (w : World). w.2) ends ∙ sym (ap (λ (ran : Verdict × Progress). ran.1.2) without);
            answers_before = λ i below. rw (with, without, words, words') (same_before first later _ _ _ i (omega (arith, long, below)));
            answers_behind = λ i below. rw (with, without, words, words', sym long) (same_behind first later _ _ _ i (omega (arith, below, answers_length step now rest)));
          },
        )
