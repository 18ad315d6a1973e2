-- A run is over exactly when a line is malformed, and then every line before it is answered, FFFF0900 is said, and nothing more.
-- Each line moves the place by five bytes, so behind k lines the place is 5k: there the next line stands, or none does.
use Prim.Native.Nat.{ℕ, zero, suc, ◌+◌, ◌-◌, ◌*◌, ◌≤◌, ◌<◌}
use native.Mathlib.Decide.{dec_le, dec_lt}
use native.Mathlib.Omega.{arith}
use mathlib.Core.Bool.{Bool, true, false, cond, false≢true}
use mathlib.Core.List.{List, [], ◌∷◌, ◌++◌, append-nil}
use mathlib.Core.Logic.{◌↔◌, ◌⊎◌, inl, inr}
use mathlib.Core.Path.{◌≡◌, ◌∙◌, refl, sym, ap}
use lib.Dec.{leb, ltb}
use lib.ListN.{length, length-append}
use borrow.Author.Tests.{le-leb, lt-leb, leb-true, ltb-true}
use Rattle.base.specs.Fold.{up_to}
use Rattle.base.specs.Store.{patched}
use Rattle.base.proofs.logic.Laws.{and_left}
use Rattle.refusal.specs.Refusal.{answer_word}
use Rattle.bus.specs.declared.Bus.{Bus}
use Rattle.bus.specs.Step.{step}
use Rattle.transcript.specs.Frame.{is_frame_at, event_at, frame_at}
use Rattle.transcript.specs.declared.frame.Frame.{Frame}
use Rattle.transcript.specs.declared.frame.Frame.TheVariants.{Event, Malformed, End}
use Rattle.transcript.proofs.frame.Laws.{event_exactly_when}
use Rattle.print.specs.Print.{printed, closing}
use Rattle.conversation.specs.Talk.{Talk, opened, unfinished, ended, hear_frame, hear, room_in, Left, laid_on, converse}
use Rattle.conversation.specs.Pending.{finished}
use Rattle.conversation.specs.Whole.{finished_by, answer_all}
use Rattle.conversation.specs.declared.Heard.{Heard}
use Rattle.conversation.proofs.Standing.{settled, length_laid, laid_more}
use Rattle.blocks.specs.Frames.{Frames, NoFrameAfter, MalformedAfter, TalkEnds, TalkPauses, WholeEnds, WholePauses, Spoken, unplayed, after_frames, paused_after, ended_after, WholeLeft, without_bus}
use Rattle.blocks.proofs.Texts.{none_of, unfinished_exactly_when}

either_way : {A : Type 0} (b : Bool) (a : A) → cond b a a ≡ a
either_way true a = refl
either_way false a = refl

-- of two things that exclude each other, each is told by one of two cases
pub told_apart : {P Q A B : Type 0} → A ⊎ B → (A → P) → (B → Q) → (P → Q → ⊥) → (P ↔ A) × (Q ↔ B)
told_apart (inl a) first second never = ((λ _. a, first), (λ q. absurd (never (first a) q), second))
told_apart (inr b) first second never = ((λ p. absurd (never p (second b)), first), (λ _. b, second))

-- F F F F 0 9 0 0 LF
pub nine_as_bytes : closing 9 ≡ 70 ∷ 70 ∷ 70 ∷ 70 ∷ 48 ∷ 57 ∷ 48 ∷ 48 ∷ 10 ∷ []
nine_as_bytes = refl

-- ---- what the tests say
module _ (text : List ℕ) (at : ℕ) where
  frame_fits : is_frame_at text at ≡ true → at + 5 ≤ length text
  frame_fits frame = leb-true (at + 5) (length text) (and_left (leb (at + 5) (length text)) _ frame)

  part_short : unfinished text at ≡ true → length text - at < 5
  part_short part = ltb-true (length text - at) 5 (and_left (ltb (length text - at) 5) _ part)

  -- nothing is left
  end_waits : length text ≤ at → unfinished text at ≡ true
  unfolding up_to
  end_waits past =
      let none : length text - at ≡ 0 = omega arith in
      rw none refl

  -- something is left that cannot become a line
  never_left : unfinished text at ≡ false → at < length text
  never_left never = go (dec_le (length text) at)
    where
      go : Dec (length text ≤ at) → at < length text
      go (yes past) = absurd (false≢true (sym never ∙ end_waits past))
      go (no inside) = omega arith

frames_more : (text : List ℕ) (n : ℕ) → Frames text n → is_frame_at text (n * 5) ≡ true → Frames text (suc n)
frames_more text n frames frame j below = go (dec_lt j n)
  where
    go : Dec (j < n) → is_frame_at text (j * 5) ≡ true
    go (yes before) = frames j before
    go (no last) =
        let same : j ≡ n = omega arith in
        ap (λ (i : ℕ). is_frame_at text (i * 5)) same ∙ frame

-- a text begins with n lines, or with fewer and then none
frames_or_none : (text : List ℕ) (n : ℕ) → Frames text n ⊎ ((k : ℕ) × Frames text k × (k < n) × (is_frame_at text (k * 5) ≡ false))
frames_or_none text zero = inl (λ j below. absurd (omega arith))
frames_or_none text (suc n) = go (frames_or_none text n) (is_frame_at text (n * 5)) refl
  where
    go : Frames text n ⊎ ((k : ℕ) × Frames text k × (k < n) × (is_frame_at text (k * 5) ≡ false)) → (frame : Bool) → is_frame_at text (n * 5) ≡ frame
        → Frames text (suc n) ⊎ ((k : ℕ) × Frames text k × (k < suc n) × (is_frame_at text (k * 5) ≡ false))
    go (inr (k, frames, below, none)) frame e = inr (k, frames, omega arith, none)
    go (inl frames) false e = inr (n, frames, omega arith, e)
    go (inl frames) true e = inl (frames_more text n frames e)

frames_fit : (text : List ℕ) (k : ℕ) → Frames text k → k * 5 ≤ length text
frames_fit text zero frames = omega arith
frames_fit text (suc k) frames = omega (arith, frame_fits text (k * 5) (frames k (omega arith)))

-- what is malformed is what nothing behind it makes a line
pub malformed_exactly_when : (text : List ℕ) (k : ℕ)
    → MalformedAfter text k ↔ (Frames text k × ((more : List ℕ) → is_frame_at (text ++ more) (k * 5) ≡ false))
malformed_exactly_when text k = (
  λ bad.
      let may = unfinished_exactly_when text (k * 5) (frames_fit text k bad.no_frame.frames) bad.no_frame.none in
      (bad.no_frame.frames, λ more. none_of (is_frame_at (text ++ more) (k * 5)) (λ frame. false≢true (sym bad.never ∙ may.1 (more, frame)))),
  λ (frames, no_more).
      let none : is_frame_at text (k * 5) ≡ false = ap (λ (t : List ℕ). is_frame_at t (k * 5)) (sym (append-nil text)) ∙ no_more [] in
      let may = unfinished_exactly_when text (k * 5) (frames_fit text k frames) none in
      let never : unfinished text (k * 5) ≡ false = none_of (unfinished text (k * 5)) (λ part. let (more, frame) = may.0 part in false≢true (sym (no_more more) ∙ frame)) in
      record { no_frame = record { frames = frames; left = never_left text (k * 5) never; none = none }; never = never },
)

-- ---- the text has ended
module _ (text : List ℕ) (heard : Heard) (buffer : List ℕ) where
  nothing_left : length text ≤ heard.used → finished text heard buffer ≡ (heard, buffer)
  unfolding finished
  nothing_left past = rw (le-leb (length text) heard.used past) refl

  no_room : length buffer < heard.written + 9 → finished text heard buffer ≡ (heard, buffer)
  unfolding finished
  no_room full = rw (lt-leb (heard.written + 9) (length buffer) full) (either_way (leb (length text) heard.used) (heard, buffer))

  rest_left : heard.used < length text → heard.written + 9 ≤ length buffer
      → finished text heard buffer ≡ (record { used = length text; written = heard.written + 9; over = true }, patched heard.written (closing 9) buffer)
  unfolding finished
  rest_left left room = rw (lt-leb (length text) heard.used left, le-leb (heard.written + 9) (length buffer) room) refl

-- ---- k lines, one after the other
module _ (text : List ℕ) (bus : Bus) (array security : List ℕ) where
  abbrev after : ℕ → Spoken
  after k = after_frames text k (unplayed bus array security)

  -- where a conversation stands behind them
  abbrev behind : ℕ → Talk
  behind k = record { bus = (after k).bus; array = (after k).array; security = (after k).security; said = (after k).said; at = k * 5; over = false }

  frame_heard : (k : ℕ) → is_frame_at text (k * 5) ≡ true → hear_frame text (behind k) ≡ behind (suc k)
  unfolding up_to hear_frame
  frame_heard k frame =
      let reads : frame_at text (k * 5) ≡ Event (event_at text (k * 5)) (suc k * 5) = (event_exactly_when text (k * 5) _ _).1 (frame, refl, omega arith) in
      rw reads refl

  frames_heard : (k : ℕ) → Frames text k → hear text k (opened bus array security) ≡ behind k
  unfolding up_to
  frames_heard zero frames = refl
  frames_heard (suc k) frames = ap (hear_frame text) (frames_heard k (λ j below. frames j (omega arith))) ∙ frame_heard k (frames k (omega arith))

  -- nine bytes for each
  pub said_long : (k : ℕ) → length (after k).said ≡ k * 9
  unfolding up_to
  said_long zero = refl
  said_long (suc k) =
      let world = after k in
      let event = event_at text (k * 5) in
      omega (arith, said_long k, length-append world.said (printed event (answer_word (step world.bus world.array world.security event).0.answer)))

  -- a malformed line is heard
  fault_heard : (k : ℕ) → MalformedAfter text k → hear_frame text (behind k) ≡ ended text (behind k)
  unfolding hear_frame
  fault_heard k bad = rw (lt-leb (length text) (k * 5) bad.no_frame.left, bad.no_frame.none, bad.never) refl

  -- and nothing behind it
  ended_heard : (k : ℕ) → hear_frame text (ended text (behind k)) ≡ ended text (behind k)
  unfolding hear_frame
  ended_heard k = rw (le-leb (length text) (length text) (omega arith)) refl

  -- what may become a line waits
  part_heard : (k : ℕ) → unfinished text (k * 5) ≡ true → hear_frame text (behind k) ≡ behind k
  unfolding hear_frame
  part_heard k part = go (frame_at text (k * 5)) refl
    where
      go : (frame : Frame) → frame_at text (k * 5) ≡ frame → hear_frame text (behind k) ≡ behind k
      go (Event event next) e =
          let frame = ((event_exactly_when text (k * 5) event next).0 e).0 in
          absurd (omega (arith, frame_fits text (k * 5) frame, part_short text (k * 5) part))
      go Malformed e = rw (e, part) refl
      go End e = rw e refl

  -- ---- a conversation with a buffer
  module _ (buffer : List ℕ) where
    abbrev talked : Left
    talked = converse text bus array security buffer

    -- where a line is malformed: the lines before it are answered, then FFFF0900 is said
    pub converse_ends : (k : ℕ) → MalformedAfter text k → k + 1 ≤ room_in buffer → talked ≡ ended_after text k (after k) buffer
    unfolding converse up_to
    converse_ends k bad room =
        let next : hear text (suc k) (opened bus array security) ≡ ended text (behind k) = ap (hear_frame text) (frames_heard k bad.no_frame.frames) ∙ fault_heard k bad in
        let last : hear text (room_in buffer) (opened bus array security) ≡ ended text (behind k) =
        settled text bus array security buffer (room_in buffer) (suc k) (omega arith) (ap (hear_frame text) next ∙ ended_heard k ∙ sym next) ∙ next in
        let long : length ((after k).said ++ closing 9) ≡ (k + 1) * 9 = omega (arith, length-append (after k).said (closing 9), said_long k) in
        rw (last, long) refl

    converse_waits : (k : ℕ) → Frames text k → k ≤ room_in buffer → unfinished text (k * 5) ≡ true → talked ≡ paused_after k (after k) buffer
    unfolding converse
    converse_waits k frames room part =
        let here = frames_heard k frames in
        let last : hear text (room_in buffer) (opened bus array security) ≡ behind k =
        settled text bus array security buffer (room_in buffer) k room (ap (hear_frame text) here ∙ part_heard k part ∙ sym here) ∙ here in
        rw (last, said_long k) refl

    converse_full : (k : ℕ) → Frames text k → k ≡ room_in buffer → talked ≡ paused_after k (after k) buffer
    unfolding converse
    converse_full k frames full = rw (sym full, frames_heard k frames, said_long k) refl

    -- where the room is used up, or what is left may still become a line: the lines before it are answered
    pub converse_pauses : (k : ℕ) → Frames text k → k ≤ room_in buffer → (k ≡ room_in buffer) ⊎ (unfinished text (k * 5) ≡ true)
        → talked ≡ paused_after k (after k) buffer
    converse_pauses k frames room (inl full) = converse_full k frames full
    converse_pauses k frames room (inr part) = converse_waits k frames room part

    pub talk_ends_or_pauses : TalkEnds text buffer ⊎ TalkPauses text buffer
    talk_ends_or_pauses = go (frames_or_none text (room_in buffer))
      where
        at : (k : ℕ) → Frames text k → k < room_in buffer → is_frame_at text (k * 5) ≡ false → (part : Bool) → unfinished text (k * 5) ≡ part → TalkEnds text buffer ⊎ TalkPauses text buffer
        at k frames below none true e = inr (k, frames, omega arith, inr e)
        at k frames below none false e = inl (k, record { no_frame = record { frames = frames; left = never_left text (k * 5) e; none = none }; never = e }, omega arith)

        go : Frames text (room_in buffer) ⊎ ((k : ℕ) × Frames text k × (k < room_in buffer) × (is_frame_at text (k * 5) ≡ false)) → TalkEnds text buffer ⊎ TalkPauses text buffer
        go (inl frames) = inr (room_in buffer, frames, omega arith, inl refl)
        go (inr (k, frames, below, none)) = at k frames below none (unfinished text (k * 5)) refl

    converse_either : ((talked.0.over ≡ true) ↔ TalkEnds text buffer) × ((talked.0.over ≡ false) ↔ TalkPauses text buffer)
    converse_either =
        told_apart talk_ends_or_pauses
        (λ (k, bad, room). ap (λ (l : Left). l.0.over) (converse_ends k bad room))
        (λ (k, frames, room, stop). ap (λ (l : Left). l.0.over) (converse_pauses k frames room stop))
        (λ over going. false≢true (sym going ∙ over))

    pub converse_ends_exactly_when : (talked.0.over ≡ true) ↔ TalkEnds text buffer
    converse_ends_exactly_when = converse_either.0

    pub converse_pauses_exactly_when : (talked.0.over ≡ false) ↔ TalkPauses text buffer
    converse_pauses_exactly_when = converse_either.1

    -- with room for an answer to every five bytes the room decides nothing: a malformed line ends it
    pub converse_ends_with_room : length text ≤ room_in buffer * 5 → (talked.0.over ≡ true) ↔ ((k : ℕ) × MalformedAfter text k)
    converse_ends_with_room enough = (
      λ over. let (k, bad, room) = converse_ends_exactly_when.0 over in (k, bad),
      λ (k, bad). converse_ends_exactly_when.1 (k, bad, omega (arith, bad.no_frame.left)),
    )

    -- and if none does, all lines are answered, and what is left may still become one
    pub converse_answers_all : length text ≤ room_in buffer * 5 → talked.0.over ≡ false
        → (k : ℕ) × Frames text k × (unfinished text (k * 5) ≡ true) × (talked ≡ paused_after k (after k) buffer)
    converse_answers_all enough going = go (converse_pauses_exactly_when.0 going)
      where
        rest : (k : ℕ) → (k ≡ room_in buffer) ⊎ (unfinished text (k * 5) ≡ true) → unfinished text (k * 5) ≡ true
        rest k (inl full) = end_waits text (k * 5) (omega arith)
        rest k (inr part) = part

        go : TalkPauses text buffer → (k : ℕ) × Frames text k × (unfinished text (k * 5) ≡ true) × (talked ≡ paused_after k (after k) buffer)
        go (k, frames, room, stop) = (k, frames, rest k stop, converse_pauses k frames room stop)

    -- ---- and a whole transcript
    abbrev answered : WholeLeft
    answered = answer_all text bus array security buffer

    -- what was left of the text is told of when it has ended
    finishes : (left : Left) (end : Heard × List ℕ) → talked ≡ left → finished text left.0 left.4 ≡ end → answered ≡ (end.0, left.2, left.3, end.1)
    unfolding answer_all
    finishes left end is ends = ap (finished_by text) is ∙ ap (λ (e : Heard × List ℕ). (e.0, left.2, left.3, e.1)) ends

    laid_long : (k : ℕ) → k ≤ room_in buffer → length (laid_on buffer (after k).said) ≡ length buffer
    laid_long k room = length_laid buffer (after k).said (omega (arith, said_long k))

    -- where no line is left behind the others: they are answered, then FFFF0900 is said
    pub answer_all_ends : (k : ℕ) → NoFrameAfter text k → k + 1 ≤ room_in buffer → answered ≡ without_bus (ended_after text k (after k) buffer)
    answer_all_ends k bad room = go (unfinished text (k * 5)) refl
      where
        go : (part : Bool) → unfinished text (k * 5) ≡ part → answered ≡ without_bus (ended_after text k (after k) buffer)
        go false e =
            let left = ended_after text k (after k) buffer in
            finishes left (left.0, left.4) (converse_ends k (record { no_frame = bad; never = e }) room) (nothing_left text left.0 left.4 (omega arith))
        go true e =
            let left = paused_after k (after k) buffer in
            let end = ended_after text k (after k) buffer in
            let more : k * 9 + 9 ≡ (k + 1) * 9 = omega arith in
            let put : patched (k * 9) (closing 9) left.4 ≡ end.4 = ap (λ (n : ℕ). patched n (closing 9) left.4) (sym (said_long k)) ∙ laid_more buffer (after k).said (closing 9) in
            finishes left (end.0, end.4) (converse_waits k bad.frames (omega arith) e)
            (rest_left text left.0 left.4 bad.left (omega (arith, laid_long k (omega arith)))
            ∙ rw (more, put) refl)

    -- where the room is used up, or nothing is left: the lines before it are answered
    pub answer_all_pauses : (k : ℕ) → Frames text k → k ≤ room_in buffer → (k ≡ room_in buffer) ⊎ (k * 5 ≡ length text)
        → answered ≡ without_bus (paused_after k (after k) buffer)
    answer_all_pauses k frames room (inl full) =
        let left = paused_after k (after k) buffer in
        finishes left (left.0, left.4) (converse_full k frames full) (no_room text left.0 left.4 (omega (arith, laid_long k room)))
    answer_all_pauses k frames room (inr all) =
        let left = paused_after k (after k) buffer in
        finishes left (left.0, left.4) (converse_waits k frames room (end_waits text (k * 5) (omega arith))) (nothing_left text left.0 left.4 (omega arith))

    pub whole_ends_or_pauses : WholeEnds text buffer ⊎ WholePauses text buffer
    whole_ends_or_pauses = go (frames_or_none text (room_in buffer))
      where
        at : (k : ℕ) → Frames text k → k < room_in buffer → is_frame_at text (k * 5) ≡ false → Dec (length text ≤ k * 5) → WholeEnds text buffer ⊎ WholePauses text buffer
        at k frames below none (yes past) = inr (k, frames, omega arith, inr (omega (arith, frames_fit text k frames)))
        at k frames below none (no inside) = inl (k, record { frames = frames; left = omega arith; none = none }, omega arith)

        go : Frames text (room_in buffer) ⊎ ((k : ℕ) × Frames text k × (k < room_in buffer) × (is_frame_at text (k * 5) ≡ false)) → WholeEnds text buffer ⊎ WholePauses text buffer
        go (inl frames) = inr (room_in buffer, frames, omega arith, inl refl)
        go (inr (k, frames, below, none)) = at k frames below none (dec_le (length text) (k * 5))

    answer_all_either : ((answered.0.over ≡ true) ↔ WholeEnds text buffer) × ((answered.0.over ≡ false) ↔ WholePauses text buffer)
    answer_all_either =
        told_apart whole_ends_or_pauses
        (λ (k, bad, room). ap (λ (l : WholeLeft). l.0.over) (answer_all_ends k bad room))
        (λ (k, frames, room, stop). ap (λ (l : WholeLeft). l.0.over) (answer_all_pauses k frames room stop))
        (λ over going. false≢true (sym going ∙ over))

    pub answer_all_ends_exactly_when : (answered.0.over ≡ true) ↔ WholeEnds text buffer
    answer_all_ends_exactly_when = answer_all_either.0

    pub answer_all_pauses_exactly_when : (answered.0.over ≡ false) ↔ WholePauses text buffer
    answer_all_pauses_exactly_when = answer_all_either.1

    -- with that room anything that is no line ends it
    pub answer_all_ends_with_room : length text ≤ room_in buffer * 5 → (answered.0.over ≡ true) ↔ ((k : ℕ) × NoFrameAfter text k)
    answer_all_ends_with_room enough = (
      λ over. let (k, bad, room) = answer_all_ends_exactly_when.0 over in (k, bad),
      λ (k, bad). answer_all_ends_exactly_when.1 (k, bad, omega (arith, bad.left)),
    )

    -- and if nothing does, all lines are answered, and nothing is left
    pub answer_all_answers_all : length text ≤ room_in buffer * 5 → answered.0.over ≡ false
        → (k : ℕ) × Frames text k × (k * 5 ≡ length text) × (answered ≡ without_bus (paused_after k (after k) buffer))
    answer_all_answers_all enough going = go (answer_all_pauses_exactly_when.0 going)
      where
        rest : (k : ℕ) → Frames text k → (k ≡ room_in buffer) ⊎ (k * 5 ≡ length text) → k * 5 ≡ length text
        rest k frames (inl full) = omega (arith, frames_fit text k frames)
        rest k frames (inr all) = all

        go : WholePauses text buffer → (k : ℕ) × Frames text k × (k * 5 ≡ length text) × (answered ≡ without_bus (paused_after k (after k) buffer))
        go (k, frames, room, stop) = (k, frames, rest k frames stop, answer_all_pauses k frames room stop)
