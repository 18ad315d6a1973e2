-- Where a conversation stands after some frames: what the walk of `converse` keeps at each iteration, why its loop comes to an end, and
-- what it has when they have.
use Prim.Native.Nat.{ℕ, zero, suc, ◌+◌, ◌*◌, ◌-◌, ◌≤◌, ◌<◌}
use native.Mathlib.Decide.{dec_le}
use native.Mathlib.Omega.{arith}
use mathlib.Core.Bool.{Bool, true, false, cond, false≢true}
use mathlib.Core.List.{List, ◌++◌, append_assoc}
use mathlib.Core.Path.{◌≡◌, ◌∙◌, refl, sym, ap, subst}
use lib.ListN.{length, drop, length-append, length-drop}
use lib.Seq.{take_at, drop_at, drop-drop}
use borrow.Author.Tests.{le-leb, leb-true, leb-false}
use Rattle.base.specs.Fold.{up_to}
use Rattle.base.specs.Store.{patched}
use Rattle.refusal.specs.Verdict.{Verdict, Answer}
use Rattle.std.specs.Prelude.{Ok, Err, Option, Some, None, is_some}
use Rattle.refusal.specs.Refusal.{answer_word}
use Rattle.refusal.specs.Checks.{first_of}
use Rattle.board.specs.Stores.{WithStores, array_of, security_of}
use Rattle.bus.specs.declared.Bus.{Bus}
use Rattle.bus.specs.declared.Stepped.{Stepped}
use Rattle.bus.specs.Step.{entry_checks, step_given, step}
use Rattle.bus.proofs.Typed.{OfItsType}
use Rattle.promises.proofs.Kept.{event_keeps}
use Rattle.transcript.specs.declared.frame.Frame.{Frame}
use Rattle.transcript.specs.declared.frame.Frame.TheVariants.{Event, Malformed, End}
use Rattle.transcript.specs.Frame.{frame_at, meaning}
use Rattle.print.specs.Print.{printed, closing}
use Rattle.inplace.specs.InPlace.{handed_back}
use Rattle.conversation.specs.declared.Heard.{Heard}
use Rattle.conversation.specs.declared.pending.Pending.{Pending}
use Rattle.conversation.specs.Talk.{Talk, opened, answered, unfinished, ended, hear_frame, hear, room_in, laid_on, converse}
use Rattle.conversation.specs.Pending.{has_room, paused, last_pending, to_play, pending_at, next_pending, heard_of}

-- how many bytes of room what is pending may still use
abbrev pub rank_of : List ℕ → Pending → ℕ
rank_of buffer pending = cond (is_some pending.event) (suc (length buffer - pending.written)) 0

-- ---- the verdict of the entry checks, which is asked for once: a step that is given it is the step
given_is_step : (entry : Verdict) (bus : Bus) (array security : List ℕ) (word : ℕ) → first_of (entry_checks bus array security) ≡ entry → step_given entry bus array security word ≡ step bus array security word
unfolding step
given_is_step entry bus array security word is = ap (λ (v : Verdict). step_given v bus array security word) (sym is)

-- and leaves it as it was: one that is refused changes nothing, and an event keeps what they check
verdict_stays : (entry : Verdict) (bus : Bus) (array security : List ℕ) (word : ℕ) → OfItsType bus → first_of (entry_checks bus array security) ≡ entry
    → let next = step_given entry bus array security word in (first_of (entry_checks next.0.bus (array_of next) (security_of next)) ≡ entry) × OfItsType next.0.bus
verdict_stays (Ok tt) bus array security word typed is = let kept = event_keeps bus array security word typed is in (kept.enters, kept.typed)
verdict_stays (Err refusal) bus array security word typed is = (is, typed)

-- ---- the answers in the buffer
module _ (buffer said : List ℕ) where
  pub length_laid : length said ≤ length buffer → length (laid_on buffer said) ≡ length buffer
  length_laid fits = length-append said (drop (length said) buffer) ∙ ap (λ (n : ℕ). length said + n) (length-drop (length said) buffer) ∙ omega arith

  -- one more is put behind them
  pub laid_more : (line : List ℕ) → patched (length said) line (laid_on buffer said) ≡ laid_on buffer (said ++ line)
  laid_more line =
      let rest = drop (length said) buffer in
      ap (λ (xs : List ℕ). xs ++ (line ++ drop (length line) (drop (length said) (laid_on buffer said)))) (take_at said rest (length said) refl)
      ∙ ap (λ (xs : List ℕ). said ++ (line ++ drop (length line) xs)) (drop_at said rest (length said) refl)
      ∙ ap (λ (xs : List ℕ). said ++ (line ++ xs)) (drop-drop (length line) (length said) buffer ∙ ap (λ (n : ℕ). drop n buffer) (sym (length-append said line)))
      ∙ sym (append_assoc said line (drop (length (said ++ line)) buffer))

abbrev value_in : Option ℕ → ℕ
value_in (Some value) = value
value_in None = 0

-- ---- what is pending, by whether there is room, what the reader says, and whether more may come
module _ (text : List ℕ) (at : ℕ) (buffer : List ℕ) (written : ℕ) where
  record Plays (pending : Pending) (event : ℕ) (said : List ℕ) : Type 0 where
    pub has_room_lem : has_room buffer written ≡ true
    pub frame : frame_at text at ≡ Event event pending.at
    pub same : pending.written ≡ written
    pub still : said ≡ buffer

  event_of : {pending : Pending} {said : List ℕ} {known : Pending × List ℕ} → ◌≡◌ {A = Pending × List ℕ} (pending, said) known → pending.event ≡ known.0.event
  event_of is = ap (λ (p : Pending × List ℕ). p.0.event) is

  plays : {pending : Pending} {event : ℕ} {said : List ℕ} → ◌≡◌ {A = Pending × List ℕ} (pending, said) (pending_at text at buffer written) → pending.event ≡ Some event → Plays pending event said
  unfolding pending_at
  plays {pending} {event} {said} is more = go (has_room buffer written) refl (frame_at text at) refl (unfinished text at) refl
    where
      not_more : {known : Pending × List ℕ} → ◌≡◌ {A = Pending × List ℕ} (pending, said) known → known.0.event ≡ None → Plays pending event said
      not_more known none = absurd (false≢true (ap is_some (sym none ∙ sym (event_of known) ∙ more)))

      go : (room : Bool) → has_room buffer written ≡ room → (frame : Frame) → frame_at text at ≡ frame → (part : Bool) → unfinished text at ≡ part → Plays pending event said
      go false e frame f part g = not_more {known = (paused at written, buffer)} (is ∙ rw e refl) refl
      go true e (Event found next) f part g =
          let known : ◌≡◌ {A = Pending × List ℕ} (pending, said) (to_play found next written, buffer) = is ∙ rw (e, f) refl in
          let first : pending ≡ to_play found next written = ap (λ (p : Pending × List ℕ). p.0) known in
          let same : found ≡ event = ap value_in (sym (event_of known) ∙ more) in
          record {
            has_room_lem = e;
            frame = f ∙ ap (λ (n : ℕ). Event n next) same ∙ ap (Event event) (sym (ap (λ (t : Pending). t.at) first));
            same = ap (λ (t : Pending). t.written) first;
            still = ap (λ (p : Pending × List ℕ). p.1) known;
          }
      go true e Malformed f true g = not_more {known = (paused at written, buffer)} (is ∙ rw (e, f, g) refl) refl
      go true e Malformed f false g = not_more {known = (last_pending text written, patched written (closing 9) buffer)} (is ∙ rw (e, f, g) refl) refl
      go true e End f part g = not_more {known = (paused at written, buffer)} (is ∙ rw (e, f) refl) refl

  -- the reader is then at the place that is pending
  follows_on : {pending : Pending} {event : ℕ} {said : List ℕ} → ◌≡◌ {A = Pending × List ℕ} (pending, said) (pending_at text at buffer written) → pending.event ≡ Some event → (meaning (frame_at text at) at).place ≡ pending.at
  follows_on is more = ap (λ (frame : Frame). (meaning frame at).place) (plays is more).frame

module _ (text : List ℕ) (bus₀ : Bus) (array₀ security₀ buffer₀ : List ℕ) where
  abbrev after : ℕ → Talk
  after k = hear text k (opened bus₀ array₀ security₀)

  -- the reader is at `place`
  pub record Stands (entry : Verdict) (pending : Pending) (place : ℕ) (bus : Bus) (array security said : List ℕ) : Type 0 where
    pub enters : first_of (entry_checks bus array security) ≡ entry
    pub typed : OfItsType bus
    pub frames : ℕ
    pub pending_is : ◌≡◌ {A = Pending × List ℕ} (pending, said) (pending_at text (after frames).at (laid_on buffer₀ (after frames).said) (length (after frames).said))
    pub follows : (event : ℕ) → pending.event ≡ Some event → place ≡ pending.at
    pub bus_is : bus ≡ (after frames).bus
    pub array_is : array ≡ (after frames).array
    pub security_is : security ≡ (after frames).security
    pub said_is : length (after frames).said ≡ frames * 9
    pub room : frames * 9 ≤ length buffer₀
    pub going : (after frames).over ≡ false

  pub begins : {entry : Verdict} {pending : Pending} {place : ℕ} {said : List ℕ} → entry ≡ first_of (entry_checks bus₀ array₀ security₀) → OfItsType bus₀
      → place ≡ (meaning (frame_at text 0) 0).place → ◌≡◌ {A = Pending × List ℕ} (pending, said) (pending_at text 0 buffer₀ 0) → Stands entry pending place bus₀ array₀ security₀ said
  unfolding up_to
  begins asked typed moved first = record { enters = sym asked; typed = typed; frames = 0; pending_is = first; follows = λ event more. moved ∙ follows_on text 0 buffer₀ 0 first more; bus_is = refl; array_is = refl; security_is = refl; said_is = refl; room = omega arith; going = refl }

  -- the length of the buffer is not changed by what is laid on it
  laid_same : (k : ℕ) → length (after k).said ≡ k * 9 → k * 9 ≤ length buffer₀ → length (laid_on buffer₀ (after k).said) ≡ length buffer₀
  laid_same k said_is room = length_laid buffer₀ (after k).said (omega (arith, said_is))

  -- after one line more
  abbrev spoken : ℕ → Pending → ℕ → Bus → Answer → List ℕ → List ℕ → Talk
  spoken k pending event bus answer array security = answered event pending.at (after k) (handed_back bus answer, array, security)

  frame_more : (k : ℕ) (pending : Pending) (event : ℕ) {bus : Bus} {answer : Answer} {array security : List ℕ}
      → frame_at text (after k).at ≡ Event event pending.at
      → (handed_back bus answer, array, security) ≡ step (after k).bus (after k).array (after k).security event
      → after (suc k) ≡ spoken k pending event bus answer array security
  unfolding up_to hear_frame
  frame_more k pending event frame played = rw frame (ap (answered event pending.at (after k)) (sym played))

  -- what is noted of an event that was played, where there was room for it
  pending_more : (k : ℕ) (pending : Pending) (event : ℕ) (bus : Bus) (answer : Answer) (array security : List ℕ) {pending' : Pending} {said said' : List ℕ}
      → Plays text (after k).at (laid_on buffer₀ (after k).said) (length (after k).said) pending event said
      → ◌≡◌ {A = Pending × List ℕ} (pending', said') (next_pending text pending event answer said)
      → after (suc k) ≡ spoken k pending event bus answer array security
      → ◌≡◌ {A = Pending × List ℕ} (pending', said') (pending_at text (after (suc k)).at (laid_on buffer₀ (after (suc k)).said) (length (after (suc k)).said))
  unfolding next_pending
  pending_more k pending event bus answer array security p noted next =
      let line = printed event (answer_word answer) in
      let behind = laid_more buffer₀ (after k).said line in
      let long : length ((after k).said ++ line) ≡ length (after k).said + 9 = length-append (after k).said line in
      noted ∙ rw (p.still, p.same, p.has_room_lem, behind, sym long, next) refl

  pub goes : {entry : Verdict} {pending pending' : Pending} {event place place' : ℕ} {bus bus' : Bus} {array array' security security' said said' : List ℕ} {answer : Answer}
      → Stands entry pending place bus array security said → pending.event ≡ Some event
      → (handed_back bus' answer, array', security') ≡ step_given entry bus array security event
      → place' ≡ (meaning (frame_at text place) place).place
      → ◌≡◌ {A = Pending × List ℕ} (pending', said') (next_pending text pending event answer said)
      → Stands entry pending' place' bus' array' security' said' × (rank_of buffer₀ pending' < rank_of buffer₀ pending)
  goes {entry} {pending} {pending'} {event} {place} {place'} {bus} {bus'} {array} {array'} {security} {security'} {said} {said'} {answer} at more played moved noted =
      let kept = verdict_stays entry bus array security event at.typed at.enters in
      let k = at.frames in
      let p = plays text (after k).at (laid_on buffer₀ (after k).said) (length (after k).said) at.pending_is more in
      let same : (handed_back bus' answer, array', security') ≡ step (after k).bus (after k).array (after k).security event =
      rw (sym at.bus_is, sym at.array_is, sym at.security_is) (played ∙ given_is_step entry bus array security event at.enters) in
      let next : after (suc k) ≡ spoken k pending event bus' answer array' security' = frame_more k pending event p.frame same in
      let pending_is' = pending_more k pending event bus' answer array' security' p noted next in
      let fits : length (after k).said + 9 ≤ length buffer₀ =
      omega (arith, leb-true (length (after k).said + 9) (length (laid_on buffer₀ (after k).said)) p.has_room_lem, laid_same k at.said_is at.room) in
      let long : length (after (suc k)).said ≡ length (after k).said + 9 =
      ap (λ (t : Talk). length t.said) next ∙ length-append (after k).said (printed event (answer_word answer)) in (
        record {
          enters = ap (λ (o : WithStores Stepped). first_of (entry_checks o.0.bus (array_of o) (security_of o))) played ∙ kept.0;
          typed = subst (λ (o : WithStores Stepped). OfItsType o.0.bus) (sym played) kept.1;
          frames = suc k;
          pending_is = pending_is';
          follows = λ event' more'. moved ∙ ap (λ (p : ℕ). (meaning (frame_at text p) p).place) (at.follows event more ∙ sym (ap (λ (t : Talk). t.at) next))
              ∙ follows_on text (after (suc k)).at (laid_on buffer₀ (after (suc k)).said) (length (after (suc k)).said) pending_is' more';
          bus_is = sym (ap (λ (t : Talk). t.bus) next);
          array_is = sym (ap (λ (t : Talk). t.array) next);
          security_is = sym (ap (λ (t : Talk). t.security) next);
          said_is = omega (arith, long, at.said_is);
          room = omega (arith, at.said_is, fits);
          going = ap (λ (t : Talk). t.over) next ∙ at.going;
        },
        sooner k pending'.event refl more p.same fits long pending_is',
      )
    where
      sooner : (k : ℕ) (next : Option ℕ) → pending'.event ≡ next → pending.event ≡ Some event → pending.written ≡ length (after k).said → length (after k).said + 9 ≤ length buffer₀
          → length (after (suc k)).said ≡ length (after k).said + 9
          → ◌≡◌ {A = Pending × List ℕ} (pending', said') (pending_at text (after (suc k)).at (laid_on buffer₀ (after (suc k)).said) (length (after (suc k)).said))
          → rank_of buffer₀ pending' < rank_of buffer₀ pending
      sooner k None e m written fits long is = rw (e, m) (omega arith)
      sooner k (Some event') e m written fits long is =
          let q = plays text (after (suc k)).at (laid_on buffer₀ (after (suc k)).said) (length (after (suc k)).said) is e in
          rw (e, m) (omega (arith, q.same, written, fits, long))

  -- a place at which nothing more is answered is the last
  pub settled : (n k : ℕ) → k ≤ n → hear_frame text (after k) ≡ after k → after n ≡ after k
  unfolding up_to
  settled zero k below same =
      let all : zero ≡ k = omega arith in
      ap after all
  settled (suc n) k below same = go (λ more. settled n k more same) (dec_le k n)
    where
      go : (k ≤ n → after n ≡ after k) → Dec (k ≤ n) → after (suc n) ≡ after k
      go before (yes more) = ap (hear_frame text) (before more) ∙ same
      go before (no above) =
          let all : suc n ≡ k = omega arith in
          ap after all

  -- what is told of the last place
  close : (pending : Pending) {bus : Bus} {array security said : List ℕ} {heard : Heard} (talk : Talk) → after (room_in buffer₀) ≡ talk → heard ≡ heard_of pending
      → pending.at ≡ talk.at → pending.written ≡ length talk.said → pending.over ≡ talk.over
      → bus ≡ talk.bus → array ≡ talk.array → security ≡ talk.security → said ≡ laid_on buffer₀ talk.said
      → (heard, bus, array, security, said) ≡ converse text bus₀ array₀ security₀ buffer₀
  unfolding converse
  close pending talk last tells at written over bus array security said = rw (tells, at, written, over, bus, array, security, said, last) refl

  pub ends : {entry : Verdict} {pending : Pending} {place : ℕ} {bus : Bus} {array security said : List ℕ} {heard : Heard}
      → Stands entry pending place bus array security said → pending.event ≡ None → heard ≡ heard_of pending
      → (heard, bus, array, security, said) ≡ converse text bus₀ array₀ security₀ buffer₀
  unfolding up_to hear_frame pending_at
  ends {entry} {pending} {place} {bus} {array} {security} {said} {heard} at less tells =
      go (has_room (laid_on buffer₀ (after at.frames).said) (length (after at.frames).said)) refl
      (frame_at text (after at.frames).at) refl (unfinished text (after at.frames).at) refl
    where
      -- it stays where it is paused, since the place is the last
      waits : ◌≡◌ {A = Pending × List ℕ} (pending, said) (paused (after at.frames).at (length (after at.frames).said), laid_on buffer₀ (after at.frames).said)
          → after (room_in buffer₀) ≡ after at.frames → (heard, bus, array, security, said) ≡ converse text bus₀ array₀ security₀ buffer₀
      waits known last =
          let first : pending ≡ paused (after at.frames).at (length (after at.frames).said) = ap (λ (p : Pending × List ℕ). p.0) known in
          close pending (after at.frames) last tells
          (ap (λ (t : Pending). t.at) first) (ap (λ (t : Pending). t.written) first) (ap (λ (t : Pending). t.over) first ∙ sym at.going)
          at.bus_is at.array_is at.security_is (ap (λ (p : Pending × List ℕ). p.1) known)

      go : (room : Bool) → has_room (laid_on buffer₀ (after at.frames).said) (length (after at.frames).said) ≡ room
          → (frame : Frame) → frame_at text (after at.frames).at ≡ frame → (part : Bool) → unfinished text (after at.frames).at ≡ part
          → (heard, bus, array, security, said) ≡ converse text bus₀ array₀ security₀ buffer₀
      go false e frame f part g =
          let full : length buffer₀ < at.frames * 9 + 9 =
          omega (arith, leb-false (length (after at.frames).said + 9) (length (laid_on buffer₀ (after at.frames).said)) e, laid_same at.frames at.said_is at.room, at.said_is) in
          let all : room_in buffer₀ ≡ at.frames = omega (arith, at.room) in
          waits (at.pending_is ∙ rw e refl) (ap after all)
      go true e (Event event next) f part g =
          let known : ◌≡◌ {A = Pending × List ℕ} (pending, said) (to_play event next (length (after at.frames).said), laid_on buffer₀ (after at.frames).said) = at.pending_is ∙ rw (e, f) refl in
          absurd (false≢true (ap is_some (sym less ∙ ap (λ (p : Pending × List ℕ). p.0.event) known)))
      go true e Malformed f true g = waits (at.pending_is ∙ rw (e, f, g) refl) (settled (room_in buffer₀) at.frames (omega (arith, at.room)) (rw (f, g) refl))
      go true e Malformed f false g =
          let before = after at.frames in
          let known : ◌≡◌ {A = Pending × List ℕ} (pending, said) (last_pending text (length before.said), patched (length before.said) (closing 9) (laid_on buffer₀ before.said)) = at.pending_is ∙ rw (e, f, g) refl in
          let first : pending ≡ last_pending text (length before.said) = ap (λ (p : Pending × List ℕ). p.0) known in
          let fits : at.frames * 9 + 9 ≤ length buffer₀ =
          omega (arith, leb-true (length before.said + 9) (length (laid_on buffer₀ before.said)) e, laid_same at.frames at.said_is at.room, at.said_is) in
          let next : after (suc at.frames) ≡ ended text before = rw (f, g) refl in
          let stays : hear_frame text (after (suc at.frames)) ≡ after (suc at.frames) = rw (next, le-leb (length text) (length text) (omega arith)) refl in
          close pending (ended text before) (settled (room_in buffer₀) (suc at.frames) (omega (arith, fits)) stays ∙ next) tells
          (ap (λ (t : Pending). t.at) first) (ap (λ (t : Pending). t.written) first ∙ sym (length-append before.said (closing 9))) (ap (λ (t : Pending). t.over) first)
          at.bus_is at.array_is at.security_is (ap (λ (p : Pending × List ℕ). p.1) known ∙ laid_more buffer₀ before.said (closing 9))
      go true e End f part g = waits (at.pending_is ∙ rw (e, f) refl) (settled (room_in buffer₀) at.frames (omega (arith, at.room)) (rw f refl))
