-- F8h straight after a Start is acknowledged exactly when some chip that identifies itself is not busy, on any bus that passes the checks at entry:
-- after the Start every chip awaits an address byte or is busy, and F8h is acknowledged by those of them that await and identify themselves.
use Prim.Native.Nat.{ℕ, zero, suc, ◌<◌}
use native.Mathlib.Omega.{arith}
use mathlib.Core.Bool.{Bool, true, false, cond, false≢true}
use mathlib.Core.List.{List, [], ◌∷◌}
use mathlib.Core.Path.{◌≡◌, ◌∙◌, refl, ap}
use lib.ListN.{get_or, take}
use Rattle.base.specs.Fold.{any_below}
use Rattle.base.specs.Word.{word_of}
use Rattle.base.proofs.logic.Laws.{and_left, and_right}
use Rattle.base.proofs.Fold.{any_some, any_none, none_any}
use Rattle.control.specs.declared.Said.{Said}
use Rattle.control.specs.declared.Said.TheVariants.{Nothing, Ack}
use Rattle.control.specs.Phase.{is_sending}
use Rattle.chip.specs.declared.Chip.{Chip}
use Rattle.chip.specs.declared.event.Event.{Event}
use Rattle.chip.specs.declared.event.Event.TheVariants.{Start, Sent}
use Rattle.std.specs.Prelude.{Ok}
use Rattle.refusal.specs.Refusal.{answer_word}
use Rattle.board.specs.Place.{placed}
use Rattle.decode.specs.declared.Addressed.TheVariants.{ToAll}
use Rattle.lineup.specs.Chips.{chip_at, control_at}
use Rattle.line.specs.Line.{line_reply}
use Rattle.bus.specs.Step.{played, step}
use Rattle.bus.proofs.Entry.{Entered, entered}
use Rattle.bus.proofs.Typed.{has_four}
use Rattle.promises.specs.Own.{own, gathered}
use Rattle.promises.specs.Playing.{World, Made, after_one, answer_to, after, answers_to}
use Rattle.promises.proofs.Chips.{answer_is_gathered}
use Rattle.promises.proofs.Replies.{silent_line, acknowledged_exactly_when}
use Rattle.turns.specs.Turn.{is_start, is_f8}
use Rattle.turns.specs.Shuffle.{is_excepted}
use Rattle.turns.specs.Alone.{alone}
use Rattle.turns.specs.Undisturbed.{is_free, acknowledge}
use Rattle.turns.proofs.Asked.{start_asks, f8_asks}
use Rattle.turns.proofs.Resting.{is_heeding, start_heeds, heeding_sends_nothing, f8_said}
use Rattle.turns.proofs.Entering.{Entering, entering_kept}
use Rattle.turns.proofs.Stepping.{line_verdict, to_all_passes, step_plays, count_kept, each_moves}

-- the answer to F8h straight after a Start, wherever it stands in a list of events
abbrev pub Acknowledged : World → List ℕ → Type 0
Acknowledged world events =
    (i : ℕ) → is_excepted events i ≡ true → get_or (answers_to step world events) i 0 ≡ acknowledge (after step world (take i events)).0

-- a bus on which every chip awaits an address byte or is busy
module _ (world : World) (e : Entering world) (heeding : (i : ℕ) → i < world.0.count → is_heeding (control_at world.0.chips i).phase ≡ true) where
  abbrev count : ℕ
  count = world.0.count

  abbrev chips : List Chip
  chips = world.0.chips

  entry : Entered world.0 world.1 world.2
  entry = entered world.0 world.1 world.2 e.enters

  abbrev free : ℕ → Bool
  free i = is_free (control_at chips i)

  -- F8h, whether a Start is remembered or none
  abbrev f8 : Event
  f8 = Sent world.0.started 0xF8

  abbrev said_by : ℕ → Said
  said_by i = (own (ToAll f8) chips world.0.values world.1 world.2 i).0.said

  says : (i : ℕ) → i < placed count → said_by i ≡ cond (free i) Ack Nothing
  says i below = f8_said (chip_at chips i) _ _ _ world.0.started (heeding i (omega (arith, entry.all_placed)))

  -- 01 where a chip is free, and where none is every chip is silent
  reply_is : (some : Bool) → any_below free (placed count) ≡ some
      → line_reply f8 (gathered (ToAll f8) count chips world.0.values world.1 world.2) ≡ cond some 0x01 0x00
  reply_is true is =
      let (i, (below, here)) = any_some free (placed count) is in
      (acknowledged_exactly_when world.0.started 0xF8 count chips world.0.values world.1 world.2).1 (i, (below, says i below ∙ rw here))
  reply_is false is =
      ap (line_reply f8)
      (silent_line said_by (placed count) λ i below. says i below ∙ rw (any_none free (placed count) i is below))

  calm : line_verdict (ToAll f8) world ≡ Ok tt
  calm =
      to_all_passes world f8
      (none_any (λ (i : ℕ). is_sending (control_at chips i).phase) (placed count) (λ i below. heeding_sends_nothing (control_at chips i).phase (heeding i (omega (arith, entry.all_placed)))))

  f8_answered : (word : ℕ) → is_f8 word ≡ true → answer_to step world word ≡ acknowledge world.0
  unfolding played
  f8_answered word is =
      ap (λ (made : Made). answer_word made.0.answer) (step_plays world word (ToAll f8) e (f8_asks world.0.started count word is).0 calm)
      ∙ ap (λ (said : Said). word_of 0 (line_reply f8 said)) (answer_is_gathered (ToAll f8) count chips world.0.values world.1 world.2 (has_four e.typed) entry.array_fits entry.security_fits)
      ∙ ap (λ (byte : ℕ). word_of 0 byte) (reply_is (any_below free (placed count)) refl)

-- a Start leaves such a bus
start_leaves : (world : World) (word : ℕ) → Entering world → is_start word ≡ true
    → (i : ℕ) → i < (after_one step world word).0.count → is_heeding (control_at (after_one step world word).0.chips i).phase ≡ true
start_leaves world word e is i below =
    let legal = (start_asks world.0.started world.0.count word is).0 in
    let calm : line_verdict (ToAll Start) world ≡ Ok tt = to_all_passes world Start (none_any (λ (i : ℕ). false) (placed world.0.count) (λ i below. refl)) in
    ap (λ (w : World). is_heeding (control_at w.0.chips 0).phase) (each_moves world word (ToAll Start) e legal calm i (omega (arith, below, count_kept world word (ToAll Start) e legal)))
    ∙ start_heeds (chip_at world.0.chips i) world.0.values (alone i world).1 (alone i world).2

pub f8_acknowledged : (events : List ℕ) (world : World) → Entering world → Acknowledged world events
unfolding after answers_to
f8_acknowledged [] world e = none
  where
    none : Acknowledged world []
    none zero is = absurd (false≢true is)
    none (suc i) is = absurd (false≢true is)
f8_acknowledged (word ∷ more) world e = go (f8_acknowledged more (after_one step world word) (entering_kept world word e)) more refl
  where
    go : Acknowledged (after_one step world word) more → (rest : List ℕ) → more ≡ rest → Acknowledged world (word ∷ more)
    go later rest same zero is = absurd (false≢true is)
    go later [] same (suc zero) is = absurd (false≢true (and_right (is_start word) _ (rw same at is)))
    go later (f8 ∷ rest) same (suc zero) is =
        let both = rw same at is in
        rw same (
        f8_answered (after_one step world word) (entering_kept world word e) (start_leaves world word e (and_left _ _ both)) f8 (and_right (is_start word) _ both)
        )
    go later rest same (suc (suc i)) is = later (suc i) is
