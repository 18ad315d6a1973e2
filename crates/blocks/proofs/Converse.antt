-- What the function `converse` leaves is a block: over what was kept and what is new as one text, with room for the answers, it leaves
-- the bus, the stores and the rest of the text as the block does, and the answers that the block adds. No answer depends on what was
-- said before, and with room for an answer to every five bytes it stops only where nothing more can be answered.
use Prim.Native.Nat.{ℕ, zero, suc, ◌*◌, ◌≤◌}
use mathlib.Core.Bool.{Bool, true, false}
use mathlib.Core.List.{List, ◌++◌, append-nil, append_assoc}
use mathlib.Core.Path.{◌≡◌, ◌∙◌, refl, sym, ap}
use lib.ListN.{length, take, drop}
use lib.Seq.{take-append_seam}
use Rattle.base.specs.Fold.{up_to}
use Rattle.refusal.specs.Refusal.{answer_word}
use Rattle.bus.specs.Step.{step}
use Rattle.transcript.specs.declared.frame.Frame.{Frame}
use Rattle.transcript.specs.declared.frame.Frame.TheVariants.{Event, Malformed, End}
use Rattle.transcript.specs.Frame.{frame_at}
use Rattle.print.specs.Print.{printed, closing}
use Rattle.conversation.specs.Talk.{Talk, opened, unfinished, hear_frame, hear, room_in, Left, converse}
use Rattle.blocks.specs.Session.{Session, at_text, came_to, block}
use Rattle.blocks.proofs.Advances.{advances, put, at_rest, out_is, heard_advances, block_advances}

-- ---- what was said before stays in front
module _ (before text : List ℕ) where
  abbrev after : Talk → Talk
  after talk = record { bus = talk.bus; array = talk.array; security = talk.security; said = before ++ talk.said; at = talk.at; over = talk.over }

  frame_after : (talk : Talk) → hear_frame text (after talk) ≡ after (hear_frame text talk)
  unfolding hear_frame
  frame_after talk = go (frame_at text talk.at) refl (unfinished text talk.at) refl
    where
      go : (frame : Frame) → frame_at text talk.at ≡ frame → (part : Bool) → unfinished text talk.at ≡ part → hear_frame text (after talk) ≡ after (hear_frame text talk)
      go (Event event next) e part f =
          rw (e, append_assoc before talk.said (printed event (answer_word (step talk.bus talk.array talk.security event).0.answer))) refl
      go Malformed e true f = rw (e, f) refl
      go Malformed e false f = rw (e, f, append_assoc before talk.said (closing 9)) refl
      go End e part f = rw e refl

  hear_after : (n : ℕ) (talk : Talk) → hear text n (after talk) ≡ after (hear text n talk)
  unfolding up_to
  hear_after zero talk = refl
  hear_after (suc n) talk = ap (hear_frame text) (hear_after n talk) ∙ frame_after (hear text n talk)

-- ---- a conversation over what was kept and what is new
module _ (new : List ℕ) (s : Session) (buffer : List ℕ) where
  abbrev text : List ℕ
  text = s.kept ++ new

  abbrev left : Left
  left = converse text s.bus s.array s.security buffer

  -- what is said from an empty page, behind what was said before
  said_before : (n : ℕ) → hear text n (at_text s) ≡ after s.said text (hear text n (opened s.bus s.array s.security))
  said_before n = rw (append-nil s.said) at (hear_after s.said text n (opened s.bus s.array s.security))

  pub converse_is_a_block : s.over ≡ false → length text ≤ room_in buffer * 5
      → block new s
      ≡ record {
        bus = left.1;
        array = left.2;
        security = left.3;
        said = s.said ++ take left.0.written left.4;
        kept = drop left.0.used text;
        over = left.0.over;
      }
  unfolding converse
  converse_is_a_block going room =
      let frames = room_in buffer in
      let said = (hear text frames (opened s.bus s.array s.security)).said in
      block_advances new s going
      ∙ sym (out_is (put new s) (advances frames (put new s)) frames refl (at_rest (put new s) frames room))
      ∙ sym (heard_advances new s going frames)
      ∙ ap (came_to text) (said_before frames)
      ∙ rw (take-append_seam said (drop (length said) buffer)) refl
