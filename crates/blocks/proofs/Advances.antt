-- A session goes by advances, each of which looks at the start of the text that is kept: a line is answered and taken away, a part of
-- one waits, a fault ends the run. A text is heard by such advances, since only the rest of it counts; and the advances come to rest, since
-- each line takes five bytes.
use Prim.Native.Nat.{ℕ, zero, suc, ◌+◌, ◌*◌, ◌≤◌}
use native.Mathlib.Nat.{add-zero, add-suc, add_comm}
use native.Mathlib.Omega.{arith}
use mathlib.Core.Bool.{Bool, true, false, cond}
use mathlib.Core.List.{List, [], ◌++◌}
use mathlib.Core.Logic.{◌⊎◌, inl, inr}
use mathlib.Core.Path.{◌≡◌, ◌∙◌, refl, sym, ap}
use lib.Dec.{leb}
use lib.ListN.{length, drop, length-drop, drop_of_length-le}
use lib.Seq.{drop-drop, drop-length}
use borrow.Author.Tests.{lt-leb, leb-true}
use Rattle.base.specs.Fold.{up_to}
use Rattle.refusal.specs.Refusal.{answer_word}
use Rattle.bus.specs.declared.Stepped.{Stepped}
use Rattle.bus.specs.Step.{step}
use Rattle.transcript.specs.Frame.{is_frame_at, event_at}
use Rattle.print.specs.Print.{printed, closing}
use Rattle.conversation.specs.Talk.{Talk, unfinished, hear_frame, hear}
use Rattle.blocks.specs.Session.{Session, at_text, came_to, heard_out, block}
use Rattle.blocks.proofs.Texts.{frame_long, short_digits, event_from, frame_from, unfinished_from}

-- a line is answered and taken away
abbrev answered_by : ℕ → Session → Stepped × List ℕ × List ℕ → Session
answered_by event s world =
    record { bus = world.0.bus; array = world.1; security = world.2; said = s.said ++ printed event (answer_word world.0.answer); kept = drop 5 s.kept; over = s.over }

abbrev pub taken : ℕ → Session → Session
taken event s = answered_by event s (step s.bus s.array s.security event)

-- a fault ends the run
abbrev closed : Session → Session
closed s = record { bus = s.bus; array = s.array; security = s.security; said = s.said ++ closing 9; kept = []; over = true }

unfoldable pub advance : Session → Session
advance s = cond (is_frame_at s.kept 0) (taken (event_at s.kept 0) s) (cond (unfinished s.kept 0) s (closed s))

abbrev pub advances : ℕ → Session → Session
advances n s = up_to (λ (i : ℕ). advance) n s

-- more text behind what is kept
abbrev pub put : List ℕ → Session → Session
put new s = record { bus = s.bus; array = s.array; security = s.security; said = s.said; kept = s.kept ++ new; over = s.over }

module _ (s : Session) where
  pub advance_frame : is_frame_at s.kept 0 ≡ true → advance s ≡ taken (event_at s.kept 0) s
  unfolding advance
  advance_frame frame = rw frame refl

  pub advance_part : is_frame_at s.kept 0 ≡ false → unfinished s.kept 0 ≡ true → advance s ≡ s
  unfolding advance
  advance_part none part = rw (none, part) refl

  pub advance_fault : is_frame_at s.kept 0 ≡ false → unfinished s.kept 0 ≡ false → advance s ≡ closed s
  unfolding advance
  advance_fault none never = rw (none, never) refl

-- ---- hearing goes by advances
module _ (text : List ℕ) where
  advance_from : (talk : Talk) → came_to text (hear_frame text talk) ≡ advance (came_to text talk)
  unfolding hear_frame advance up_to
  advance_from talk = go (leb (length text) talk.at) refl (is_frame_at text talk.at) refl (unfinished text talk.at) refl
    where
      go : (past : Bool) → leb (length text) talk.at ≡ past → (frame : Bool) → is_frame_at text talk.at ≡ frame → (part : Bool) → unfinished text talk.at ≡ part
          → came_to text (hear_frame text talk) ≡ advance (came_to text talk)
      go true e frame f part g = rw (e, drop_of_length-le text (leb-true (length text) talk.at e)) refl
      go false e true f part g = rw (e, f, frame_from text talk.at ∙ f, event_from text talk.at, drop-drop 5 talk.at text) refl
      go false e false f true g = rw (e, f, g, frame_from text talk.at ∙ f, unfinished_from text talk.at ∙ g) refl
      go false e false f false g = rw (e, f, g, frame_from text talk.at ∙ f, unfinished_from text talk.at ∙ g, drop-length text) refl

  hear_advances : (n : ℕ) (talk : Talk) → came_to text (hear text n talk) ≡ advances n (came_to text talk)
  unfolding up_to
  hear_advances zero talk = refl
  hear_advances (suc n) talk = advance_from (hear text n talk) ∙ ap advance (hear_advances n talk)

-- ---- the advances come to rest
none_kept : (s : Session) → length s.kept ≡ 0 → advance s ≡ s
none_kept s none =
    advance_part s (rw (lt-leb 5 (length s.kept) (omega arith)) refl) (short_digits s.kept (omega arith) (λ i below. absurd (omega arith)))

module _ (s : Session) where
  pub advances_on : (m n : ℕ) → advances n (advances m s) ≡ advances (m + n) s
  unfolding up_to
  advances_on m zero = ap (λ (k : ℕ). advances k s) (sym (add-zero m))
  advances_on m (suc n) = ap advance (advances_on m n) ∙ ap (λ (k : ℕ). advances k s) (sym (add-suc m n))

  -- nothing more is answered, or each advance has taken five bytes
  rests_or_shorter : (n : ℕ) → (advance (advances n s) ≡ advances n s) ⊎ (length (advances n s).kept + n * 5 ≤ length s.kept)
  unfolding up_to
  rests_or_shorter zero = inr (omega arith)
  rests_or_shorter (suc n) = go (rests_or_shorter n) (is_frame_at (advances n s).kept 0) refl (unfinished (advances n s).kept 0) refl
    where
      go : (advance (advances n s) ≡ advances n s) ⊎ (length (advances n s).kept + n * 5 ≤ length s.kept)
          → (frame : Bool) → is_frame_at (advances n s).kept 0 ≡ frame → (part : Bool) → unfinished (advances n s).kept 0 ≡ part
          → (advance (advances (suc n) s) ≡ advances (suc n) s) ⊎ (length (advances (suc n) s).kept + suc n * 5 ≤ length s.kept)
      go (inl rests) frame e part f = inl (ap advance rests)
      go (inr shorter) true e part f =
          let left : length (advances (suc n) s).kept ≡ length (drop 5 (advances n s).kept) = ap (λ (x : Session). length x.kept) (advance_frame (advances n s) e) in
          inr (omega (arith, left, length-drop 5 (advances n s).kept, frame_long (advances n s).kept e))
      go (inr shorter) false e true f = inl (ap advance (advance_part (advances n s) e f))
      go (inr shorter) false e false f = inl (rw (advance_fault (advances n s) e f) (advance_part (closed (advances n s)) refl refl))

  pub at_rest : (n : ℕ) → length s.kept ≤ n * 5 → advance (advances n s) ≡ advances n s
  at_rest n enough = go (rests_or_shorter n)
    where
      go : (advance (advances n s) ≡ advances n s) ⊎ (length (advances n s).kept + n * 5 ≤ length s.kept) → advance (advances n s) ≡ advances n s
      go (inl rests) = rests
      go (inr shorter) = none_kept (advances n s) (omega arith)

  rest_stays : (n k : ℕ) → advance (advances n s) ≡ advances n s → advances (n + k) s ≡ advances n s
  unfolding up_to
  rest_stays n zero rests = ap (λ (m : ℕ). advances m s) (add-zero n)
  rest_stays n (suc k) rests = ap (λ (m : ℕ). advances m s) (add-suc n k) ∙ ap advance (rest_stays n k rests) ∙ rests

  -- however many advances lead to a rest, it is the same
  one_rest : (n m : ℕ) → advance (advances n s) ≡ advances n s → advance (advances m s) ≡ advances m s → advances n s ≡ advances m s
  one_rest n m first second = sym (rest_stays n m first) ∙ ap (λ (k : ℕ). advances k s) (add_comm n m) ∙ rest_stays m n second

-- as many advances as bytes are enough
abbrev pub out : Session → Session
out s = advances (length s.kept) s

pub out_rests : (s : Session) → advance (out s) ≡ out s
out_rests s = at_rest s (length s.kept) (omega arith)

-- and wherever other advances come to rest is where they lead
pub out_is : (s rest : Session) (n : ℕ) → advances n s ≡ rest → advance rest ≡ rest → rest ≡ out s
out_is s rest n led rests = sym led ∙ one_rest s n (length s.kept) (rw led rests) (out_rests s)

-- ---- a block goes by advances
module _ (new : List ℕ) (s : Session) (going : s.over ≡ false) where
  pub heard_advances : (n : ℕ) → came_to (s.kept ++ new) (hear (s.kept ++ new) n (at_text s)) ≡ advances n (put new s)
  heard_advances n =
      hear_advances (s.kept ++ new) n (at_text s)
      ∙ ap (λ (over : Bool). advances n (record { bus = s.bus; array = s.array; security = s.security; said = s.said; kept = s.kept ++ new; over = over })) (sym going)

  pub block_advances : block new s ≡ out (put new s)
  unfolding heard_out
  block_advances = ap (λ (over : Bool). cond over s (heard_out (s.kept ++ new) s)) going ∙ heard_advances (length (s.kept ++ new))
