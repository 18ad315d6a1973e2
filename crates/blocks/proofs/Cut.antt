-- Wherever a text is cut into blocks, the session comes to the same. With more text behind what is kept a line is the same line and
-- a fault the same fault, so both go alike advance by advance until a part of a line is left; that is kept as it is, and is heard again with
-- the next block behind it.
use Prim.Native.Nat.{ℕ, zero, suc, ◌+◌}
use mathlib.Core.Bool.{Bool, true, false, cond}
use mathlib.Core.List.{List, [], ◌∷◌, ◌++◌, append-nil, append_assoc}
use mathlib.Core.Path.{◌≡◌, ◌∙◌, refl, sym, ap}
use lib.ListN.{length}
use lib.Seq.{drop-append-le}
use Rattle.base.specs.Fold.{up_to}
use Rattle.bus.specs.declared.Bus.{Bus}
use Rattle.transcript.specs.Frame.{is_frame_at}
use Rattle.conversation.specs.Talk.{unfinished}
use Rattle.blocks.specs.Session.{Session, begun, heard_out, block, all_blocks, joined}
use Rattle.blocks.proofs.Texts.{frame_long, frame_stays, event_stays, fault_stays}
use Rattle.blocks.proofs.Advances.{taken, advance, advances, put, advance_frame, advance_part, advance_fault, advances_on, out, out_is, out_rests, block_advances}

over_stays : (s : Session) → s.over ≡ true → (advance s).over ≡ true
over_stays s over = go (is_frame_at s.kept 0) refl (unfinished s.kept 0) refl
  where
    go : (frame : Bool) → is_frame_at s.kept 0 ≡ frame → (part : Bool) → unfinished s.kept 0 ≡ part → (advance s).over ≡ true
    go true e part f = ap (λ (x : Session). x.over) (advance_frame s e) ∙ over
    go false e true f = ap (λ (x : Session). x.over) (advance_part s e f) ∙ over
    go false e false f = ap (λ (x : Session). x.over) (advance_fault s e f)

block_over : (new : List ℕ) (s : Session) → s.over ≡ true → block new s ≡ s
block_over new s over = ap (λ (o : Bool). cond o s (heard_out (s.kept ++ new) s)) over

-- ---- more text behind, advance by advance
module _ (more : List ℕ) where
  -- when it is over, nothing is put behind
  abbrev behind : Session → Session
  behind s = cond s.over s (put more s)

  module _ (s : Session) where
    behind_over : s.over ≡ true → behind s ≡ s
    behind_over over = ap (λ (o : Bool). cond o s (put more s)) over

    behind_going : s.over ≡ false → behind s ≡ put more s
    behind_going going = ap (λ (o : Bool). cond o s (put more s)) going

  -- a line is the same line
  frame_behind : (s : Session) → is_frame_at s.kept 0 ≡ true → advance (put more s) ≡ put more (advance s)
  frame_behind s frame =
      advance_frame (put more s) (frame_stays s.kept more frame)
      ∙ ap (λ (event : ℕ). taken event (put more s)) (event_stays s.kept more frame)
      ∙ rw (drop-append-le 5 s.kept more (frame_long s.kept frame)) refl
      ∙ sym (ap (put more) (advance_frame s frame))

  -- a fault is the same fault
  fault_behind_lem : (s : Session) → is_frame_at s.kept 0 ≡ false → unfinished s.kept 0 ≡ false → advance (put more s) ≡ advance s
  fault_behind_lem s none never =
      let stays = fault_stays s.kept more none never in
      advance_fault (put more s) stays.0 stays.1 ∙ sym (advance_fault s none never)

  -- so where an advance leads, one advance or none leads with more text behind
  advance_behind : (s : Session) → (k : ℕ) × (advances k (behind s) ≡ behind (advance s))
  unfolding up_to
  advance_behind s = go s.over refl (is_frame_at s.kept 0) refl (unfinished s.kept 0) refl
    where
      go : (over : Bool) → s.over ≡ over → (frame : Bool) → is_frame_at s.kept 0 ≡ frame → (part : Bool) → unfinished s.kept 0 ≡ part
          → (k : ℕ) × (advances k (behind s) ≡ behind (advance s))
      go true o frame e part f = (1, ap advance (behind_over s o) ∙ sym (behind_over (advance s) (over_stays s o)))
      go false o true e part f =
          let going : (advance s).over ≡ false = ap (λ (x : Session). x.over) (advance_frame s e) ∙ o in
          (1, ap advance (behind_going s o) ∙ frame_behind s e ∙ sym (behind_going (advance s) going))
      go false o false e true f = (0, ap behind (sym (advance_part s e f)))
      go false o false e false f =
          let over : (advance s).over ≡ true = ap (λ (x : Session). x.over) (advance_fault s e f) in
          (1, ap advance (behind_going s o) ∙ fault_behind_lem s e f ∙ sym (behind_over (advance s) over))

  advances_behind : (n : ℕ) (s : Session) → (m : ℕ) × (advances m (behind s) ≡ behind (advances n s))
  unfolding up_to
  advances_behind zero s = (0, refl)
  advances_behind (suc n) s =
      let (m, so_far) = advances_behind n s in
      let (k, next) = advance_behind (advances n s) in
      (m + k, sym (advances_on (behind s) m k) ∙ ap (advances k) so_far ∙ next)

  -- what is heard to its end, and then with more behind, is heard with more behind at once
  out_behind : (s : Session) → s.over ≡ false → block more (out s) ≡ out (put more s)
  out_behind s going =
      let (m, led) = advances_behind (length s.kept) s in
      go m (ap (advances m) (sym (behind_going s going)) ∙ led) (out s).over refl
    where
      go : (m : ℕ) → advances m (put more s) ≡ behind (out s) → (over : Bool) → (out s).over ≡ over → block more (out s) ≡ out (put more s)
      go m led true o = block_over more (out s) o ∙ out_is (put more s) (out s) m (led ∙ behind_over (out s) o) (out_rests s)
      go m led false o =
          let last = length ((out s).kept ++ more) in
          block_advances more (out s) o
          ∙ out_is (put more s) (out (put more (out s))) (m + last) (sym (advances_on (put more s) m last) ∙ ap (advances last) (led ∙ behind_going (out s) o)) (out_rests (put more (out s)))

-- ---- wherever it is cut
pub cut_anywhere : (a b : List ℕ) (s : Session) → block b (block a s) ≡ block (a ++ b) s
cut_anywhere a b s = go s.over refl
  where
    go : (over : Bool) → s.over ≡ over → block b (block a s) ≡ block (a ++ b) s
    go true over = ap (block b) (block_over a s over) ∙ block_over b s over ∙ sym (block_over (a ++ b) s over)
    go false going =
        ap (block b) (block_advances a s going) ∙ out_behind b (put a s) going
        ∙ rw (append_assoc s.kept a b) refl ∙ sym (block_advances (a ++ b) s going)

-- a session that hears nothing new in what it has kept hears all blocks as one text
all_as_one : (texts : List (List ℕ)) (s : Session) → block [] s ≡ s → all_blocks texts s ≡ block (joined texts) s
unfolding all_blocks joined
all_as_one [] s still = sym still
all_as_one (new ∷ more) s still =
    all_as_one more (block new s) (cut_anywhere new [] s ∙ ap (λ (text : List ℕ). block text s) (append-nil new))
    ∙ cut_anywhere new (joined more) s

pub blocks_are_one_text : (texts : List (List ℕ)) (bus : Bus) (array security : List ℕ)
    → all_blocks texts (begun bus array security) ≡ block (joined texts) (begun bus array security)
unfolding heard_out up_to
blocks_are_one_text texts bus array security = all_as_one texts (begun bus array security) refl
