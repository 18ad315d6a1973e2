-- What is kept after a block may still become a line: it is shorter than one, and all of it digits. So a line is answered as soon as
-- it is whole, and ends the run as soon as a byte of it cannot be right. Where the advances rest, neither a line nor a fault is left.
use Prim.Native.Nat.{ℕ}
use native.Mathlib.Omega.{arith}
use mathlib.Core.Bool.{Bool, true, false, false≢true}
use mathlib.Core.List.{List}
use mathlib.Core.Path.{◌≡◌, ◌∙◌, refl, sym, ap}
use lib.ListN.{length, drop, length-drop}
use Rattle.transcript.specs.Frame.{is_frame_at}
use Rattle.conversation.specs.Talk.{unfinished}
use Rattle.blocks.specs.Session.{Session, block}
use Rattle.blocks.proofs.Texts.{frame_long}
use Rattle.blocks.proofs.Advances.{advance, put, advance_frame, advance_fault, out_rests, block_advances}

rest_unfinished : (s : Session) → advance s ≡ s → s.over ≡ false → unfinished s.kept 0 ≡ true
rest_unfinished s rests going = go (is_frame_at s.kept 0) refl (unfinished s.kept 0) refl
  where
    go : (frame : Bool) → is_frame_at s.kept 0 ≡ frame → (part : Bool) → unfinished s.kept 0 ≡ part → unfinished s.kept 0 ≡ true
    go true e part f =
        let left : length (drop 5 s.kept) ≡ length s.kept = ap (λ (x : Session). length x.kept) (sym (advance_frame s e) ∙ rests) in
        absurd (omega (arith, left, length-drop 5 s.kept, frame_long s.kept e))
    go false e true f = f
    go false e false f = absurd (false≢true (sym going ∙ ap (λ (x : Session). x.over) (sym rests ∙ advance_fault s e f)))

pub kept_may_become_a_frame : (new : List ℕ) (s : Session) → s.over ≡ false → (block new s).over ≡ false → unfinished (block new s).kept 0 ≡ true
kept_may_become_a_frame new s going still_going =
    let turned = block_advances new s going in
    rest_unfinished (block new s) (ap advance turned ∙ out_rests (put new s) ∙ sym turned) still_going
