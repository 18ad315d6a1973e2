-- Where fewer bytes are left than a line has, they are tried one after the other.
use Prim.Native.Nat.{ℕ, ◌+◌}
use mathlib.Core.Bool.{Bool, true, ◌&&◌}
use mathlib.Core.Path.{◌∙◌, ap}
use lib.ListN.{drop, get_or, length, length-drop}
use lib.Seq.{get_or-drop}
use borrow.Author.Tests.{lt-ltb}
use Rattle.std.specs.List.{list_all}
use Rattle.std.proofs.lemmas.List.{take_rest}
use Rattle.base.specs.Fold.{all_below}
use Rattle.base.proofs.Fold.{up_same, all_below-whole}
use Rattle.transcript.specs.Digit.{is_digit}
use Rattle.conversation.proofs.pending.is_unfinished.Goals as goal

pub returns-then-left-lt-FRAME_BYTES : goal.returns-then-left-lt-FRAME_BYTES
returns-then-left-lt-FRAME_BYTES c =
    let text = c.args.text.now in
    let at = c.args.at in
    let left = drop at text in
    let whole = take_rest text at in
    let short = rw (whole, length-drop at text) at c.if-left-lt-FRAME_BYTES.true in
    let same = up_same (λ (i : ℕ) (ok : Bool). is_digit (get_or left i 0) && ok) (λ (i : ℕ) (ok : Bool). is_digit (get_or text (at + i) 0) && ok) (length left)
    (λ i ok below. ap (λ (byte : ℕ). is_digit byte && ok) (get_or-drop at text i 0))
    true in
    rw (lt-ltb _ _ short)
    (c.all_digits.ensures ∙ ap (list_all is_digit) whole ∙ all_below-whole is_digit left 0 ∙ same
    ∙ ap (all_below (λ (i : ℕ). is_digit (get_or text (at + i) 0))) (length-drop at text))
