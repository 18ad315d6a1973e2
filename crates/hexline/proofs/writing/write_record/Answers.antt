-- Five pieces, each written right behind the one before it (`record_written`); no call changes the length, so each has room.
use Prim.Native.Nat.{ℕ, ◌+◌, ◌*◌}
use mathlib.Core.Path.{◌∙◌, ap}
use mathlib.Core.List.{List}
use lib.ListN.{length, set}
use Rattle.base.specs.Store.{patched}
use Rattle.print.specs.Print.{byte_text}
use Rattle.hexline.specs.Fields.{colon}
use Rattle.hexline.specs.Writing.{bytes_text, sum_with, check_of}
use Rattle.hexline.proofs.writing.Laws.{record_written}
use Rattle.hexline.proofs.writing.write_record.Goals as goal

pub returns : goal.returns
returns c =
    let a = c.args in
    let is_head = c.head_of-head.ensures in
    let is_check = c.check_of-check.ensures ∙ ap check_of (c.sum_with-2.ensures ∙ ap (sum_with a.content.now) (c.sum_with.ensures ∙ ap (λ (head : List ℕ). sum_with head 0) is_head)) in
    record_written a.kind a.address a.content.now a.at a.text.now c.requires.1
    (c.put_bytes.ensures ∙ ap (λ (head : List ℕ). patched (a.at + 1) (bytes_text head) (set a.text.now a.at colon)) is_head)
    c.put_bytes-2.ensures
    (c.put_byte.ensures ∙ ap (λ (check : ℕ). patched (a.at + 9 + 2 * length a.content.now) (byte_text check) c.put_bytes-2.new.text) is_check)
