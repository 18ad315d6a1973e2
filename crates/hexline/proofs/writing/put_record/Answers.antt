-- The tests are those of the definition: too many bytes, or a place past the end or too near to it, leave the text as it was.
use Prim.Native.Nat.{◌+◌, ◌*◌, ◌<◌, ◌≤◌}
use native.Mathlib.Omega.{arith}
use lib.ListN.{length}
use borrow.Author.Tests.{le-leb, lt-leb}
use Rattle.hexline.specs.Writing.{put_record}
use Rattle.hexline.proofs.writing.put_record.Goals.{else-count-le-MOST_DATA-via-then-count-le-MOST_DATA+else-count-saturating_sub, else-count-le-MOST_DATA-via-else-count-le-MOST_DATA}
use Rattle.hexline.proofs.writing.put_record.Goals as goal

pub returns-then-count-saturating_sub : goal.returns-then-count-saturating_sub
unfolding put_record
returns-then-count-saturating_sub c =
    let a = c.args in
    let room : a.at + (12 + 2 * length a.content.now) ≤ length a.text.now = omega (arith, c.saturating_sub.ensures, c.if-count-saturating_sub.true) in
    simp (le-leb _ _ c.if-count-le-MOST_DATA.true, le-leb _ _ room) c.write_record.ensures

pub returns-else-count-le-MOST_DATA : goal.returns-else-count-le-MOST_DATA
unfolding put_record
returns-else-count-le-MOST_DATA c =
    let a = c.args in
    elim c.else-count-le-MOST_DATA.branch [
      | else-count-le-MOST_DATA-via-then-count-le-MOST_DATA+else-count-saturating_sub w ↦
          let past : length a.text.now < a.at + (12 + 2 * length a.content.now) = omega (arith, w.saturating_sub.ensures, w.if-count-saturating_sub.false) in
          simp (le-leb _ _ w.if-count-le-MOST_DATA.true, lt-leb _ _ past)
      | else-count-le-MOST_DATA-via-else-count-le-MOST_DATA w ↦ simp (lt-leb _ _ w.if-count-le-MOST_DATA.false)
    ]
