-- After i bytes the text of the first i stands there; one byte more is written right behind it.
use Prim.Native.Nat.{◌+◌, ◌*◌}
use mathlib.Core.Path.{◌∙◌, ap}
use lib.ListN.{get_or}
use Rattle.base.specs.Store.{patched}
use Rattle.print.specs.Print.{byte_text}
use Rattle.hexline.proofs.writing.Laws.{bytes_text_more}
use Rattle.hexline.proofs.writing.put_bytes.Goals as goal

pub loop-i-preserved : goal.loop-i-preserved
loop-i-preserved c =
    let a = c.args in
    let so_far = c.loop-i in (
      c.put_byte.ensures ∙ ap (patched (a.at + 2 * so_far.i) (byte_text (get_or a.bytes.now so_far.i 0))) so_far.invariant.0
          ∙ bytes_text_more _ _ c.loop-i-test.true _ _ c.requires,
      c.put_byte.auto.text ∙ so_far.invariant.1,
    )
