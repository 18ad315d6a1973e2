-- After i bytes the text of the first i stands there; one byte more is written right behind it.
use mathlib.Core.Path.{◌≡◌}
use lib.ListN.{length, take}
use Rattle.base.specs.Store.{patched}
use Rattle.hexline.specs.Writing.{bytes_text}
use Rattle.hexline.proofs.writing.put_bytes.Given as goal

abbrev pub invariant-loop-i : goal.invariant-loop-i
invariant-loop-i l = (l.text ≡ patched l.at (bytes_text (take l.i l.bytes)) l.initial.text) × (length l.text ≡ length l.initial.text)
