-- What one write took is appended to what the earlier ones took.
use Rattle.std.proofs.Common.{◌≡◌, Ok, arith, ap, sym, ◌∙◌}
use Rattle.stream.specs.Came.{size_of}
use Rattle.stream.proofs.Laws.{one_more}
use Rattle.stream.proofs.write_on.Goals as goal

pub loop-done-preserved-in-Bytes : goal.loop-done-preserved-in-Bytes
loop-done-preserved-in-Bytes g c =
    let more : size_of c.came_of.result ≡ c.in-Bytes.taken = ap size_of (c.in_ok-taken.was ∙ ap Ok c.in-Bytes.is) in
    record {
      fits = omega (arith, more, c.came_of.ensures.fits);
      taken = rw (sym more) (one_more _ _ _ c.loop-done.done c.args.text.now c.write.result (size_of c.came_of.result) c.loop-done.invariant.taken c.write.ensures.bytes c.came_of.ensures.counted);
    }
