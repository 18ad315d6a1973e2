-- The text that was taken is a part from its start, and each turn takes one of the tries.
use Rattle.std.proofs.Common.{length, take, ◌≤◌}
use Rattle.std.specs.Io.KnownBytes.{Appends}
use Rattle.stream.proofs.write_on.Given as goal

abbrev pub invariant-loop-done : goal.invariant-loop-done
invariant-loop-done g l = record {
  fits : l.done ≤ length l.text;
  taken : Appends (g.W.Write.contents l.initial.to) (g.W.Write.contents l.to) (take l.done l.text);
}

abbrev pub decreases-loop-done : goal.decreases-loop-done
decreases-loop-done g l = l.tries
