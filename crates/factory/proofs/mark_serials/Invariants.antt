-- Each chip's number after the other.
use Rattle.std.proofs.Common.{◌≡◌}
use Rattle.base.specs.Fold.{up_to}
use Rattle.factory.specs.Serial.{serial}
use Rattle.factory.proofs.mark_serials.Given as goal

abbrev pub invariant-loop-k : goal.invariant-loop-k
invariant-loop-k l =
    l.security ≡ up_to (serial l.places) l.k l.fn.security
