-- The bytes that were read fill the buffer from its start, and each turn reads one more at least.
use Rattle.std.proofs.Common.{length, ◌-◌, ◌≡◌, ◌≤◌}
use Rattle.files.proofs.read_all.Given as goal

abbrev pub invariant-loop-size : goal.invariant-loop-size
invariant-loop-size g l = (l.size ≤ length l.into) × (length l.into ≡ length l.initial.into)

abbrev pub decreases-loop-size : goal.decreases-loop-size
decreases-loop-size g l = length l.into - l.size
