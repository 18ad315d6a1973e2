-- Each iteration is one event, with its answer noted.
use mathlib.Core.Path.{◌≡◌}
use Rattle.base.specs.Fold.{up_to}
use Rattle.bus.specs.Run.{run_event}
use Rattle.bus.proofs.run_all.Given as goal

abbrev pub invariant-loop-i : goal.invariant-loop-i
invariant-loop-i l =
    (l.bus, l.array, l.security, l.answers) ≡ up_to (run_event l.events) l.i (l.initial.bus, l.initial.array, l.initial.security, l.initial.answers)
