-- Each iteration is one event, with its answer noted.
use native.Mathlib.Omega.{arith}
use mathlib.Core.Path.{refl, ap}
use Rattle.base.specs.Fold.{up_to}
use Rattle.base.proofs.Fold.{up_more, up_end}
use Rattle.bus.specs.Run.{noted, run_event, run_up_to}
use Rattle.bus.proofs.run_all.Goals as goal

pub loop-i-init : goal.loop-i-init
unfolding up_to
loop-i-init c = refl

pub loop-i-preserved : goal.loop-i-preserved
loop-i-preserved c =
    let l = c.loop-i in
    up_more (run_event c.args.events.now) l.i _ l.invariant (rw c.answer_word.ensures (ap (noted l.i l.answers) c.event.ensures))

pub returns : goal.returns
unfolding run_up_to
returns c = up_end (run_event c.args.events.now) _ (omega (arith, c.loop-i-test.false, c.loop-i.auto.i-end)) c.loop-i.invariant
