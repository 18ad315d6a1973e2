-- `begins` at the first frame, `goes` from one to the next, `ends` at the last (`Standing.antt`). The reader's text stays the text on the tape.
use mathlib.Core.Path.{◌∙◌, ap}
use Rattle.bus.proofs.Typed.{OfItsType}
use Rattle.reader.specs.declared.Reader.{Reader}
use Rattle.conversation.proofs.Standing.{begins, goes, ends}
use Rattle.conversation.proofs.converse.Goals as goal

pub loop-pending-init : goal.loop-pending-init
loop-pending-init c =
    let lent : OfItsType c.as_lent.result = record { values = _; is = c.as_lent.type_inv } in
    let typed = rw c.as_lent.ensures at lent in
    let place = rw c.new-reader.ensures at (ap (λ (r : Reader). r.at) c.next.ensures.moved) in
    let same = rw c.new-reader.ensures at (ap (λ (r : Reader). r.text.now) c.next.ensures.moved) in
    (begins _ _ _ _ _ (rw c.as_lent.ensures at c.entry_verdict-entry.ensures) typed place c.pending_at-pending.ensures, same)

pub loop-pending-preserved : goal.loop-pending-preserved
loop-pending-preserved c =
    let l = c.loop-pending in
    let place = rw l.invariant.1 at (ap (λ (r : Reader). r.at) c.next-in-Some.ensures.moved) in (
      (goes _ _ _ _ _ l.invariant.0 c.in-Some.is c.step_in_place-answer.ensures place c.next_pending-pending.ensures).0,
      ap (λ (r : Reader). r.text.now) c.next-in-Some.ensures.moved ∙ l.invariant.1,
    )

pub loop-pending-smaller : goal.loop-pending-smaller
loop-pending-smaller c =
    let l = c.loop-pending in
    let place = rw l.invariant.1 at (ap (λ (r : Reader). r.at) c.next-in-Some.ensures.moved) in
    (goes _ _ _ _ _ l.invariant.0 c.in-Some.is c.step_in_place-answer.ensures place c.next_pending-pending.ensures).1

pub returns : goal.returns
returns c =
    let a = c.args in
    ends _ _ _ _ _ c.loop-pending.invariant.0 c.in_default.is c.from.ensures
