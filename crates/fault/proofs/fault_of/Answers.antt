-- The digits that std counts are those of the definition.
use Rattle.std.proofs.Common.{ap, ◌∙◌}
use Rattle.fault.specs.Fault.{fault_behind}
use Rattle.fault.proofs.Digits.{digits_front}
use Rattle.fault.proofs.fault_of.Goals as goal

pub returns : goal.returns
returns c =
    c.fault_behind.ensures
    ∙ ap (λ n. fault_behind n c.args.line.now) (c.digits_in.ensures ∙ digits_front 4 c.args.line.now)
