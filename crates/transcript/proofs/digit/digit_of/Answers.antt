-- `digit_of` reads the table at the byte.
use Rattle.std.proofs.Common.{rules}
use Rattle.transcript.proofs.digit.Laws.{table, at_byte}
use Rattle.transcript.proofs.digit.digit_of.Goals as goal

pub returns : goal.returns
unfolding table
returns c = at_byte c.args.byte (search rules)
