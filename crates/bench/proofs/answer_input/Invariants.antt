-- Where there is a block more, its count is less than that of the one before.
use Rattle.std.proofs.Common.{◌+◌, ℕ, ControlFlow, Continue, Break}
use Rattle.status.specs.declared.Status.{Status}
use Rattle.bench.specs.declared.block.Block.{Block}
use Rattle.bench.proofs.answer_input.Given as goal

abbrev pub left_in : ControlFlow Status Block → ℕ
left_in (Continue block) = block.left + 1
left_in (Break status) = 0

abbrev pub decreases-blocks-2 : goal.decreases-blocks-2
decreases-blocks-2 l = left_in l.next
