-- The tests are the definition's; no address wraps, since the first is small.
use native.Mathlib.Omega.{arith}
use borrow.Author.Rules.{rules}
use Rattle.hexline.proofs.fields.Laws.{first_fits}
use Rattle.hexline.proofs.checks.past_array.Goals as goal

pub overflow_add-result : goal.overflow_add-result
overflow_add-result c =
    let a = c.args in
    omega (arith, c.first_address.ensures, first_fits a.upper a.rest.now (search rules))
