-- A digit is below 16, so two of them make a byte.
use Prim.Native.Nat.{◌+◌, ◌*◌}
use native.Mathlib.Omega.{arith}
use mathlib.Core.Path.{◌≡◌, ◌∙◌, ap}
use Rattle.hexline.specs.Digit.{value_of}
use Rattle.hexline.specs.Fields.{char_at, byte_at}
use Rattle.hexline.proofs.digit.Laws.{value_fits}
use Rattle.hexline.proofs.fields.byte_at.Goals as goal

pub overflow_mul-result : goal.overflow_mul-result
overflow_mul-result c = omega (arith, c.value_of.ensures, value_fits c.char_at.result)

pub overflow_add-result : goal.overflow_add-result
overflow_add-result c =
    omega
    (arith, c.value_of.ensures, value_fits c.char_at.result, c.value_of-2.ensures, value_fits c.char_at-2.result)

pub returns : goal.returns
unfolding byte_at
returns c =
    let a = c.args in
    let high : c.value_of.result ≡ value_of (char_at a.rest.now (1 + 2 * a.i)) = c.value_of.ensures ∙ ap value_of c.char_at.ensures in
    let behind : 1 + 2 * a.i + 1 ≡ 2 + 2 * a.i = omega arith in
    let low : c.value_of-2.result ≡ value_of (char_at a.rest.now (2 + 2 * a.i)) = c.value_of-2.ensures ∙ ap value_of (c.char_at-2.ensures ∙ ap (char_at a.rest.now) behind) in
    omega (arith, high, low)
