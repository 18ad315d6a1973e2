-- Past the eighth bit a byte has nothing left.
use Rattle.std.proofs.Common.{◌^◌, ◌<◌, ◌≤◌, arith, le-ltb}
use native.Mathlib.Nat.{div-eq_of_lt}
use lib.Pow.{pow_mono}
use Rattle.base.proofs.bit.bit_of.Goals as goal

pub returns-else-at-lt-BITS : goal.returns-else-at-lt-BITS
returns-else-at-lt-BITS c =
    let most : 2 ^ 8 ≤ 2 ^ c.args.at = pow_mono c.if-at-lt-BITS.false in
    let none : c.args.byte < 2 ^ c.args.at = omega (arith, most) in
    rw (div-eq_of_lt none, le-ltb _ _ c.if-at-lt-BITS.false)
