-- The bytes passed are digits, so that it hangs on the rest; the number so far, and the digits that are left, make the number.
use Rattle.std.proofs.Common.{◌≡◌, drop}
use Rattle.asking.specs.Page.{all_digits, number_from}
use Rattle.asking.proofs.page.number_of.Given as goal

abbrev pub invariant-loop-digit : goal.invariant-loop-digit
invariant-loop-digit l =
    record {
      digits : all_digits l.digits ≡ all_digits (drop l.digit-index l.digits);
      number : number_from 0 l.digits ≡ number_from l.number (drop l.digit-index l.digits);
    }
