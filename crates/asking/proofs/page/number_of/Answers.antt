-- A byte that is no digit decides; past the last one none is left.
use Rattle.std.proofs.Common.{sym, ◌∙◌, ap, arith}
use Rattle.std.specs.Prelude.{Some}
use Rattle.asking.proofs.Digits.{value_found, no_value_found, digits_on, digits_end, number_on, number_end, number_found, no_number_found}
use Rattle.asking.proofs.page.number_of.Goals as goal

pub returns-in_err-number : goal.returns-in_err-number
returns-in_err-number c =
    let other = no_value_found _ (sym c.digit_value.ensures ∙ c.in_err-number.was) in
    c.from_residual.ensures ∙ sym (no_number_found _ (c.loop-digit.invariant.digits ∙ digits_on _ _ c.loop-digit-test.true ∙ rw other))

pub loop-digit-preserved : goal.loop-digit-preserved
loop-digit-preserved c =
    let found = value_found _ _ (sym c.digit_value.ensures ∙ c.in_ok-number.was) in
    record {
      digits = c.loop-digit.invariant.digits ∙ digits_on _ _ c.loop-digit-test.true ∙ rw found.0;
      number = c.loop-digit.invariant.number ∙ number_on _ _ _ c.loop-digit-test.true ∙ rw found.1;
    }

pub returns : goal.returns
returns c =
    ap Some (sym (c.loop-digit.invariant.number ∙ number_end _ _ _ c.loop-digit-test.false))
    ∙ sym (number_found _ (search arith) c.if-digits-gt-NUMBER_DIGITS.false (c.loop-digit.invariant.digits ∙ digits_end _ _ c.loop-digit-test.false))
