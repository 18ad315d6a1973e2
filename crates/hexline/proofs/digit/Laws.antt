-- What a byte counts as a digit is below 16, also where it is none. And letters that are no digit are none in upper case either, so any letter
-- may be turned: one test over all bytes.
use Prim.Native.Nat.{ℕ, ◌<◌}
use native.Mathlib.Omega.{arith}
use mathlib.Core.Bool.{Bool, true, false, cond}
use mathlib.Core.Path.{◌≡◌, refl, ap}
use lib.Dec.{eqb, ltb}
use borrow.Author.Tests.{ltb-true, eqb-true}
use Rattle.std.specs.Char.{to_ascii_uppercase}
use Rattle.std.specs.Prelude.{Some, None, unwrap_or}
use Rattle.base.specs.Fold.{up_to}
use Rattle.base.proofs.Fold.{all_at}
use Rattle.base.proofs.logic.Laws.{either_if}
use Rattle.transcript.specs.Digit.{digit_of, digit_value}
use Rattle.hexline.specs.Digit.{upper_case, hex_digit, is_hex_digit, value_of}

pub value_fits : (b : ℕ) → value_of b < 16
unfolding value_of
value_fits b = either_if (λ (value : ℕ). value < 16) (is_hex_digit b) (hex_digit b) 0 (ltb-true (hex_digit b) 16) (omega arith)

abbrev turns_alike : ℕ → Bool
turns_alike b = eqb (digit_of (to_ascii_uppercase b)) (digit_of (upper_case b))

pub digit_turned : (b : ℕ) → b < 256 → digit_value (to_ascii_uppercase b) ≡ digit_value (upper_case b)
unfolding digit_of up_to
digit_turned b below =
    ap (λ (digit : ℕ). cond (ltb digit 16) (Some digit) None) (eqb-true _ _ (all_at turns_alike 256 b refl below))

-- what is read of an option that a test makes
pub unwrap_by : (test : Bool) (x d : ℕ) → unwrap_or (cond test (Some x) None) d ≡ cond test x d
unwrap_by true x d = refl
unwrap_by false x d = refl
