-- The value of the digit, or 0.
use mathlib.Core.Path.{◌∙◌, ap}
use Prim.Native.Nat.{ℕ}
use Rattle.std.specs.Prelude.{Option, unwrap_or}
use Rattle.hexline.specs.Digit.{hex_digit, is_hex_digit, value_of}
use Rattle.hexline.proofs.digit.Laws.{unwrap_by}
use Rattle.hexline.proofs.digit.value_of.Goals as goal

pub returns : goal.returns
unfolding value_of
returns c =
    c.unwrap_or.ensures ∙ ap (λ (digit : Option ℕ). unwrap_or digit 0) c.digit.ensures ∙ unwrap_by (is_hex_digit c.args.byte) (hex_digit c.args.byte) 0
