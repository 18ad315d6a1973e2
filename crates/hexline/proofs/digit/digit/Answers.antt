-- A letter that is no digit is none in upper case either.
use mathlib.Core.Path.{◌∙◌, ap}
use Rattle.transcript.specs.Digit.{digit_value}
use Rattle.hexline.proofs.digit.Laws.{digit_turned}
use Rattle.hexline.proofs.digit.digit.Goals as goal

pub returns : goal.returns
returns c = c.digit_value.ensures ∙ ap digit_value c.to_ascii_uppercase.ensures.value ∙ digit_turned c.args.byte c.ranges.byte.fits
