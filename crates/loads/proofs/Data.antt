-- What a chip that takes data bytes has loaded after one more: a phase's case of `loaded`, by what the data are for.
use Rattle.std.proofs.Common.{◌≡◌, ℕ, List, refl}
use Rattle.load.specs.declared.Span.{Span}
use Rattle.control.specs.declared.Control.{Control}
use Rattle.control.specs.declared.phase.Phase.TheVariants.{TakesData}
use Rattle.control.specs.declared.phase.Data.{Data}
use Rattle.taking.specs.Taking as taking
use Rattle.taking.specs.Taking.{loaded, loaded_data}

pub loaded_by_its_data : (kind : Data) (span : Span) (c : Control) (byte : ℕ) (values : List ℕ) → c.phase ≡ TakesData kind → loaded span c byte values ≡ loaded_data kind span c byte values
unfolding taking.span_after taking.values_after
loaded_by_its_data kind span c byte values takes = rw takes refl
