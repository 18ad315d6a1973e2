-- Where the checks pass the record ends in the text, so no place wraps.
use Prim.Native.Nat.{ℕ, ◌-◌}
use native.Mathlib.Omega.{arith}
use mathlib.Core.Bool.{true, false}
use mathlib.Core.List.{List}
use mathlib.Core.Path.{◌≡◌, ◌∙◌, sym, ap}
use lib.Dec.{eqb}
use lib.ListN.{length, take}
use borrow.Author.Tests.{eq-eqb, ne_eqb}
use Rattle.base.proofs.Store.{rest_all}
use Rattle.refusal.specs.Verdict.{Verdict}
use Rattle.std.specs.Prelude.{Ok, Err}
use Rattle.refusal.specs.Checks.{first_of}
use Rattle.hexline.specs.Fields.{end_kind, kind_in, line_size}
use Rattle.hexline.specs.Checks.{record_checks}
use Rattle.image.specs.declared.loading.Reading.{Reading}
use Rattle.image.specs.Reading.{rest_at, upper_after, read_by, verdict_at, next_reading}
use Rattle.image.proofs.loading.Laws.{past_fits}
use Rattle.image.proofs.loading.next_reading.Goals as goal

-- what was said of the part that was lent was said of all that is left
at_record : (size : ℕ) (text : List ℕ) (reading : Reading) {verdict : Verdict} → verdict ≡ first_of (record_checks size reading.upper (take (length text - reading.at) (rest_at text reading)))
    → verdict_at size text reading ≡ verdict
at_record size text reading said =
    sym (said ∙ ap (λ (rest : List ℕ). first_of (record_checks size reading.upper rest)) (rest_all text reading.at))

pub overflow_add-result : goal.overflow_add-result
overflow_add-result c =
    let a = c.args in
    let passes : verdict_at a.size a.text.now a.reading ≡ Ok tt =
    at_record a.size a.text.now a.reading c.record_verdict.ensures ∙ c.in-Ok.is
    in
    omega (
      arith,
      c.line_size.ensures,
      ap line_size (rest_all a.text.now a.reading.at),
      past_fits a.size a.text.now a.reading passes (omega (arith, c.requires.0)),
    )

pub returns-in-Err : goal.returns-in-Err
unfolding next_reading
returns-in-Err c =
    let a = c.args in
    let refused : verdict_at a.size a.text.now a.reading ≡ Err _ =
    at_record a.size a.text.now a.reading c.record_verdict.ensures ∙ c.in-Err.is
    in
    sym (ap (λ (verdict : Verdict). read_by verdict (rest_at a.text.now a.reading) a.reading) refused)

pub returns-then-kind_in-eq-END : goal.returns-then-kind_in-eq-END
unfolding next_reading
returns-then-kind_in-eq-END c =
    let a = c.args in
    let rest = rest_all a.text.now a.reading.at in
    let passes : verdict_at a.size a.text.now a.reading ≡ Ok tt =
    at_record a.size a.text.now a.reading c.record_verdict.ensures ∙ c.in-Ok.is
    in
    let size = c.line_size.ensures ∙ ap line_size rest in
    let upper = c.upper_after.ensures ∙ ap (λ (left : List ℕ). upper_after left a.reading.upper) rest in
    let end : eqb (kind_in (rest_at a.text.now a.reading)) end_kind ≡ true =
    eq-eqb _ _ (sym (c.kind_in.ensures ∙ ap kind_in rest) ∙ c.if-kind_in-eq-END.true)
    in
    rw (passes, size, upper, end)

pub returns-else-kind_in-eq-END : goal.returns-else-kind_in-eq-END
unfolding next_reading
returns-else-kind_in-eq-END c =
    let a = c.args in
    let rest = rest_all a.text.now a.reading.at in
    let passes : verdict_at a.size a.text.now a.reading ≡ Ok tt =
    at_record a.size a.text.now a.reading c.record_verdict.ensures ∙ c.in-Ok.is
    in
    let size = c.line_size.ensures ∙ ap line_size rest in
    let upper = c.upper_after.ensures ∙ ap (λ (left : List ℕ). upper_after left a.reading.upper) rest in
    let other : eqb (kind_in (rest_at a.text.now a.reading)) end_kind ≡ false =
    ne_eqb _ _ (λ same. c.if-kind_in-eq-END.false (c.kind_in.ensures ∙ ap kind_in rest ∙ same))
    in
    rw (passes, size, upper, other)
