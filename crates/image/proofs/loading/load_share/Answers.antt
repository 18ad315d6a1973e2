-- The text is checked whole first; only where it passes is the share touched.
use Prim.Native.Nat.{ℕ, ◌+◌}
use native.Mathlib.Omega.{arith}
use mathlib.Core.Path.{◌≡◌, ◌∙◌, sym, ap}
use lib.ListN.{length}
use borrow.Author.Rules.{rules}
use Rattle.std.specs.Prelude.{Ok, Err}
use Rattle.bus.proofs.Entry.{passed}
use Rattle.image.specs.Reading.{verdict_of, text_verdict}
use Rattle.image.specs.declared.loading.Reading.{Reading}
use Rattle.image.specs.Load.{Loaded, refused_at, load_share}
use Rattle.image.proofs.loading.Laws.{refused, after_sane}
use Rattle.image.proofs.loading.load_share.Goals as goal

abbrev lines_of : Reading → ℕ
lines_of reading = reading.lines

pub overflow_add-line : goal.overflow_add-line
overflow_add-line c =
    let a = c.args in
    let sane = after_sane (length a.share.now) a.text.now (length a.text.now) in
    omega (arith, ap lines_of c.scan-reading.ensures, sane.inside, sane.fewer)

pub returns-in_err-map_err : goal.returns-in_err-map_err
unfolding load_share
returns-in_err-map_err c =
    let a = c.args in
    let (refusal, is) = refused c.verdict_of.result (search rules) in
    let verdict : text_verdict (length a.share.now) a.text.now ≡ Err refusal =
    ap (verdict_of a.text.now) (sym c.scan-reading.ensures) ∙ sym c.verdict_of.ensures ∙ is
    in
    let said : c.from_residual.result ≡ refused_at refusal (c.scan-reading.result.lines + 1) = search rules in
    rw (verdict, sym c.scan-reading.ensures) (ap (λ (end : Loaded). (end, a.share.now)) said)

pub returns : goal.returns
unfolding load_share
returns c =
    let a = c.args in
    let passes : text_verdict (length a.share.now) a.text.now ≡ Ok tt =
    ap (verdict_of a.text.now) (sym c.scan-reading.ensures) ∙ sym c.verdict_of.ensures ∙ passed c.verdict_of.result (search rules)
    in
    rw (passes, c.store_all.ensures)
