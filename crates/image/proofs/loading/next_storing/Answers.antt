-- The record is read as in the first walk, and stored where the definition stores it.
use Prim.Native.Nat.{ℕ}
use mathlib.Core.Bool.{Bool, true, false}
use mathlib.Core.List.{List}
use mathlib.Core.Path.{◌≡◌, ◌∙◌, sym, ap}
use lib.Dec.{eqb}
use lib.ListN.{length}
use borrow.Author.Tests.{eq-eqb, ne_eqb, not-false, not-true}
use Rattle.base.proofs.Store.{rest_all}
use Rattle.std.specs.Result.{is_ok}
use Rattle.hexline.specs.Fields.{data_kind, kind_in, put_data}
use Rattle.image.specs.declared.loading.Reading.{Reading}
use Rattle.image.specs.Reading.{said_by, rest_at, verdict_at, next_reading}
use Rattle.image.specs.Storing.{is_stored, next_storing}
use Rattle.image.proofs.loading.Laws.{next_passes}
use Rattle.image.proofs.loading.next_storing.Goals.{else-not-is_refused-via-then-not-is_refused+else-kind_in-eq-DATA, else-not-is_refused-via-else-not-is_refused}
use Rattle.image.proofs.loading.next_storing.Goals as goal

-- what is said of the record that was read next is what its checks say
said : (size : ℕ) (text : List ℕ) (reading next : Reading) → next ≡ next_reading size text reading → {ok : Bool} → is_ok (said_by next.progress) ≡ ok
    → is_ok (verdict_at size text reading) ≡ ok
said size text reading next is passes =
    sym (next_passes size text reading) ∙ ap (λ (now : Reading). is_ok (said_by now.progress)) (sym is) ∙ passes

pub returns-then-kind_in-eq-DATA : goal.returns-then-kind_in-eq-DATA
unfolding next_storing
returns-then-kind_in-eq-DATA c =
    let a = c.args in
    let rest = rest_all a.text.now a.reading.at in
    let passes = said (length a.share.now) a.text.now a.reading c.next_reading-next.result c.next_reading-next.ensures (not-false _ (sym c.if-not-is_refused.ensures)) in
    let is_data : eqb (kind_in (rest_at a.text.now a.reading)) data_kind ≡ true = eq-eqb _ _ (sym (c.kind_in.ensures ∙ ap kind_in rest) ∙ c.if-kind_in-eq-DATA.true) in
    let put : c.put_data.new.share ≡ put_data a.reading.upper (rest_at a.text.now a.reading) a.share.now =
    c.put_data.ensures ∙ ap (λ (left : List ℕ). put_data a.reading.upper left a.share.now) rest
    in
    rw (passes, is_data, put, c.next_reading-next.ensures)

pub returns-else-not-is_refused : goal.returns-else-not-is_refused
unfolding next_storing
returns-else-not-is_refused c =
    let a = c.args in
    let passed_by : is_stored (length a.share.now) a.text.now a.reading ≡ false =
    elim c.else-not-is_refused.branch [
      | else-not-is_refused-via-then-not-is_refused+else-kind_in-eq-DATA w ↦
          let passes = said (length a.share.now) a.text.now a.reading c.next_reading-next.result c.next_reading-next.ensures (not-false _ (sym w.if-not-is_refused.ensures)) in
          let other : eqb (kind_in (rest_at a.text.now a.reading)) data_kind ≡ false =
          ne_eqb _ _ (λ same. w.if-kind_in-eq-DATA.false (w.kind_in.ensures ∙ ap kind_in (rest_all a.text.now a.reading.at) ∙ same))
          in
          rw (passes, other)
      | else-not-is_refused-via-else-not-is_refused w ↦
          rw (said (length a.share.now) a.text.now a.reading c.next_reading-next.result c.next_reading-next.ensures (not-true _ (sym w.if-not-is_refused.ensures)))
    ]
    in
    rw (passed_by, c.next_reading-next.ensures)
