-- The tests are the definition's, in another order.
use mathlib.Core.Bool.{true, false, and_comm}
use mathlib.Core.Path.{◌≡◌, ◌∙◌, sym, ap}
use lib.Dec.{eqb, ltb}
use borrow.Author.Tests.{eqb-true, ltb-true, eq-eqb, ne_eqb}
use Rattle.hexline.specs.Fields.{colon, char_at, end_size, all_digits, is_framed}
use Rattle.hexline.proofs.fields.Laws.{digits_all}
use Rattle.hexline.proofs.fields.is_framed.Goals.{then-char_at-eq-COLON, else-char_at-eq-COLON}
use Rattle.hexline.proofs.fields.is_framed.Goals as goal

pub returns-then-end_size-gt0 : goal.returns-then-end_size-gt0
unfolding is_framed
returns-then-end_size-gt0 c =
    let rest = c.args.rest.now in
    elim c.if-char_at-eq-COLON.branch [
      | then-char_at-eq-COLON w ↦
          let first : eqb (char_at rest 0) colon ≡ true = eq-eqb _ _ (sym c.char_at.ensures ∙ w.if-char_at-eq-COLON.true) in
          let ends : ltb 0 (end_size rest) ≡ true = ap (ltb 0) (sym w.end_size.ensures) ∙ sym w.value-is ∙ c.if-end_size-gt0.true in
          let digits : c.all_digits.result ≡ all_digits rest = c.all_digits.ensures ∙ digits_all rest (ltb-true 0 (end_size rest) ends) c.end_at.ensures in
          rw (first, ends) (digits ∙ sym (and_comm (all_digits rest) true))
      | else-char_at-eq-COLON w ↦ absurd (w.if-char_at-eq-COLON.false (eqb-true _ _ (sym w.value-is ∙ c.if-end_size-gt0.true)))
    ]

pub returns-else-end_size-gt0 : goal.returns-else-end_size-gt0
unfolding is_framed
returns-else-end_size-gt0 c =
    let rest = c.args.rest.now in
    elim c.if-char_at-eq-COLON.branch [
      | then-char_at-eq-COLON w ↦
          let first : eqb (char_at rest 0) colon ≡ true = eq-eqb _ _ (sym c.char_at.ensures ∙ w.if-char_at-eq-COLON.true) in
          let none : ltb 0 (end_size rest) ≡ false = ap (ltb 0) (sym w.end_size.ensures) ∙ sym w.value-is ∙ c.if-end_size-gt0.false in
          rw (first, none) (c.if-end_size-gt0.false ∙ sym (and_comm (all_digits rest) false))
      | else-char_at-eq-COLON w ↦
          let other : eqb (char_at rest 0) colon ≡ false = ne_eqb _ _ (λ same. w.if-char_at-eq-COLON.false (c.char_at.ensures ∙ same)) in
          rw other c.if-end_size-gt0.false
    ]
