-- The record has room, so it is written, with the two bytes of the upper address bits.
use Prim.Native.Nat.{ℕ}
use native.Mathlib.Omega.{arith}
use mathlib.Core.List.{List, [], ◌∷◌}
use mathlib.Core.Path.{◌≡◌, ◌∙◌, ap}
use Rattle.base.specs.Word.{high_of, low_of}
use Rattle.hexline.specs.Fields.{upper_kind}
use Rattle.hexline.specs.Writing.{put_record}
use Rattle.image.proofs.saving.Laws.{put_fits}
use Rattle.image.proofs.saving.put_upper.Goals as goal

pub returns : goal.returns
returns c =
    let a = c.args in
    let bytes : c.to_be_bytes.result ≡ high_of a.upper ∷ low_of a.upper ∷ [] =
    c.to_be_bytes.ensures ∙ ap (λ (high : ℕ). high ∷ low_of a.upper ∷ []) (omega arith)
    in
    c.put_record.ensures
    ∙ ap (λ (content : List ℕ). put_record upper_kind 0 content a.text.now a.at) bytes
    ∙ put_fits _ _ _ _ _ (omega arith) (omega (arith, c.requires))
