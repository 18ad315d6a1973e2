-- A fold from the left, as the definition is.
use Prim.Native.Nat.{ℕ, ◌+◌, ◌%◌}
use mathlib.Core.Path.{◌≡◌, ◌∙◌}
use borrow.Author.Rules.{rules}
use Rattle.std.specs.Prelude.{fold}
use Rattle.hexline.proofs.writing.Laws.{sum_with_fold}
use Rattle.hexline.proofs.writing.sum_with.Goals as goal

pub returns : goal.returns
returns c =
    let folded : c.fold.result ≡ fold (λ (sum byte : ℕ). (sum + byte) % 256) c.args.start c.args.bytes.now = search rules in
    folded ∙ sum_with_fold c.args.bytes.now c.args.start
