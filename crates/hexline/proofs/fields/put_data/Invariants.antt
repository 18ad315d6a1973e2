-- The store so far is the definition's after i bytes; no place wraps, since the first address is small.
use Prim.Native.Nat.{ℕ, ◌+◌}
use mathlib.Core.List.{List}
use mathlib.Core.Path.{◌≡◌}
use lib.ListN.{length, set}
use Rattle.base.specs.Fold.{up_to}
use Rattle.hexline.specs.Fields.{first_address, data_at}
use Rattle.hexline.proofs.fields.put_data.Given as goal

abbrev pub invariant-loop-i : goal.invariant-loop-i
invariant-loop-i l = (l.share ≡ up_to (λ (j : ℕ) (so_far : List ℕ). set so_far (first_address l.upper l.rest + j) (data_at l.rest j)) l.i l.initial.share) × (length l.share ≡ length l.initial.share)
