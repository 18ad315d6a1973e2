-- The share so far is the definition's after so many places.
use Rattle.std.proofs.Common.{◌≡◌, ℕ, ◌+◌, List, get_or}
use Rattle.base.specs.Fold.{up_to}
use Rattle.load.specs.Span.{covers}
use Rattle.load.specs.Load.{Load, load_of, store_byte}
use Rattle.load.proofs.Span.store_page.Given as goal

-- the byte of one place, by the size of the page that the code has asked for
abbrev pub store_in : ℕ → Load → ℕ → ℕ → List ℕ → List ℕ
store_in size load first place store = store_byte (covers size load.span place) (first + place) (get_or load.values place 0) store

abbrev pub invariant-loop-place : goal.invariant-loop-place
invariant-loop-place l =
    l.share ≡ up_to (store_in l.size (load_of l.self l.values) l.first) l.place l.fn.share
