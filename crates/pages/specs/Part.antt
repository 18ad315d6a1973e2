-- A part of a lent store: where it lies, and what it shows.
use Rattle.std.specs.Prelude.{ℕ, ◌+◌, List, ◌≡◌}
use Rattle.std.specs.Borrow.{Bor}
use Rattle.base.specs.Store.{span}

-- the n bytes of a store from a place on, where they lie, and not a copy
pub record PartOf (store part : Bor (List ℕ)) (at n : ℕ) : Type 0 where
  pub same_block : part.ref_ptr.0 ≡ store.ref_ptr.0
  pub same_place : part.ref_ptr.1 ≡ store.ref_ptr.1 + at
  pub shows : part.now ≡ span at n store.now
