-- A place in a page is below 256, so the store is inside the values.
use Rattle.std.proofs.Common.{arith}
use Rattle.parts.proofs.part.Laws.{sound_of, sound_is}
use Rattle.regions.proofs.page.Laws.{place_small}
use Rattle.load.proofs.Span.put.Goals as goal

pub bounds-values-place : goal.bounds-values-place
bounds-values-place c = rw c.place_of-place.ensures (place_small _ (sound_of _) _)

pub grown-requires-clause-page_bound : goal.grown-requires-clause-page_bound
grown-requires-clause-page_bound c = let sound = sound_is _ c.geometry_of-page.ensures in omega arith

pub grown-requires-clause-place_bound : goal.grown-requires-clause-place_bound
grown-requires-clause-place_bound c = rw c.place_of-place.ensures (place_small _ (sound_of _) _)
