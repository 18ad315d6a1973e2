-- Two lists played as one are played one after the other; every event has one answer, that of the step in the world that it meets; and an
-- event that leads nowhere changes nothing but that it is answered.
use Prim.Native.Nat.{ℕ, zero, suc, ◌<◌}
use native.Mathlib.Nat.{not-suc-le-zero, le_of_suc-le-suc}
use mathlib.Core.List.{List, [], ◌∷◌, ◌++◌}
use mathlib.Core.Path.{◌≡◌, ◌∙◌, refl, sym, ap}
use lib.ListN.{length, get_or, take}
use Rattle.promises.specs.Playing.{World, Bench, after_one, answer_to, after, answers_to}

module _ (bench : Bench) where
  pub after_append : (world : World) (xs ys : List ℕ) → after bench world (xs ++ ys) ≡ after bench (after bench world xs) ys
  unfolding after
  after_append world [] ys = refl
  after_append world (word ∷ more) ys = after_append (after_one bench world word) more ys

  pub answers_append : (world : World) (xs ys : List ℕ)
      → answers_to bench world (xs ++ ys) ≡ answers_to bench world xs ++ answers_to bench (after bench world xs) ys
  unfolding after answers_to
  answers_append world [] ys = refl
  answers_append world (word ∷ more) ys =
      ap (λ (later : List ℕ). answer_to bench world word ∷ later) (answers_append (after_one bench world word) more ys)

  pub answers_length : (world : World) (events : List ℕ) → length (answers_to bench world events) ≡ length events
  unfolding answers_to
  answers_length world [] = refl
  answers_length world (word ∷ more) = ap suc (answers_length (after_one bench world word) more)

  -- an event's answer is that of the step in the world that the events before it have led to
  pub answer_at : (world : World) (events : List ℕ) (i : ℕ) → i < length events
      → get_or (answers_to bench world events) i 0 ≡ answer_to bench (after bench world (take i events)) (get_or events i 0)
  unfolding after answers_to
  answer_at world [] i below = absurd (not-suc-le-zero below)
  answer_at world (word ∷ more) zero below = refl
  answer_at world (word ∷ more) (suc i) below = answer_at (after_one bench world word) more i (le_of_suc-le-suc below)

  -- an event that leads nowhere might as well not be there
  pub after_without : (world : World) (before : List ℕ) (word : ℕ) (rest : List ℕ)
      → after_one bench (after bench world before) word ≡ after bench world before
      → after bench world (before ++ (word ∷ rest)) ≡ after bench world (before ++ rest)
  unfolding after
  after_without world before word rest stays =
      after_append world before (word ∷ rest) ∙ ap (λ (now : World). after bench now rest) stays ∙ sym (after_append world before rest)

  pub answers_without : (world : World) (before : List ℕ) (word : ℕ) (rest : List ℕ)
      → after_one bench (after bench world before) word ≡ after bench world before
      → answers_to bench world (before ++ (word ∷ rest))
      ≡ answers_to bench world before ++ (answer_to bench (after bench world before) word ∷ answers_to bench (after bench world before) rest)
  unfolding answers_to
  answers_without world before word rest stays =
      answers_append world before (word ∷ rest)
      ∙ ap (λ (now : World). answers_to bench world before ++ (answer_to bench (after bench world before) word ∷ answers_to bench now rest)) stays
