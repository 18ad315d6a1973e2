-- A load ends in one of three ways: 10, 5 or 7 refuses it, or its text does, and the store stays; or the text is stored in the chip's share.
use Prim.Native.Nat.{ℕ, ◌+◌}
use mathlib.Core.List.{List}
use mathlib.Core.Path.{◌≡◌, ◌∙◌, refl, ap}
use Rattle.base.proofs.Cut.{patched_same}
use Rattle.refusal.specs.declared.Refusal.{Refusal}
use Rattle.refusal.specs.Verdict.{Verdict}
use Rattle.std.specs.Prelude.{Ok, Err}
use Rattle.refusal.specs.Checks.{first_of}
use Rattle.board.specs.Shares.{figures_at, array_start}
use Rattle.lineup.specs.Chips.{places_of}
use Rattle.bus.specs.declared.Bus.{Bus}
use Rattle.bus.specs.Step.{chip_checks}
use Rattle.bus.proofs.Entry.{named}
use Rattle.image.specs.Reading.{scanned, text_verdict}
use Rattle.image.specs.Storing.{stored}
use Rattle.image.specs.Load.{loaded, refused_at, load_share, with_share, in_place, load}
use Rattle.image.proofs.share.Laws.{share_length}
use Rattle.image.proofs.Saved.{share_at}

-- how many bytes the array of the part there has
abbrev pub array_size : Bus → ℕ → ℕ
array_size bus k = (figures_at (places_of bus.chips) k).array

module _ (bus : Bus) (array security : List ℕ) (k : ℕ) (text : List ℕ) where
  pub data Outcome : Type 0 where
    NotReached : (refusal : Refusal) → first_of (chip_checks bus array security k) ≡ Err refusal
        → load bus array security k text ≡ (refused_at refusal 0, array)
        → Outcome
    NotTaken : (refusal : Refusal) → first_of (chip_checks bus array security k) ≡ Ok tt → text_verdict (array_size bus k) text ≡ Err refusal
        → load bus array security k text ≡ (refused_at refusal ((scanned (array_size bus k) text).lines + 1), array)
        → Outcome
    Stored : first_of (chip_checks bus array security k) ≡ Ok tt → text_verdict (array_size bus k) text ≡ Ok tt
        → load bus array security k text ≡ (loaded, with_share (places_of bus.chips) k array (stored text (share_at bus array k)))
        → Outcome

  -- a share whose text is refused is put back as it was
  by_text : first_of (chip_checks bus array security k) ≡ Ok tt → (verdict : Verdict) → text_verdict (array_size bus k) text ≡ verdict
      → load bus array security k text ≡ in_place (places_of bus.chips) k array (load_share text (share_at bus array k)) → Outcome
  unfolding load_share
  by_text passes (Ok tt) said comes =
      let size = share_length bus array security k (named bus array security k passes) in
      let made : load_share text (share_at bus array k) ≡ (loaded, stored text (share_at bus array k)) = rw (size, said) in
      Stored passes said (comes ∙ ap (in_place (places_of bus.chips) k array) made)
  by_text passes (Err refusal) said comes =
      let line = (scanned (array_size bus k) text).lines + 1 in
      let size = share_length bus array security k (named bus array security k passes) in
      let made : load_share text (share_at bus array k) ≡ (refused_at refusal line, share_at bus array k) = rw (rw (← size) at said) (rw size) in
      NotTaken refusal passes said
      (comes
      ∙ ap (in_place (places_of bus.chips) k array) made
      ∙ ap (λ (store : List ℕ). (refused_at refusal line, store)) (patched_same (array_start (places_of bus.chips) k) (array_size bus k) array))

  pub outcome : Outcome
  unfolding load
  outcome = go (first_of (chip_checks bus array security k)) refl
    where
      go : (verdict : Verdict) → first_of (chip_checks bus array security k) ≡ verdict → Outcome
      go (Ok tt) said = by_text said (text_verdict (array_size bus k) text) refl (rw said)
      go (Err refusal) said = NotReached refusal said (rw said)
