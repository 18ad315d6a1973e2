-- A load exchanges chip k's share of the array store and nothing else, and there only the bytes that some record names: each other chip's share
-- lies before it or behind it.
use Prim.Native.Nat.{ℕ, ◌+◌, ◌-◌, ◌<◌, ◌≤◌}
use native.Mathlib.Decide.{dec_lt}
use native.Mathlib.Omega.{arith}
use mathlib.Core.Bool.{true, false, false≢true}
use mathlib.Core.List.{List}
use mathlib.Core.Path.{◌≡◌, ◌∙◌, sym, ap}
use lib.ListN.{length, get_or}
use Rattle.base.specs.Store.{span, patched}
use Rattle.base.proofs.Store.{patched_length, patched_here, patched_before, patched_behind}
use Rattle.std.specs.Prelude.{Ok}
use Rattle.refusal.specs.Checks.{first_of}
use Rattle.std.specs.Result.{is_ok}
use Rattle.board.specs.declared.Place.{Place}
use Rattle.board.specs.Shares.{figures_at, array_start}
use Rattle.board.proofs.Laws.{ends_before}
use Rattle.lineup.specs.Chips.{places_of}
use Rattle.line.specs.Line.{array_share}
use Rattle.bus.specs.declared.Bus.{Bus}
use Rattle.bus.specs.Step.{chip_checks}
use Rattle.bus.proofs.Entry.{named}
use Rattle.image.specs.Reading.{reading_after}
use Rattle.image.specs.Storing.{stored, stores_at, byte_for}
use Rattle.image.specs.Load.{Loaded, load}
use Rattle.image.proofs.loading.Laws.{stored_length}
use Rattle.image.proofs.Loads.{array_size, Outcome, NotReached, NotTaken, Stored, outcome}
use Rattle.image.proofs.share.Laws.{share_length}
use Rattle.image.proofs.Saved.{share_at}
use Rattle.image.proofs.Text.{unnamed_bytes_stay, later_record_wins}

-- one chip's share exchanged
module _ (places : List Place) (array : List ℕ) (k : ℕ) (share : List ℕ) (long : length share ≡ (figures_at places k).array) (fits : array_start places k + length share ≤ length array) where
  beside : (i : ℕ) → (i ≡ k → ⊥) → array_share places i (patched (array_start places k) share array) ≡ array_share places i array
  beside i other = go (dec_lt i k)
    where
      size : ℕ → ℕ
      size j = (figures_at places j).array

      go : Dec (i < k) → array_share places i (patched (array_start places k) share array) ≡ array_share places i array
      go (yes before) =
          patched_before (array_start places k) share array fits (array_start places i) (size i) (ends_before size i k before)
      go (no p) =
          let end : ℕ = array_start places k + length share in
          let later : k < i = omega (arith, other) in
          let after : end + (array_start places i - end) ≡ array_start places i = omega (arith, ends_before size k i later, long) in
          rw after at (patched_behind (array_start places k) share array fits (array_start places i - end) (size i))

module _ (bus : Bus) (array security : List ℕ) (k : ℕ) (text : List ℕ) where
  stored_long : first_of (chip_checks bus array security k) ≡ Ok tt → length (stored text (share_at bus array k)) ≡ array_size bus k
  stored_long passes = stored_length text (share_at bus array k) ∙ share_length bus array security k (named bus array security k passes)

  stored_fits : first_of (chip_checks bus array security k) ≡ Ok tt
      → array_start (places_of bus.chips) k + length (stored text (share_at bus array k)) ≤ length array
  stored_fits passes = rw (stored_long passes) (named bus array security k passes).share_fits

  -- the array store keeps its length
  pub loaded_length : length (load bus array security k text).1 ≡ length array
  loaded_length = go (outcome bus array security k text)
    where
      go : Outcome bus array security k text → length (load bus array security k text).1 ≡ length array
      go (NotReached refusal said is) = ap (λ (end : Loaded × List ℕ). length end.1) is
      go (NotTaken refusal passed said is) = ap (λ (end : Loaded × List ℕ). length end.1) is
      go (Stored passed said is) =
          ap (λ (end : Loaded × List ℕ). length end.1) is
          ∙ patched_length (array_start (places_of bus.chips) k) (stored text (share_at bus array k)) array (stored_fits passed)

  -- every other chip's share is as it was
  pub other_chips_stay : (i : ℕ) → (i ≡ k → ⊥)
      → array_share (places_of bus.chips) i (load bus array security k text).1 ≡ array_share (places_of bus.chips) i array
  other_chips_stay i other = go (outcome bus array security k text)
    where
      go : Outcome bus array security k text
          → array_share (places_of bus.chips) i (load bus array security k text).1 ≡ array_share (places_of bus.chips) i array
      go (NotReached refusal said is) = ap (λ (end : Loaded × List ℕ). array_share (places_of bus.chips) i end.1) is
      go (NotTaken refusal passed said is) = ap (λ (end : Loaded × List ℕ). array_share (places_of bus.chips) i end.1) is
      go (Stored passed said is) =
          ap (λ (end : Loaded × List ℕ). array_share (places_of bus.chips) i end.1) is
          ∙ beside (places_of bus.chips) array k (stored text (share_at bus array k)) (stored_long passed) (stored_fits passed) i other

  -- a load that passes: chip k's share is the one that it was, with all that the text names
  loaded_share : (load bus array security k text).0 ≡ Ok tt
      → (share_at bus (load bus array security k text).1 k ≡ stored text (share_at bus array k)) × (length (share_at bus array k) ≡ array_size bus k)
  loaded_share passes = go (outcome bus array security k text)
    where
      go : Outcome bus array security k text
          → (share_at bus (load bus array security k text).1 k ≡ stored text (share_at bus array k)) × (length (share_at bus array k) ≡ array_size bus k)
      go (NotReached refusal said is) = absurd (false≢true (ap is_ok (sym (ap (λ (end : Loaded × List ℕ). end.0) is) ∙ passes)))
      go (NotTaken refusal passed said is) = absurd (false≢true (ap is_ok (sym (ap (λ (end : Loaded × List ℕ). end.0) is) ∙ passes)))
      go (Stored passed said is) = (
        ap (λ (end : Loaded × List ℕ). share_at bus end.1 k) is
            ∙ ap (λ (n : ℕ). span (array_start (places_of bus.chips) k) n (patched (array_start (places_of bus.chips) k) (stored text (share_at bus array k)) array)) (sym (stored_long passed))
            ∙ patched_here (array_start (places_of bus.chips) k) (stored text (share_at bus array k)) array (stored_fits passed),
        share_length bus array security k (named bus array security k passed),
      )

  -- so an address that no record names holds what it held
  pub loading_keeps_unnamed_bytes : (load bus array security k text).0 ≡ Ok tt → (j d : ℕ)
      → ((i : ℕ) → stores_at (array_size bus k) text (reading_after (array_size bus k) text i) j ≡ false)
      → get_or (share_at bus (load bus array security k text).1 k) j d ≡ get_or (share_at bus array k) j d
  loading_keeps_unnamed_bytes passes j d none =
      let (now, size) = loaded_share passes in
      ap (λ (share : List ℕ). get_or share j d) now ∙ unnamed_bytes_stay text (share_at bus array k) j d (rw size none)

  -- and one that record i names, and none behind it, holds the byte that record i has for it
  pub loading_takes_the_later_record : (load bus array security k text).0 ≡ Ok tt → (j d i : ℕ)
      → stores_at (array_size bus k) text (reading_after (array_size bus k) text i) j ≡ true
      → ((n : ℕ) → i < n → stores_at (array_size bus k) text (reading_after (array_size bus k) text n) j ≡ false)
      → get_or (share_at bus (load bus array security k text).1 k) j d ≡ byte_for text (reading_after (array_size bus k) text i) j
  loading_takes_the_later_record passes j d i here none =
      let (now, size) = loaded_share passes in
      ap (λ (share : List ℕ). get_or share j d) now ∙ rw size at (later_record_wins text (share_at bus array k) j d i (rw size here) (rw size none))
