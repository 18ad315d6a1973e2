-- The round trip: what `save` wrote, `load` takes into any array of the same part, on another board and at another place too, and gives
-- the first array back.
use Prim.Native.Nat.{ℕ}
use mathlib.Core.List.{List}
use mathlib.Core.Path.{◌≡◌, ◌∙◌, refl, sym, ap}
use lib.ListN.{length, take}
use lib.Seq.{take-append_seam}
use Rattle.base.specs.Every.{FitsByte, AllBytes}
use Rattle.base.proofs.Every.{every_span}
use Rattle.parts.specs.Part.{geometry_of}
use Rattle.parts.proofs.part.Laws.{sound_of}
use Rattle.refusal.specs.Verdict.{Verdict}
use Rattle.std.specs.Prelude.{Ok, Err}
use Rattle.refusal.specs.Checks.{first_of}
use Rattle.board.specs.declared.Place.{Place}
use Rattle.board.specs.Place.{place_at}
use Rattle.board.specs.Shares.{figures_at, array_start}
use Rattle.lineup.specs.Chips.{places_of}
use Rattle.line.specs.Line.{array_share}
use Rattle.bus.specs.declared.Bus.{Bus}
use Rattle.bus.specs.Step.{chip_checks}
use Rattle.bus.proofs.Entry.{Named, named}
use Rattle.image.specs.Load.{loaded, with_share, load}
use Rattle.image.specs.Rows.{saved_text}
use Rattle.image.specs.Save.{Saved, save_verdict, save_checks, save_share, save_by, save}
use Rattle.image.proofs.Back.{share_back}
use Rattle.image.proofs.share.Laws.{share_length}
use Rattle.image.proofs.saving.Laws.{save_named, saved_share}

-- the part at a place of a line
abbrev pub part_at : Bus → ℕ → ℕ
part_at bus k = (place_at (places_of bus.chips) k).part

-- the array of the chip there
abbrev pub share_at : Bus → List ℕ → ℕ → List ℕ
share_at bus array k = array_share (places_of bus.chips) k array

-- how many bytes were written
abbrev count_of : Saved → ℕ
count_of (Ok count) = count
count_of (Err refusal) = 0

-- saving says what its checks say
pub says : (verdict : Verdict) (places : List Place) (array : List ℕ) (k : ℕ) (buffer : List ℕ) → save_verdict (save_by verdict places array k buffer).0 ≡ verdict
says (Ok tt) places array k buffer = refl
says (Err refusal) places array k buffer = refl

module _ (bus : Bus) (array security : List ℕ) (k : ℕ) (buffer : List ℕ) (count : ℕ) (passes : (save bus array security k buffer).0 ≡ Ok count) where
  checks_pass : first_of (save_checks bus array security k buffer) ≡ Ok tt
  unfolding save
  checks_pass = sym (says (first_of (save_checks bus array security k buffer)) (places_of bus.chips) array k buffer) ∙ ap save_verdict passes

  pub is_named_lem : Named bus array security k
  is_named_lem = save_named bus array security k buffer checks_pass

  pub saved_as : save bus array security k buffer ≡ save_share (share_at bus array k) buffer
  saved_as = saved_share bus array security k buffer checks_pass

  -- as many bytes as the text has
  pub written_count : length (saved_text (share_at bus array k)) ≡ count
  written_count = ap count_of (sym (ap (λ (end : Saved × List ℕ). end.0) saved_as) ∙ passes)

  -- the text that was written: so many bytes from the buffer's start
  abbrev pub written : List ℕ
  written = take count (save bus array security k buffer).1

  written_is : written ≡ saved_text (share_at bus array k)
  written_is = rw (sym written_count, saved_as) (take-append_seam (saved_text (share_at bus array k)) _)

  pub saved_loads_back : AllBytes array → (bus' : Bus) (array' security' : List ℕ) (k' : ℕ) → first_of (chip_checks bus' array' security' k') ≡ Ok tt
      → part_at bus' k' ≡ part_at bus k
      → load bus' array' security' k' written ≡ (loaded, with_share (places_of bus'.chips) k' array' (share_at bus array k))
  unfolding load
  saved_loads_back bytes bus' array' security' k' there same =
      let share = share_at bus array k in
      let size = share_length bus array security k is_named_lem in
      let sound = sound_of (part_at bus k) in
      let alike : length (share_at bus' array' k') ≡ length share =
      share_length bus' array' security' k' (named bus' array' security' k' there) ∙ ap (λ (part : ℕ). (geometry_of part).array) same ∙ sym size
      in
      let all : AllBytes share = every_span FitsByte (array_start (places_of bus.chips) k) (figures_at (places_of bus.chips) k).array array bytes in
      let back = share_back share (share_at bus' array' k') alike (rw size sound.array_rows) (rw size sound.array_most) all in
      rw (there, written_is, back)
