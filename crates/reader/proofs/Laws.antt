-- Where a reader goes: 9 and the end leave its place, an event's line of five bytes is passed, and the text is never exchanged.
use Prim.Native.Nat.{ℕ, ◌+◌}
use native.Mathlib.Omega.{arith}
use mathlib.Core.Path.{◌≡◌, refl, ap, ◌∙◌}
use Rattle.transcript.specs.Frame.{meaning}
use Rattle.transcript.specs.declared.frame.Frame.{Frame}
use Rattle.transcript.specs.declared.frame.Frame.TheVariants.{Event, Malformed, End}
use Rattle.transcript.proofs.frame.Laws.{event_exactly_when}
use Rattle.reader.specs.Reader.{frame_for, moved_on}
use Rattle.reader.specs.declared.Reader.{Reader}

nine_place : (frame : Frame) (at : ℕ) → (meaning frame at).status ≡ 9 → (meaning frame at).place ≡ at
nine_place (Event event next) at said = absurd (omega (arith, said))
nine_place Malformed at said = refl
nine_place End at said = refl

module _ (reader : Reader) where
  -- the reader at another place
  abbrev placed : ℕ → Reader
  placed at = record { text = reader.text; at = at }

  pub nine_stays : (meaning (frame_for reader) reader.at).status ≡ 9 → moved_on reader ≡ reader
  nine_stays said = ap placed (nine_place (frame_for reader) reader.at said)

  pub end_stays : frame_for reader ≡ End → moved_on reader ≡ reader
  end_stays said = ap (λ (frame : Frame). placed (meaning frame reader.at).place) said

  pub event_passes : (event next : ℕ) → frame_for reader ≡ Event event next → moved_on reader ≡ placed (reader.at + 5)
  event_passes event next said =
      ap (λ (frame : Frame). placed (meaning frame reader.at).place) said
      ∙ ap placed ((event_exactly_when reader.text.now reader.at event next).0 said).2
