-- Every event keeps a chip a value of its type, where it is well formed: its numbers are then inside their regions, and what
-- came from the host is bytes. By the relation that the checker itself has between values and what they denote. And the values of a load
-- keep their length.
use Prim.Native.Nat.{ℕ, ◌<◌, ◌≤◌}
use native.Mathlib.Omega.{arith}
use mathlib.Core.Bool.{true}
use mathlib.Core.List.{List, [], ◌∷◌}
use mathlib.Core.Path.{◌≡◌, ◌∙◌, refl}
use lib.ListN.{length, length-replicate, length-set}
use mir.Val.{Val}
use borrow.Author.Tests.{ltb-true}
use denote.Laws.{Is}
use Rattle.base.specs.Every.{AllBytes}
use Rattle.base.proofs.logic.Laws.{and_left, and_right}
use Rattle.parts.specs.declared.part.Geometry.{Geometry}
use Rattle.parts.specs.Part.{is_part, geometry_of}
use Rattle.parts.proofs.part.Laws.{sound_of, part_most}
use Rattle.load.specs.declared.Span.{Span}
use Rattle.load.specs.Span.{inside_page}
use Rattle.load.specs.contracts.Span as spans
use Rattle.load.proofs.Spanning.{first_below, count_most}
use Rattle.control.specs.declared.Control.{Control}
use Rattle.control.specs.declared.phase.Phase.{Phase}
use Rattle.control.specs.declared.phase.Phase.TheVariants.{Standby, Busy, AwaitsAddress, AwaitsChoice, AwaitsWord, TakesData, SendsByte}
use Rattle.control.specs.declared.phase.Word.{Word}
use Rattle.control.specs.declared.phase.Word.TheVariants.{ArrayFirst, ArraySecond, RegisterFirst, RegisterSecond}
use Rattle.control.specs.declared.phase.Data.{Data}
use Rattle.control.specs.declared.phase.Data.TheVariants.{ToArray, ToSecurity, ToConfiguration, ToLock, ToNowhere}
use Rattle.control.specs.declared.phase.Came.{Came}
use Rattle.control.specs.declared.phase.Came.TheVariants.{Zero, One, Two, Three, More}
use Rattle.control.specs.declared.phase.Source.{Source}
use Rattle.control.specs.declared.phase.Source.TheVariants.{FromArray, FromSecurity, FromConfiguration, FromId, FromNothing}
use Rattle.control.specs.declared.phase.Shown.{Shown}
use Rattle.control.specs.declared.phase.Shown.TheVariants.{ShowsSecurity, ShowsConfiguration, ShowsNothing}
use Rattle.control.specs.contracts.Control as controls
use Rattle.control.specs.contracts.phase.Phase as phases
use Rattle.control.specs.contracts.phase.Word as words
use Rattle.control.specs.contracts.phase.Data as datas
use Rattle.control.specs.contracts.phase.Came as cames
use Rattle.control.specs.contracts.phase.Source as sources
use Rattle.control.specs.contracts.phase.Shown as showns
use Rattle.chip.specs.declared.Chip.{Chip}
use Rattle.chip.specs.declared.event.Event.{Event}
use Rattle.chip.specs.Chip.{step, values_after}
use Rattle.chip.proofs.Typed.{ChipTyped}
use Rattle.wellformed.specs.Wellformed.{source_fits, phase_fits, control_fits, well_formed}
use Rattle.wellformed.proofs.Laws.{fits_most}
use Rattle.promises.specs.ChipBytes.{bytes_came, bytes_taken, bytes_awaiting, bytes_in, ChipBytes, EventByte}
use Rattle.promises.proofs.Keeping.Bytes.{chip_keeps_bytes}
use Rattle.promises.proofs.Keeping.Fits.{Fits, apart}
use Rattle.promises.proofs.Keeping.Loads.{values_keep}
use Rattle.promises.proofs.Keeping.Wellformed.{kept}

-- ---- a value of its type holds bytes: what a field of type `u8` denotes is below 256
came_bytes : (came : Came) (vs : List Val) → Is cames.the_row came vs → AllBytes (bytes_came came)
came_bytes Zero vs is = tt
came_bytes (One first) vs is = let bytes = is.1.1.1.1 in (bytes.0.1, tt)
came_bytes (Two first second) vs is = let bytes = is.1.1.1.1 in (bytes.0.1, (bytes.1.0.1, tt))
came_bytes (Three first second third) vs is = let bytes = is.1.1.1.1 in (bytes.0.1, (bytes.1.0.1, (bytes.1.1.0.1, tt)))
came_bytes More vs is = tt

data_bytes : (kind : Data) (vs : List Val) → Is datas.the_row kind vs → AllBytes (bytes_taken kind)
data_bytes ToArray vs is = tt
data_bytes ToSecurity vs is = tt
data_bytes (ToConfiguration came) vs is = came_bytes came _ is.1.1.1.1.0
data_bytes (ToLock some) vs is = tt
data_bytes ToNowhere vs is = tt

word_bytes : (word : Word) (vs : List Val) → Is words.the_row word vs → AllBytes (bytes_awaiting word)
word_bytes (ArrayFirst a16) vs is = tt
word_bytes (ArraySecond a16 first) vs is = (is.1.1.1.1.1.0.1, tt)
word_bytes RegisterFirst vs is = tt
word_bytes (RegisterSecond first) vs is = (is.1.1.1.1.0.1, tt)

phase_bytes : (phase : Phase) (vs : List Val) → Is phases.the_row phase vs → AllBytes (bytes_in phase)
phase_bytes Standby vs is = tt
phase_bytes Busy vs is = tt
phase_bytes AwaitsAddress vs is = tt
phase_bytes AwaitsChoice vs is = tt
phase_bytes (AwaitsWord word) vs is = word_bytes word _ is.1.1.1.1.0
phase_bytes (TakesData kind) vs is = data_bytes kind _ is.1.1.1.1.0
phase_bytes (SendsByte source) vs is = tt

pub chip_bytes : (c : Chip) → ChipTyped c → ChipBytes c
chip_bytes c typed =
    let control = typed.is.1.1.0.1.1 in
    (control.1.1.1.0.1, (control.1.1.1.1.0.1, phase_bytes c.control.phase _ control.1.1.1.1.1.1.1.1.1.1.0))

-- ---- and the other way: a well-formed chip that holds bytes
came_typed : (came : Came) → AllBytes (bytes_came came) → (u : Val) × Is cames.the_row came (u ∷ [])
came_typed Zero bytes = (_, (_, (refl, (tt, (refl, tt)))))
came_typed (One first) bytes = (_, (_, (refl, ((_, tt), (refl, ((refl, bytes.0), tt))))))
came_typed (Two first second) bytes = (_, (_, (refl, ((_, (_, tt)), (refl, ((refl, bytes.0), ((refl, bytes.1.0), tt)))))))
came_typed (Three first second third) bytes =
    (_, (_, (refl, ((_, (_, (_, tt))), (refl, ((refl, bytes.0), ((refl, bytes.1.0), ((refl, bytes.1.1.0), tt))))))))
came_typed More bytes = (_, (_, (refl, (tt, (refl, tt)))))

data_typed : (kind : Data) → AllBytes (bytes_taken kind) → (u : Val) × Is datas.the_row kind (u ∷ [])
data_typed ToArray bytes = (_, (_, (refl, (tt, (refl, tt)))))
data_typed ToSecurity bytes = (_, (_, (refl, (tt, (refl, tt)))))
data_typed (ToConfiguration came) bytes = (_, (_, (refl, ((_, tt), (refl, ((came_typed came bytes).1, tt))))))
data_typed (ToLock some) bytes = (_, (_, (refl, ((_, tt), (refl, (refl, tt))))))
data_typed ToNowhere bytes = (_, (_, (refl, (tt, (refl, tt)))))

word_typed : (word : Word) → AllBytes (bytes_awaiting word) → (u : Val) × Is words.the_row word (u ∷ [])
word_typed (ArrayFirst a16) bytes = (_, (_, (refl, ((_, tt), (refl, (refl, tt))))))
word_typed (ArraySecond a16 first) bytes = (_, (_, (refl, ((_, (_, tt)), (refl, (refl, ((refl, bytes.0), tt)))))))
word_typed RegisterFirst bytes = (_, (_, (refl, (tt, (refl, tt)))))
word_typed (RegisterSecond first) bytes = (_, (_, (refl, ((_, tt), (refl, ((refl, bytes.0), tt))))))

source_typed : (g : Geometry) (source : Source) → source_fits g source ≡ true → (u : Val) × Is sources.the_row source (u ∷ [])
source_typed g FromArray fits = (_, (_, (refl, (tt, (refl, tt)))))
source_typed g FromSecurity fits = (_, (_, (refl, (tt, (refl, tt)))))
source_typed g (FromConfiguration second) fits = (_, (_, (refl, ((_, tt), (refl, (refl, tt))))))
source_typed g (FromId place) fits = (_, (_, (refl, ((_, tt), (refl, ((refl, omega (arith, ltb-true place 3 (and_right g.identifies _ fits))), tt))))))
source_typed g FromNothing fits = (_, (_, (refl, (tt, (refl, tt)))))

shown_typed : (shown : Shown) → (u : Val) × Is showns.the_row shown (u ∷ [])
shown_typed ShowsSecurity = (_, (_, (refl, (tt, (refl, tt)))))
shown_typed ShowsConfiguration = (_, (_, (refl, (tt, (refl, tt)))))
shown_typed ShowsNothing = (_, (_, (refl, (tt, (refl, tt)))))

phase_typed : (g : Geometry) (phase : Phase) → phase_fits g phase ≡ true → AllBytes (bytes_in phase) → (u : Val) × Is phases.the_row phase (u ∷ [])
phase_typed g Standby fits bytes = (_, (_, (refl, (tt, (refl, tt)))))
phase_typed g Busy fits bytes = (_, (_, (refl, (tt, (refl, tt)))))
phase_typed g AwaitsAddress fits bytes = (_, (_, (refl, (tt, (refl, tt)))))
phase_typed g AwaitsChoice fits bytes = (_, (_, (refl, (tt, (refl, tt)))))
phase_typed g (AwaitsWord word) fits bytes = (_, (_, (refl, ((_, tt), (refl, ((word_typed word bytes).1, tt))))))
phase_typed g (TakesData kind) fits bytes = (_, (_, (refl, ((_, tt), (refl, ((data_typed kind bytes).1, tt))))))
phase_typed g (SendsByte source) fits bytes = (_, (_, (refl, ((_, tt), (refl, ((source_typed g source fits).1, tt))))))

control_typed : (c : Control) → Fits c → AllBytes (c.config0 ∷ c.config1 ∷ bytes_in c.phase) → (u : Val) × Is controls.the_row c (u ∷ [])
control_typed c f bytes =
    let sound = sound_of c.part in
    let strap : c.strap < (geometry_of c.part).straps = ltb-true _ _ (and_right (is_part c.part) _ f.set_up_lem) in
    let array : c.arraycounter ≤ (geometry_of c.part).array = fits_most _ _ f.array in
    let security : c.securitycounter ≤ (geometry_of c.part).security = fits_most _ _ f.security in (
      _,
      (
        (_, (_, (_, (_, (_, (_, (_, (_, (_, (_, (_, tt))))))))))),
        (
          refl,
          (
            (refl, omega (arith, part_most c.part (and_left _ _ f.set_up_lem))),
            (
              (refl, omega (arith, sound.straps_most)),
              (
                refl,
                (
                  (refl, bytes.0),
                  (
                    (refl, bytes.1.0),
                    (
                      refl,
                      (
                        (refl, omega (arith, sound.array_most)),
                        (
                          (refl, omega (arith, sound.security_most)),
                          ((shown_typed c.shown).1, (refl, ((phase_typed (geometry_of c.part) c.phase f.place bytes.1.1).1, tt))),
                        ),
                      ),
                    ),
                  ),
                ),
              ),
            ),
          ),
        ),
      ),
    )

-- a span inside a page of at most 256 bytes fits its two fields
pub span_typed : (span : Span) (page : ℕ) → page ≤ 256 → inside_page page span ≡ true → (u : Val) × Is spans.the_row span (u ∷ [])
span_typed span page most inside =
    let first = first_below page span inside in
    let count = count_most page span inside in
    (_, ((_, (_, tt)), (refl, ((refl, omega (arith, first)), ((refl, omega (arith, count)), tt)))))

pub typed_of : (c : Chip) → well_formed c ≡ true → ChipBytes c → ChipTyped c
unfolding well_formed
typed_of c formed bytes =
    let fits : Fits c.control = apart c.control (and_left _ _ formed) in
    let inside = and_left (inside_page (geometry_of c.control.part).page c.span) _ (and_right (control_fits c.control) _ formed) in
    record {
      value = _;
      is = ((_, (_, tt)), (refl, ((control_typed c.control fits bytes).1, ((span_typed c.span _ (sound_of c.control.part).page_most inside).1, tt))));
    }

-- so every event keeps it
pub chip_typed_kept : (c : Chip) (values array security : List ℕ) (event : Event) → EventByte event → well_formed c ≡ true → ChipTyped c → ChipTyped (step c values array security event).0.chip
chip_typed_kept c values array security event brought formed typed =
    typed_of _ (kept c values array security event formed) (chip_keeps_bytes c values array security (chip_bytes c typed) event brought)

-- and the length of the values
pub values_long_kept : (c : Chip) (values : List ℕ) (event : Event) → length values ≡ 256 → length (values_after c event values) ≡ 256
values_long_kept c values event long =
    values_keep c values (λ (held : List ℕ). length held ≡ 256) long (length-replicate {A = ℕ} 256 0) event (λ first byte is held place so_far. length-set held place byte ∙ so_far)
