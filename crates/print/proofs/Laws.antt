-- What is printed reads back: a digit is the digit of its value, so two digits are their byte, four their word.
use Prim.Native.Nat.{ℕ, ◌+◌, ◌/◌, ◌%◌, ◌<◌, ◌≤◌}
use native.Mathlib.Omega.{arith}
use mathlib.Core.Bool.{Bool, true}
use mathlib.Core.List.{List, [], ◌∷◌, ◌++◌}
use mathlib.Core.Path.{◌≡◌, refl, sym, ap}
use lib.Dec.{eqb}
use lib.ListN.{length, take, length-append}
use lib.Seq.{get_or-append_seam, get_or-append-add}
use borrow.Author.Tests.{eqb-true, le-leb, lt-leb}
use Rattle.base.specs.Word.{high_of, low_of}
use Rattle.base.proofs.Fold.{all_at}
use Rattle.base.specs.Fold.{up_to}
use Rattle.transcript.specs.Digit.{digit_of, is_digit}
use Rattle.transcript.specs.Frame.{lf, byte_of, frame_at}
use Rattle.print.specs.Print.{digit_text, word_text, printed}
use Rattle.transcript.specs.declared.frame.Frame.TheVariants.{Event}
use Rattle.transcript.proofs.digit.Laws.{is_digit_lem}

reads_back : ℕ → Bool
reads_back value = eqb (digit_of (digit_text value)) value

-- a value below 16 is printed as its digit: one test over all sixteen
pub digit_back : (value : ℕ) → value < 16 → digit_of (digit_text value) ≡ value
unfolding reads_back digit_of up_to
digit_back value below = eqb-true _ _ (all_at reads_back 16 value refl below)

pub digit_is : (value : ℕ) → value < 16 → is_digit (digit_text value) ≡ true
digit_is value below = is_digit_lem (digit_text value) (sym (digit_back value below)) below

pub byte_back : (byte : ℕ) → byte < 256 → byte_of (digit_text (byte / 16)) (digit_text (byte % 16)) ≡ byte
byte_back byte below = omega (arith, digit_back (byte / 16) (omega arith), digit_back (byte % 16) (omega arith))

-- a text in which an event is printed as a line
abbrev pub within : List ℕ → ℕ → List ℕ → List ℕ
within before event after = before ++ (word_text event ++ (lf ∷ after))

-- wherever it stands, it reads back as that event
pub frame_back : (event : ℕ) → event < 65536 → (before after : List ℕ) → frame_at (within before event after) (length before) ≡ Event event (length before + 5)
frame_back event fits before after =
    let long : length (within before event after) ≡ length before + (5 + length after) = omega (arith, length-append before (word_text event ++ (lf ∷ after))) in
    let left : length before < length (within before event after) = omega arith in
    let room : length before + 5 ≤ length (within before event after) = omega arith in
    let high : high_of event < 256 = omega arith in
    let low : low_of event < 256 = omega arith in
    simp (
      lt-leb _ _ left,
      le-leb _ _ room,
      get_or-append_seam,
      get_or-append-add,
      digit_is (high_of event / 16) (omega arith),
      digit_is (high_of event % 16) (omega arith),
      digit_is (low_of event / 16) (omega arith),
      digit_is (low_of event % 16) (omega arith),
    )
    (ap (λ (read : ℕ). Event read (length before + 5)) (omega (arith, byte_back (high_of event) high, byte_back (low_of event) low)))

-- the first four digits that are printed, and LF, read back as the event
pub printed_back : (event answer : ℕ) → event < 65536 → frame_at (take 4 (printed event answer) ++ (lf ∷ [])) 0 ≡ Event event 5
printed_back event answer fits = frame_back event fits [] []
