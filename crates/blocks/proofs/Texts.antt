-- A text begins with a line, or may become one, or is at fault; more text behind it changes neither a line nor a fault, since five
-- bytes decide, or a byte before them that is no digit. And what a text is from a place on depends on the rest of it alone.
use Prim.Native.Nat.{ℕ, zero, suc, ◌+◌, ◌-◌, ◌≤◌, ◌<◌}
use native.Mathlib.Decide.{dec_le}
use native.Mathlib.Nat.{zero-add, add-zero}
use native.Mathlib.Omega.{arith}
use mathlib.Core.Bool.{Bool, true, false, ◌&&◌, false≢true}
use mathlib.Core.List.{List, [], ◌∷◌, ◌++◌}
use mathlib.Core.Logic.{◌↔◌}
use mathlib.Core.Path.{◌≡◌, ◌∙◌, refl, sym, ap}
use lib.Dec.{leb, ltb}
use lib.ListN.{length, get_or, drop, length-append, length-drop, get_or-append}
use lib.Seq.{drop-append-le, get_or-drop}
use borrow.Author.Tests.{le-leb, leb-true, lt-ltb, ltb-true}
use Rattle.base.specs.Fold.{all_below}
use Rattle.transcript.specs.Digit.{digit_of, is_digit}
use Rattle.transcript.specs.Frame.{is_frame_at, event_at}
use Rattle.conversation.specs.Talk.{unfinished}
use Rattle.base.proofs.logic.Laws.{and_left, and_right, and_both}
use Rattle.base.proofs.Fold.{all_each, all_at}

-- two tests of which each gives the other
both_ways : (a b : Bool) → (a ≡ true → b ≡ true) → (b ≡ true → a ≡ true) → a ≡ b
both_ways true true there back = refl
both_ways true false there back = sym (there refl)
both_ways false true there back = back refl
both_ways false false there back = refl

pub none_of : (a : Bool) → (a ≡ true → ⊥) → a ≡ false
none_of true never = absurd (never refl)
none_of false never = refl

abbrev AllFour : Bool → Bool → Bool → Bool → Type 0
AllFour a b c d = (a ≡ true) × (b ≡ true) × (c ≡ true) × (d ≡ true)

first_four : (a b c d e : Bool) → (a && b && c && d && e) ≡ true → AllFour a b c d
first_four false b c d e all = absurd (false≢true all)
first_four true false c d e all = absurd (false≢true all)
first_four true true false d e all = absurd (false≢true all)
first_four true true true false e all = absurd (false≢true all)
first_four true true true true e all = (refl, refl, refl, refl)

-- ---- what the tests say
module _ (text : List ℕ) where
  abbrev digit_at : ℕ → Bool
  digit_at i = is_digit (get_or text i 0)

  pub frame_long : is_frame_at text 0 ≡ true → 5 ≤ length text
  frame_long frame = leb-true 5 (length text) (and_left (leb 5 (length text)) _ frame)

  unfinished_short : unfinished text 0 ≡ true → length text < 5
  unfinished_short part =
      let short : length text - 0 < 5 = ltb-true (length text - 0) 5 (and_left (ltb (length text - 0) 5) _ part) in
      omega arith

  unfinished_digits : unfinished text 0 ≡ true → (i : ℕ) → i < length text → digit_at i ≡ true
  unfinished_digits part i below =
      rw zero-add at (all_at (λ (k : ℕ). is_digit (get_or text (0 + k) 0)) (length text - 0) i (and_right (ltb (length text - 0) 5) _ part) (omega arith))

  pub short_digits : length text < 5 → ((i : ℕ) → i < length text → digit_at i ≡ true) → unfinished text 0 ≡ true
  short_digits short each =
      and_both (ltb (length text - 0) 5) _ (lt-ltb (length text - 0) 5 (omega arith))
      (all_each (λ (k : ℕ). is_digit (get_or text (0 + k) 0)) (length text - 0) (λ i below. rw zero-add (each i (omega arith))))

  -- a line is four digits first
  frame_digits : is_frame_at text 0 ≡ true → (i : ℕ) → i < 4 → digit_at i ≡ true
  frame_digits frame i below = digit i below (first_four (digit_at 0) (digit_at 1) (digit_at 2) (digit_at 3) _ (and_right (leb 5 (length text)) _ frame))
    where
      digit : (i : ℕ) → i < 4 → AllFour (digit_at 0) (digit_at 1) (digit_at 2) (digit_at 3) → digit_at i ≡ true
      digit zero below all = all.0
      digit (suc zero) below all = all.1
      digit (suc (suc zero)) below all = all.2
      digit (suc (suc (suc zero))) below all = all.3
      digit (suc (suc (suc (suc i)))) below all = absurd (omega arith)

-- ---- more text behind
module _ (text more : List ℕ) where
  byte_stays : (i : ℕ) → i < length text → get_or (text ++ more) i 0 ≡ get_or text i 0
  byte_stays i below = get_or-append text more 0 i below

  -- five bytes decide
  whole_stays : 5 ≤ length text → is_frame_at (text ++ more) 0 ≡ is_frame_at text 0
  whole_stays long =
      rw (
        le-leb 5 (length text) long,
        le-leb 5 (length (text ++ more)) (omega (arith, length-append text more)),
        byte_stays 0 (omega arith),
        byte_stays 1 (omega arith),
        byte_stays 2 (omega arith),
        byte_stays 3 (omega arith),
        byte_stays 4 (omega arith),
      ) refl

  pub frame_stays : is_frame_at text 0 ≡ true → is_frame_at (text ++ more) 0 ≡ true
  frame_stays frame = whole_stays (frame_long text frame) ∙ frame

  pub event_stays : is_frame_at text 0 ≡ true → event_at (text ++ more) 0 ≡ event_at text 0
  event_stays frame =
      let long = frame_long text frame in
      rw (byte_stays 0 (omega arith), byte_stays 1 (omega arith), byte_stays 2 (omega arith), byte_stays 3 (omega arith)) refl

  -- the start of what may become a line may become a line
  unfinished_front : unfinished (text ++ more) 0 ≡ true → unfinished text 0 ≡ true
  unfinished_front part =
      let short = unfinished_short (text ++ more) part in
      short_digits text (omega (arith, length-append text more))
      (λ i below. rw (byte_stays i below) at (unfinished_digits (text ++ more) part i (omega (arith, length-append text more))))

  -- and so may the start of a line
  frame_front : is_frame_at text 0 ≡ false → is_frame_at (text ++ more) 0 ≡ true → unfinished text 0 ≡ true
  frame_front none frame = go (dec_le 5 (length text))
    where
      go : Dec (5 ≤ length text) → unfinished text 0 ≡ true
      go (yes long) = absurd (false≢true (sym none ∙ sym (whole_stays long) ∙ frame))
      go (no short) = short_digits text (omega arith) (λ i below. rw (byte_stays i below) at (frame_digits (text ++ more) frame i (omega arith)))

  pub fault_stays : is_frame_at text 0 ≡ false → unfinished text 0 ≡ false → (is_frame_at (text ++ more) 0 ≡ false) × (unfinished (text ++ more) 0 ≡ false)
  fault_stays none never = (
    none_of (is_frame_at (text ++ more) 0) (λ frame. false≢true (sym never ∙ frame_front none frame)),
    none_of (unfinished (text ++ more) 0) (λ part. false≢true (sym never ∙ unfinished_front part)),
  )

-- ---- from a place on
module _ (text : List ℕ) (at : ℕ) where
  byte_from_lem : get_or (drop at text) 0 0 ≡ get_or text at 0
  byte_from_lem = get_or-drop at text 0 0 ∙ ap (λ (k : ℕ). get_or text k 0) (add-zero at)

  pub event_from : event_at (drop at text) 0 ≡ event_at text at
  event_from = rw (byte_from_lem, get_or-drop at text 1 0, get_or-drop at text 2 0, get_or-drop at text 3 0) refl

  fits_from : leb 5 (length (drop at text)) ≡ leb (at + 5) (length text)
  fits_from =
      let left = length-drop at text in
      both_ways (leb 5 (length (drop at text))) (leb (at + 5) (length text))
      (λ long. le-leb (at + 5) (length text) (omega (arith, leb-true 5 (length (drop at text)) long, left)))
      (λ long. le-leb 5 (length (drop at text)) (omega (arith, leb-true (at + 5) (length text) long, left)))

  pub frame_from : is_frame_at (drop at text) 0 ≡ is_frame_at text at
  frame_from = rw (fits_from, byte_from_lem, get_or-drop at text 1 0, get_or-drop at text 2 0, get_or-drop at text 3 0, get_or-drop at text 4 0) refl

  each_from : (i : ℕ) → get_or (drop at text) (0 + i) 0 ≡ get_or text (at + i) 0
  each_from i = rw zero-add (get_or-drop at text i 0)

  pub unfinished_from : unfinished (drop at text) 0 ≡ unfinished text at
  unfinished_from =
      let left : length (drop at text) - 0 ≡ length text - at = omega (arith, length-drop at text) in
      ap (λ (n : ℕ). ltb n 5 && all_below (λ (i : ℕ). is_digit (get_or (drop at text) (0 + i) 0)) n) left
      ∙ ap (λ (test : ℕ → Bool). ltb (length text - at) 5 && all_below test (length text - at)) (λ k i. is_digit (each_from i k))

-- ---- what may still become a line is what some text behind it makes one: zeros up to four digits, and LF
digits_become : (part : List ℕ) → unfinished part 0 ≡ true → (more : List ℕ) × (is_frame_at (part ++ more) 0 ≡ true)
unfolding digit_of
digits_become [] may = (48 ∷ 48 ∷ 48 ∷ 48 ∷ 10 ∷ [], refl)
digits_become (a ∷ []) may =
    let digit = unfinished_digits (a ∷ []) may in
    (48 ∷ 48 ∷ 48 ∷ 10 ∷ [], rw (digit 0 (omega arith)) refl)
digits_become (a ∷ b ∷ []) may =
    let digit = unfinished_digits (a ∷ b ∷ []) may in
    (48 ∷ 48 ∷ 10 ∷ [], rw (digit 0 (omega arith), digit 1 (omega arith)) refl)
digits_become (a ∷ b ∷ c ∷ []) may =
    let digit = unfinished_digits (a ∷ b ∷ c ∷ []) may in
    (48 ∷ 10 ∷ [], rw (digit 0 (omega arith), digit 1 (omega arith), digit 2 (omega arith)) refl)
digits_become (a ∷ b ∷ c ∷ d ∷ []) may =
    let digit = unfinished_digits (a ∷ b ∷ c ∷ d ∷ []) may in
    (10 ∷ [], rw (digit 0 (omega arith), digit 1 (omega arith), digit 2 (omega arith), digit 3 (omega arith)) refl)
digits_become (a ∷ b ∷ c ∷ d ∷ e ∷ part) may = absurd (omega (arith, unfinished_short (a ∷ b ∷ c ∷ d ∷ e ∷ part) may))

module _ (text : List ℕ) (at : ℕ) (inside : at ≤ length text) where
  frame_behind : (more : List ℕ) → is_frame_at (drop at text ++ more) 0 ≡ is_frame_at (text ++ more) at
  frame_behind more = rw (sym (drop-append-le at text more inside)) (frame_from (text ++ more) at)

  pub unfinished_exactly_when : is_frame_at text at ≡ false → (unfinished text at ≡ true) ↔ ((more : List ℕ) × (is_frame_at (text ++ more) at ≡ true))
  unfinished_exactly_when none = (
    λ may. let (more, frame) = digits_become (drop at text) (unfinished_from text at ∙ may) in (more, sym (frame_behind more) ∙ frame),
    λ (more, frame). sym (unfinished_from text at) ∙ frame_front (drop at text) more (frame_from text at ∙ none) (frame_behind more ∙ frame),
  )
