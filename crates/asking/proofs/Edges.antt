-- Words at the edges of their forms, computed.
use mathlib.Core.Bool.{true, false}
use mathlib.Core.List.{List, [], ◌∷◌, ◌++◌}
use mathlib.Core.Path.{◌≡◌, refl}
use Rattle.std.specs.Prelude.{Option, Some, None}
use Prim.Native.Nat.{ℕ}
use Rattle.transcript.specs.Digit.{digit_of}
use Rattle.asking.specs.declared.page.PageAsked.{PageAsked}
use Rattle.asking.specs.Asking.{colon, opens}
use Rattle.asking.specs.Page.{showing, all_digits, number_from, page_asked}
use Rattle.asking.specs.Status.{telling, status_asked}
use Rattle.asking.specs.Trace.{tracing, asks_trace}

-- page:1:0:, so chip 1 and store 0, and a page
abbrev page : ℕ → Option PageAsked
page n = Some (record { chip = 1; store = 0; page = n })

-- page:1:0: and digits
abbrev page_of : List ℕ → List ℕ
page_of digits = showing ++ (49 ∷ colon ∷ 48 ∷ colon ∷ digits)

-- 1FF is the last page of a 24CSM01's array, 0001 is page 1, FFFF the greatest number; no digits, five, and a lower-case one are no number
pub numbers_hold :
    (page_asked (page_of (49 ∷ 70 ∷ 70 ∷ [])) ≡ page 511)
    × (page_asked (page_of (48 ∷ 48 ∷ 48 ∷ 49 ∷ [])) ≡ page 1)
    × (page_asked (page_of (70 ∷ 70 ∷ 70 ∷ 70 ∷ [])) ≡ page 65535)
    × (page_asked (page_of []) ≡ None)
    × (page_asked (page_of (48 ∷ 48 ∷ 48 ∷ 48 ∷ 49 ∷ [])) ≡ None)
    × (page_asked (page_of (102 ∷ [])) ≡ None)
unfolding opens all_digits number_from digit_of
numbers_hold = (refl, refl, refl, refl, refl, refl)

-- trace with a byte more, or one less, is another word; and so is status: with two digits
pub lengths_hold :
    (asks_trace tracing ≡ true)
    × (asks_trace (tracing ++ (58 ∷ [])) ≡ false)
    × (asks_trace (116 ∷ 114 ∷ 97 ∷ 99 ∷ []) ≡ false)
    × (status_asked (telling ++ (51 ∷ [])) ≡ Some 3)
    × (status_asked (telling ++ (51 ∷ 51 ∷ [])) ≡ None)
unfolding opens digit_of
lengths_hold = (refl, refl, refl, refl, refl)
