-- A word that asks for a page to be shown: page:K:STORE:N. K and STORE are a digit each, N is one to four, all of them the transcript's.
use Rattle.std.specs.Prelude.{ℕ, ◌+◌, ◌*◌, ◌%◌, Bool, true, cond, ◌&&◌, List, [], ◌∷◌, eqb, ltb, leb, length, get_or, drop, Option, Some, None}
use Rattle.transcript.specs.Digit.{digit_of, is_digit}
use Rattle.asking.specs.Asking.{colon, opens}
use Rattle.asking.specs.declared.page.PageAsked.{PageAsked}

-- "page:"
abbrev pub showing : List ℕ
showing = 112 ∷ 97 ∷ 103 ∷ 101 ∷ colon ∷ []

unfoldable pub all_digits : List ℕ → Bool
all_digits [] = true
all_digits (b ∷ more) = is_digit b && all_digits more

-- digits behind a number; of four or fewer none is lost
unfoldable pub number_from : ℕ → List ℕ → ℕ
number_from n [] = n
number_from n (b ∷ more) = number_from (n % 4096 * 16 + digit_of b) more

-- one to four digits
abbrev pub is_number : List ℕ → Bool
is_number digits = ltb 0 (length digits) && (leb (length digits) 4 && all_digits digits)

-- the chip's digit stands at byte 5, the store's at 7, a colon after each, and the page's number from 9 on
abbrev pub names_page : List ℕ → Bool
names_page word =
    opens showing word
    && (is_digit (get_or word 5 0) && (eqb (get_or word 6 0) colon && (is_digit (get_or word 7 0) && (eqb (get_or word 8 0) colon && is_number (drop 9 word)))))

-- the number of these digits
abbrev pub number_of : List ℕ → Option ℕ
number_of digits = cond (is_number digits) (Some (number_from 0 digits)) None

-- chip, store and page, of a word that has a digit where each begins
abbrev pub page_in : List ℕ → PageAsked
page_in word = record { chip = digit_of (get_or word 5 0); store = digit_of (get_or word 7 0); page = number_from 0 (drop 9 word) }

abbrev pub page_asked : List ℕ → Option PageAsked
page_asked word = cond (names_page word) (Some (page_in word)) None

-- what the digits alone name
abbrev pub page_at : List ℕ → Option PageAsked
page_at word = cond (is_digit (get_or word 5 0) && (is_digit (get_or word 7 0) && is_number (drop 9 word))) (Some (page_in word)) None
