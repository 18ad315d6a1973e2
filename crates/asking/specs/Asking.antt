-- A word that asks for a file: load:K:FILE or save:K:FILE. K is the chip's digit, one of the transcript's; FILE has at least one byte.
use Rattle.std.specs.Prelude.{ℕ, ◌<◌, Bool, true, false, cond, ◌&&◌, List, [], ◌∷◌, ◌++◌, ◌≡◌, eqb, ltb, length, get_or, Option, Some, None}
use Rattle.transcript.specs.Digit.{digit_of, is_digit}
use Rattle.asking.specs.declared.Asked.{Asked}
use Rattle.asking.specs.declared.Asked.TheVariants.{Load, Save}

abbrev pub colon : ℕ
colon = 58

-- "load:" and "save:"
abbrev pub loading : List ℕ
loading = 108 ∷ 111 ∷ 97 ∷ 100 ∷ colon ∷ []

abbrev pub saving : List ℕ
saving = 115 ∷ 97 ∷ 118 ∷ 101 ∷ colon ∷ []

-- a word begins with another
unfoldable pub opens : List ℕ → List ℕ → Bool
opens [] word = true
opens (b ∷ more) [] = false
opens (b ∷ more) (a ∷ word) = eqb a b && opens more word

-- the chip's digit stands at byte 5, a colon at 6, and the path from 7 on
abbrev pub names_file : List ℕ → Bool
names_file word = ltb 7 (length word) && (is_digit (get_or word 5 0) && eqb (get_or word 6 0) colon)

abbrev pub asked_of : List ℕ → ℕ → Option Asked
asked_of word chip = cond (opens loading word) (Some (Load chip)) (cond (opens saving word) (Some (Save chip)) None)

-- what a word asks for; one of another form asks for nothing
abbrev pub asked_by : List ℕ → Option Asked
asked_by word = cond (names_file word) (asked_of word (digit_of (get_or word 5 0))) None

-- a word of that form, with its chip and its path
pub record Asks (opening word : List ℕ) (chip : ℕ) (path : List ℕ) : Type 0 where
  pub digit : ℕ
  pub form : word ≡ opening ++ (digit ∷ colon ∷ path)
  pub known : is_digit digit ≡ true
  pub named : 0 < length path
  pub number : chip ≡ digit_of digit
