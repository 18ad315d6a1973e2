-- Which words ask for a file, for which chip and which: an opening, a digit, a colon, and the path. Every other word asks for nothing.
-- Each of the tests that a word passes shows a part of that form, and a word of that form passes them all.
use Prim.Native.Nat.{ℕ, ◌<◌, ◌≤◌}
use native.Mathlib.Omega.{arith}
use mathlib.Core.Bool.{Bool, true, false, cond, false≢true}
use mathlib.Core.List.{List, [], ◌∷◌, ◌++◌}
use mathlib.Core.Logic.{◌↔◌}
use mathlib.Core.Path.{◌≡◌, refl, ap}
use lib.Dec.{eqb, ltb}
use lib.ListN.{length, drop, get_or, length-drop}
use lib.Seq.{drop-cons, drop-append-add}
use Rattle.std.specs.Prelude.{Option, Some, None}
use borrow.Author.Tests.{eqb-true, ltb-true, lt-ltb}
use Rattle.base.proofs.logic.Laws.{and_left, and_right}
use Rattle.transcript.specs.Digit.{digit_of, is_digit}
use Rattle.asking.specs.declared.Asked.{Asked}
use Rattle.asking.specs.declared.Asked.TheVariants.{Load, Save}
use Rattle.asking.specs.Asking.{colon, loading, saving, opens, names_file, asked_by, Asks}

-- a word that begins with another is that and more
opened : (opening word : List ℕ) → opens opening word ≡ true → word ≡ opening ++ drop (length opening) word
unfolding opens
opened [] word is = refl
opened (b ∷ more) [] is = absurd (false≢true is)
opened (b ∷ more) (a ∷ word) is =
    rw (eqb-true a b (and_left (eqb a b) _ is)) (ap (λ (rest : List ℕ). b ∷ rest) (opened more word (and_right (eqb a b) _ is)))

-- the chip's digit in a word
abbrev chip_in : List ℕ → ℕ
chip_in word = digit_of (get_or word 5 0)

-- a word that passes the tests has the form
asks : (opening word : List ℕ) → length opening ≡ 5 → names_file word ≡ true → opens opening word ≡ true → Asks opening word (chip_in word) (drop 7 word)
asks opening word five names is =
    let long : 7 < length word = ltb-true 7 (length word) (and_left (ltb 7 (length word)) _ names) in
    let tail = and_right (ltb 7 (length word)) _ names in
    let at6 : get_or word 6 0 ≡ colon = eqb-true (get_or word 6 0) colon (and_right (is_digit (get_or word 5 0)) _ tail) in
    let rest : drop 5 word ≡ get_or word 5 0 ∷ colon ∷ drop 7 word = rw (drop-cons word 5 0 (omega arith), drop-cons word 6 0 (omega arith), at6) in
    record {
      digit = get_or word 5 0;
      form = rw (five, rest) at (opened opening word is);
      known = and_left (is_digit (get_or word 5 0)) _ tail;
      named = omega (arith, length-drop 7 word);
      number = refl;
    }

-- and one of the form passes them
module _ (word : List ℕ) (chip : ℕ) (path : List ℕ) where
  load_asked : Asks loading word chip path → asked_by word ≡ Some (Load chip)
  unfolding opens
  load_asked a =
      let long : 7 < length word = omega (arith, ap length a.form) in
      rw (lt-ltb 7 (length word) long, a.form, a.known, a.number)

  save_asked : Asks saving word chip path → asked_by word ≡ Some (Save chip)
  unfolding opens
  save_asked a =
      let long : 7 < length word = omega (arith, ap length a.form) in
      rw (lt-ltb 7 (length word) long, a.form, a.known, a.number)

-- what is asked for, by the three tests
abbrev asked_if : Bool → Bool → Bool → ℕ → Option Asked
asked_if names loads saves chip = cond names (cond loads (Some (Load chip)) (cond saves (Some (Save chip)) None)) None

module _ (word : List ℕ) where
  pub asked_load_exactly_when : (chip : ℕ) → (asked_by word ≡ Some (Load chip)) ↔ Asks loading word chip (drop 7 word)
  asked_load_exactly_when chip = (go (names_file word) (opens loading word) (opens saving word) refl refl, load_asked word chip (drop 7 word))
    where
      go : (names loads saves : Bool) → names_file word ≡ names → opens loading word ≡ loads → asked_if names loads saves (chip_in word) ≡ Some (Load chip) → Asks loading word chip (drop 7 word)
      go true true saves named is same = let this : chip_in word ≡ chip = cc in rw this at (asks loading word refl named is)
      go true false true named is same = let no : ◌≡◌ {A = ℕ} 0 1 = cc in absurd (omega arith)
      go true false false named is same = let no : ◌≡◌ {A = ℕ} 0 1 = cc in absurd (omega arith)
      go false loads saves named is same = let no : ◌≡◌ {A = ℕ} 0 1 = cc in absurd (omega arith)

  pub asked_save_exactly_when : (chip : ℕ) → (asked_by word ≡ Some (Save chip)) ↔ Asks saving word chip (drop 7 word)
  asked_save_exactly_when chip = (go (names_file word) (opens loading word) (opens saving word) refl refl, save_asked word chip (drop 7 word))
    where
      go : (names loads saves : Bool) → names_file word ≡ names → opens saving word ≡ saves → asked_if names loads saves (chip_in word) ≡ Some (Save chip) → Asks saving word chip (drop 7 word)
      go true true saves named is same = let no : ◌≡◌ {A = ℕ} 0 1 = cc in absurd (omega arith)
      go true false true named is same = let this : chip_in word ≡ chip = cc in rw this at (asks saving word refl named is)
      go true false false named is same = let no : ◌≡◌ {A = ℕ} 0 1 = cc in absurd (omega arith)
      go false loads saves named is same = let no : ◌≡◌ {A = ℕ} 0 1 = cc in absurd (omega arith)

  pub asked_nothing_exactly_when : (asked_by word ≡ None) ↔ ((chip : ℕ) (path : List ℕ) → (Asks loading word chip path → ⊥) × (Asks saving word chip path → ⊥))
  asked_nothing_exactly_when = (some, go (names_file word) (opens loading word) (opens saving word) refl refl refl)
    where
      some : asked_by word ≡ None → (chip : ℕ) (path : List ℕ) → (Asks loading word chip path → ⊥) × (Asks saving word chip path → ⊥)
      some none chip path = (
        λ a. let one = load_asked word chip path a in let no : ◌≡◌ {A = ℕ} 0 1 = cc in omega arith,
        λ a. let one = save_asked word chip path a in let no : ◌≡◌ {A = ℕ} 0 1 = cc in omega arith,
      )

      go : (names loads saves : Bool) → names_file word ≡ names → opens loading word ≡ loads → opens saving word ≡ saves
          → ((chip : ℕ) (path : List ℕ) → (Asks loading word chip path → ⊥) × (Asks saving word chip path → ⊥)) → asked_if names loads saves (chip_in word) ≡ None
      go true true saves named is is_save without = absurd ((without (chip_in word) (drop 7 word)).0 (asks loading word refl named is))
      go true false true named is is_save without = absurd ((without (chip_in word) (drop 7 word)).1 (asks saving word refl named is_save))
      go true false false named is is_save without = refl
      go false loads saves named is is_save without = refl

  -- so seven bytes stand before the path
  pub load_long : (chip : ℕ) → asked_by word ≡ Some (Load chip) → 7 ≤ length word
  load_long chip is = omega (arith, ((asked_load_exactly_when chip).0 is).named, length-drop 7 word)

  pub save_long : (chip : ℕ) → asked_by word ≡ Some (Save chip) → 7 ≤ length word
  save_long chip is = omega (arith, ((asked_save_exactly_when chip).0 is).named, length-drop 7 word)

-- the path of such a word is all of it from byte 7 on
pub path_from_7 : (opening word : List ℕ) (chip : ℕ) (path : List ℕ) → length opening ≡ 5 → Asks opening word chip path → drop 7 word ≡ path
path_from_7 opening word chip path five a = rw a.form (rw five at (drop-append-add opening (a.digit ∷ colon ∷ path) 2))
