-- A turn, case by case: what holds of each way in which a run may go on holds of the whole run.
use Prim.Native.Nat.{ℕ, suc}
use native.Mathlib.Omega.{arith}
use mathlib.Core.Bool.{Bool, true, false, cond, ◌&&◌, ◌||◌, false≢true}
use mathlib.Core.List.{List, [], ◌∷◌}
use mathlib.Core.Path.{◌≡◌, refl}
use lib.Dec.{eqb}
use lib.ListN.{length}
use borrow.Author.Tests.{eqb-true}
use Rattle.base.proofs.logic.Laws.{and_left, and_right}
use Rattle.board.specs.declared.Place.{Place}
use Rattle.decode.specs.Decode.{value_of}
use Rattle.turns.specs.Turn.{is_start, is_stop, is_sent, is_f8, is_read, is_naming, is_address_of, is_first_byte, Next, Anything, AddressByte, ChoiceByte, is_rest_of_turn, is_turn_at}

-- nothing is left
pub only_one : (P : List ℕ → Type 0) (more : List ℕ) → eqb (length more) 0 ≡ true → P [] → P more
only_one P [] none here = here
only_one P (word ∷ more) none here = let long : suc (length more) ≡ 0 = eqb-true _ _ none in absurd (omega (arith, long))

module _ (place : Place) (k : ℕ) where
  pub record Cases (P : Next → List ℕ → Type 0) : Type 0 where
    pub stop : (word : ℕ) → is_stop word ≡ true → P Anything (word ∷ [])
    pub start : (word : ℕ) (more : List ℕ) → is_start word ≡ true → P AddressByte more → P Anything (word ∷ more)
    pub sent : (word : ℕ) (more : List ℕ) → is_sent word ≡ true → P Anything more → P Anything (word ∷ more)
    pub read : (word : ℕ) (more : List ℕ) → is_read word ≡ true → P Anything more → P Anything (word ∷ more)
    pub named : (word : ℕ) (more : List ℕ) → is_naming k word ≡ true → P Anything more → P Anything (word ∷ more)
    pub first : (word : ℕ) (more : List ℕ) → is_f8 word ≡ false → is_sent word ≡ true → is_first_byte place (value_of word) ≡ true → P Anything more → P AddressByte (word ∷ more)
    pub f8 : (word : ℕ) (more : List ℕ) → is_f8 word ≡ true → P ChoiceByte more → P AddressByte (word ∷ more)
    pub choice : (word : ℕ) (more : List ℕ) → is_sent word ≡ true → is_address_of 0b1010 place (value_of word) ≡ true → P Anything more → P ChoiceByte (word ∷ more)

  module _ (P : Next → List ℕ → Type 0) (cases : Cases P) where
    between : (word : ℕ) (more : List ℕ) → (is_sent word || (is_read word || is_naming k word)) ≡ true → P Anything more → P Anything (word ∷ more)
    between word more = go (is_sent word) (is_read word) refl refl
      where
        go : (sent read : Bool) → is_sent word ≡ sent → is_read word ≡ read → (sent || (read || is_naming k word)) ≡ true → P Anything more → P Anything (word ∷ more)
        go true read is_sent_holds is_read some = cases.sent word more is_sent_holds
        go false true is_sent_holds is_read some = cases.read word more is_read
        go false false is_sent_holds is_read some = cases.named word more some

    pub by_cases : (next : Next) (events : List ℕ) → is_rest_of_turn place k next events ≡ true → P next events
    unfolding is_rest_of_turn
    by_cases next [] goes = absurd (false≢true goes)
    by_cases Anything (word ∷ more) goes = go (is_stop word) (is_start word) refl refl goes (λ next. by_cases next more)
      where
        go : (stops starts : Bool) → is_stop word ≡ stops → is_start word ≡ starts
            → cond stops (eqb (length more) 0) (cond starts (is_rest_of_turn place k AddressByte more) ((is_sent word || (is_read word || is_naming k word)) && is_rest_of_turn place k Anything more)) ≡ true
            → ((next : Next) → is_rest_of_turn place k next more ≡ true → P next more)
            → P Anything (word ∷ more)
        go true starts is_stop is_start_holds held later = only_one (λ (rest : List ℕ). P Anything (word ∷ rest)) more held (cases.stop word is_stop)
        go false true is_stop is_start_holds held later = cases.start word more is_start_holds (later AddressByte held)
        go false false is_stop is_start_holds held later =
            between word more (and_left _ _ held) (later Anything (and_right (is_sent word || (is_read word || is_naming k word)) _ held))
    by_cases AddressByte (word ∷ more) goes = go (is_f8 word) refl goes (λ next. by_cases next more)
      where
        go : (is : Bool) → is_f8 word ≡ is
            → cond is (is_rest_of_turn place k ChoiceByte more) (is_sent word && (is_first_byte place (value_of word) && is_rest_of_turn place k Anything more)) ≡ true
            → ((next : Next) → is_rest_of_turn place k next more ≡ true → P next more)
            → P AddressByte (word ∷ more)
        go true is held later = cases.f8 word more is (later ChoiceByte held)
        go false is held later =
            let rest = and_right (is_sent word) _ held in
            cases.first word more is (and_left _ _ held) (and_left _ _ rest) (later Anything (and_right (is_first_byte place (value_of word)) _ rest))
    by_cases ChoiceByte (word ∷ more) goes =
        let rest = and_right (is_sent word) _ goes in
        cases.choice word more (and_left _ _ goes) (and_left _ _ rest) (by_cases Anything more (and_right (is_address_of 0b1010 place (value_of word)) _ rest))

    -- a turn is a run, or one event that names k
    pub turn_by_cases : (Q : List ℕ → Type 0) → ((word : ℕ) (more : List ℕ) → is_start word ≡ true → P AddressByte more → Q (word ∷ more)) → ((word : ℕ) → is_naming k word ≡ true → Q (word ∷ []))
        → (events : List ℕ) → is_turn_at place k events ≡ true
        → Q events
    unfolding is_turn_at
    turn_by_cases Q run named [] is = absurd (false≢true is)
    turn_by_cases Q run named (word ∷ more) is = go (is_start word) refl is
      where
        go : (starts : Bool) → is_start word ≡ starts → cond starts (is_rest_of_turn place k AddressByte more) (is_naming k word && eqb (length more) 0) ≡ true → Q (word ∷ more)
        go true starts held = run word more starts (by_cases AddressByte more held)
        go false starts held =
            only_one (λ (rest : List ℕ). Q (word ∷ rest)) more (and_right (is_naming k word) _ held) (named word (and_left _ _ held))
