-- What each event of a turn asks of the line, and renamed of the chip alone: it passes 6 and 7 on both, and is the same event.
use Prim.Native.Nat.{ℕ, ◌<◌, ◌≤◌}
use native.Mathlib.Omega.{arith}
use mathlib.Core.Bool.{Bool, true, false, ◌&&◌}
use mathlib.Core.Path.{◌≡◌, refl}
use lib.Dec.{eqb, ltb, leb}
use borrow.Author.Tests.{eqb-true, eqb-false, leb-true, lt-ltb}
use Rattle.base.specs.Word.{word_of}
use Rattle.base.proofs.logic.Laws.{and_left, and_right}
use Rattle.chip.specs.declared.event.Event.{Event}
use Rattle.chip.specs.declared.event.Event.TheVariants.{Start, Stop, Sent, Read, Wp, CycleOver}
use Rattle.decode.specs.declared.Addressed.{Addressed}
use Rattle.decode.specs.declared.Addressed.TheVariants.{ToAll, ToOne}
use Rattle.decode.specs.Decode.{kind_of, value_of, unknown_kind, value_allowed, addressed_of}
use Rattle.promises.proofs.Keeping.Beside.{names_a_chip}
use Rattle.turns.specs.Turn.{is_start, is_stop, is_sent, is_f8, is_read, is_naming}
use Rattle.turns.specs.Alone.{renamed}

-- an event word that passes 6 and 7, and what it asks for on a line that remembers a Start or none
abbrev pub Legal : Bool → ℕ → ℕ → Addressed → Type 0
Legal started count word addressed =
    (unknown_kind (kind_of word) ≡ false) × (value_allowed count (kind_of word) (value_of word) ≡ true) × (addressed_of started word ≡ addressed)

-- the same of a chip that is alone
abbrev pub only : Addressed → Addressed
only (ToAll event) = ToAll event
only (ToOne named event) = ToOne 0 event

abbrev pub Asked : Bool → ℕ → ℕ → Addressed → Type 0
Asked started count word addressed = Legal started count word addressed × Legal started 1 (renamed word) (only addressed)

-- an event to all keeps its name
to_all : (started : Bool) (count word : ℕ) (event : Event) → renamed word ≡ word → ((n : ℕ) → Legal started n word (ToAll event)) → Asked started count word (ToAll event)
to_all started count word event same legal = (legal count, rw same (legal 1))

pub start_asks : (started : Bool) (count word : ℕ) → is_start word ≡ true → Asked started count word (ToAll Start)
unfolding addressed_of
start_asks started count word is = let same : word ≡ word_of 1 0 = eqb-true _ _ is in rw same ((refl, refl, refl), (refl, refl, refl))

pub stop_asks : (started : Bool) (count word : ℕ) → is_stop word ≡ true → Asked started count word (ToAll Stop)
unfolding addressed_of
stop_asks started count word is = let same : word ≡ word_of 2 0 = eqb-true _ _ is in rw same ((refl, refl, refl), (refl, refl, refl))

pub sent_asks : (started : Bool) (count word : ℕ) → is_sent word ≡ true → Asked started count word (ToAll (Sent started (value_of word)))
unfolding addressed_of
sent_asks started count word is =
    let kind : kind_of word ≡ 3 = eqb-true _ _ is in
    to_all started count word _ (rw kind) (λ n. rw kind (refl, refl, refl))

pub f8_asks : (started : Bool) (count word : ℕ) → is_f8 word ≡ true → Asked started count word (ToAll (Sent started 0xF8))
unfolding addressed_of
f8_asks started count word is = let same : word ≡ word_of 3 0xF8 = eqb-true _ _ is in rw same ((refl, refl, refl), (refl, refl, refl))

pub read_asks : (started : Bool) (count word : ℕ) → is_read word ≡ true → Asked started count word (ToAll (Read (eqb (value_of word) 1)))
unfolding addressed_of
read_asks started count word is =
    let kind : kind_of word ≡ 4 = eqb-true _ _ (and_left _ _ is) in
    to_all started count word _ (rw kind) (λ n. rw kind (refl, and_right (eqb (kind_of word) 4) _ is, refl))

-- 05, 06 or 07: WP low, WP high, cycle over
pub naming_asks : (started : Bool) (count k word : ℕ) → k < count → is_naming k word ≡ true
    → (event : Event) × ((names_a_chip event ≡ true) × Asked started count word (ToOne k event))
unfolding addressed_of
naming_asks started count k word below is = go (eqb (kind_of word) 5) (eqb (kind_of word) 6) refl refl
  where
    kinds : (leb 5 (kind_of word) && leb (kind_of word) 7) ≡ true
    kinds = and_left _ _ is

    value : value_of word ≡ k
    value = eqb-true _ _ (and_right (leb 5 (kind_of word) && leb (kind_of word) 7) _ is)

    named : ltb k count ≡ true
    named = lt-ltb k count below

    go : (low high : Bool) → eqb (kind_of word) 5 ≡ low → eqb (kind_of word) 6 ≡ high
        → (event : Event) × ((names_a_chip event ≡ true) × Asked started count word (ToOne k event))
    go true high five six =
        let kind : kind_of word ≡ 5 = eqb-true _ _ five in
        (Wp false, (refl, rw (kind, value) ((refl, named, refl), (refl, refl, refl))))
    go false true five six =
        let kind : kind_of word ≡ 6 = eqb-true _ _ six in
        (Wp true, (refl, rw (kind, value) ((refl, named, refl), (refl, refl, refl))))
    go false false five six =
        let least : 5 ≤ kind_of word = leb-true _ _ (and_left _ _ kinds) in
        let most : kind_of word ≤ 7 = leb-true _ _ (and_right (leb 5 (kind_of word)) _ kinds) in
        let not_five : kind_of word ≡ 5 → ⊥ = eqb-false (kind_of word) 5 five in
        let not_six : kind_of word ≡ 6 → ⊥ = eqb-false (kind_of word) 6 six in
        let kind : kind_of word ≡ 7 = omega (arith, least, most, not_five, not_six) in
        (CycleOver, (refl, rw (kind, value) ((refl, named, refl), (refl, refl, refl))))
