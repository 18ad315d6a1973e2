-- What two tests together say of each. And a choice by a test: it is what stands on the side that the test takes, and keeps what
-- both sides keep.
use mathlib.Core.Bool.{Bool, true, false, cond, ◌&&◌, ◌||◌, false≢true}
use mathlib.Core.Path.{◌≡◌, ◌∙◌, refl, ap, sym}

pub and_left : (a b : Bool) → (a && b) ≡ true → a ≡ true
and_left true b h = refl
and_left false b h = h

pub and_right : (a b : Bool) → (a && b) ≡ true → b ≡ true
and_right true b h = h
and_right false b h = absurd (false≢true h)

pub and_both : (a b : Bool) → a ≡ true → b ≡ true → (a && b) ≡ true
and_both true b h k = k
and_both false b h k = h

pub or_left : (a b : Bool) → a ≡ true → (a || b) ≡ true
or_left true b h = refl
or_left false b h = absurd (false≢true h)

pub or_right : (a b : Bool) → b ≡ true → (a || b) ≡ true
or_right true b h = refl
or_right false b h = h

pub or_none : (a b : Bool) → (a || b) ≡ false → (a ≡ false) × (b ≡ false)
or_none true b h = absurd (false≢true (sym h))
or_none false b h = (refl, h)

-- what follows from each of two tests follows where one of them holds
pub or_either : {A : Type 0} (a b : Bool) → (a || b) ≡ true → (a ≡ true → A) → (b ≡ true → A) → A
or_either true b h first second = first refl
or_either false b h first second = second h

module _ {A : Type 0} {test : Bool} {x : A} (first second : A) where
  pub first_one : test ≡ true → x ≡ first → x ≡ cond test first second
  first_one holds is = is ∙ ap (λ (b : Bool). cond b first second) (sym holds)

  pub second_one : test ≡ false → x ≡ second → x ≡ cond test first second
  second_one fails is = is ∙ ap (λ (b : Bool). cond b first second) (sym fails)

-- the first side may use that the test holds
pub either_if : {A : Type 0} (P : A → Type 0) (test : Bool) (x y : A) → (test ≡ true → P x) → P y → P (cond test x y)
either_if P true x y px py = px refl
either_if P false x y px py = py

pub either : {A : Type 0} (P : A → Type 0) (test : Bool) (x y : A) → P x → P y → P (cond test x y)
either P test x y px py = either_if P test x y (λ holds. px) py
