-- A fault is found exactly where no line stands. A line of four digits and LF passes each test, and what passes them all is one.
use Prim.Native.Nat.{ℕ}
use native.Mathlib.Omega.{arith}
use mathlib.Core.Bool.{Bool, true, false, cond, false≢true}
use mathlib.Core.List.{List, [], ◌∷◌}
use mathlib.Core.Logic.{◌↔◌}
use mathlib.Core.Path.{◌≡◌, refl}
use lib.Dec.{eqb}
use lib.ListN.{length}
use borrow.Author.Tests.{le-leb, lt-leb}
use Rattle.transcript.specs.Digit.{is_digit}
use Rattle.transcript.specs.Frame.{lf, is_frame_at}
use Rattle.std.specs.Prelude.{Some, None}
use Rattle.fault.specs.declared.Fault.{Fault}
use Rattle.fault.specs.declared.Fault.TheVariants.{ReturnByte, TooLong, Unended}
use Rattle.fault.specs.Fault.{cr, digits_in, fault_among, fault_after, fault_of}

-- a fault is some
found : (f : Fault) → Some f ≡ None → ⊥
found f same = cc

-- after the digits only LF is none
after : (b : ℕ) → (fault_after b ≡ None) ↔ (eqb b lf ≡ true)
after b = go (eqb b lf)
  where
    go : (ends : Bool) → (cond ends None (Some (cond (eqb b cr) ReturnByte TooLong)) ≡ None) ↔ (ends ≡ true)
    go true = (λ _. refl, λ _. refl)
    go false = (λ same. absurd (found _ same), λ no. absurd (false≢true no))

-- neither side holds
neither : {A B : Type 0} → (A → ⊥) → (B → ⊥) → A ↔ B
neither a b = (λ x. absurd (a x), λ y. absurd (b y))

module _ (a b c d e : ℕ) (rest : List ℕ) where
  long : (p q r s : Bool) → is_digit a ≡ p → is_digit b ≡ q → is_digit c ≡ r → is_digit d ≡ s
      → (fault_of (a ∷ b ∷ c ∷ d ∷ e ∷ rest) ≡ None) ↔ (is_frame_at (a ∷ b ∷ c ∷ d ∷ e ∷ rest) 0 ≡ true)
  unfolding digits_in
  long true true true true is_a is_b is_c is_d =
      rw (is_a, is_b, is_c, is_d, lt-leb (length (a ∷ b ∷ c ∷ d ∷ e ∷ rest)) 4 (omega arith), le-leb 5 (length (a ∷ b ∷ c ∷ d ∷ e ∷ rest)) (omega arith)) (after e)
  long true true true false is_a is_b is_c is_d =
      rw (is_a, is_b, is_c, is_d, lt-leb (length (a ∷ b ∷ c ∷ d ∷ e ∷ rest)) 3 (omega arith), le-leb 5 (length (a ∷ b ∷ c ∷ d ∷ e ∷ rest)) (omega arith)) (neither (found (fault_among 3 d)) false≢true)
  long true true false s is_a is_b is_c is_d =
      rw (is_a, is_b, is_c, lt-leb (length (a ∷ b ∷ c ∷ d ∷ e ∷ rest)) 2 (omega arith), le-leb 5 (length (a ∷ b ∷ c ∷ d ∷ e ∷ rest)) (omega arith)) (neither (found (fault_among 2 c)) false≢true)
  long true false r s is_a is_b is_c is_d =
      rw (is_a, is_b, lt-leb (length (a ∷ b ∷ c ∷ d ∷ e ∷ rest)) 1 (omega arith), le-leb 5 (length (a ∷ b ∷ c ∷ d ∷ e ∷ rest)) (omega arith)) (neither (found (fault_among 1 b)) false≢true)
  long false q r s is_a is_b is_c is_d =
      rw (is_a, lt-leb (length (a ∷ b ∷ c ∷ d ∷ e ∷ rest)) 0 (omega arith), le-leb 5 (length (a ∷ b ∷ c ∷ d ∷ e ∷ rest)) (omega arith)) (neither (found (fault_among 0 a)) false≢true)

of_one : (a : ℕ) (p : Bool) → is_digit a ≡ p → fault_of (a ∷ []) ≡ None → ⊥
unfolding digits_in
of_one a true is_a = rw (is_a) (found Unended)
of_one a false is_a = rw (is_a) (found (fault_among 0 a))

of_two : (a b : ℕ) (p q : Bool) → is_digit a ≡ p → is_digit b ≡ q → fault_of (a ∷ b ∷ []) ≡ None → ⊥
unfolding digits_in
of_two a b true true is_a is_b = rw (is_a, is_b) (found Unended)
of_two a b true false is_a is_b = rw (is_a, is_b) (found (fault_among 1 b))
of_two a b false q is_a is_b = rw (is_a) (found (fault_among 0 a))

of_three : (a b c : ℕ) (p q r : Bool) → is_digit a ≡ p → is_digit b ≡ q → is_digit c ≡ r → fault_of (a ∷ b ∷ c ∷ []) ≡ None → ⊥
unfolding digits_in
of_three a b c true true true is_a is_b is_c = rw (is_a, is_b, is_c) (found Unended)
of_three a b c true true false is_a is_b is_c = rw (is_a, is_b, is_c) (found (fault_among 2 c))
of_three a b c true false r is_a is_b is_c = rw (is_a, is_b) (found (fault_among 1 b))
of_three a b c false q r is_a is_b is_c = rw (is_a) (found (fault_among 0 a))

of_four : (a b c d : ℕ) (p q r s : Bool) → is_digit a ≡ p → is_digit b ≡ q → is_digit c ≡ r → is_digit d ≡ s → fault_of (a ∷ b ∷ c ∷ d ∷ []) ≡ None → ⊥
unfolding digits_in
of_four a b c d true true true true is_a is_b is_c is_d = rw (is_a, is_b, is_c, is_d) (found Unended)
of_four a b c d true true true false is_a is_b is_c is_d = rw (is_a, is_b, is_c, is_d) (found (fault_among 3 d))
of_four a b c d true true false s is_a is_b is_c is_d = rw (is_a, is_b, is_c) (found (fault_among 2 c))
of_four a b c d true false r s is_a is_b is_c is_d = rw (is_a, is_b) (found (fault_among 1 b))
of_four a b c d false q r s is_a is_b is_c is_d = rw (is_a) (found (fault_among 0 a))

-- a fault is found exactly where no line stands
pub no_fault_exactly_when_a_line : (line : List ℕ) → (fault_of line ≡ None) ↔ (is_frame_at line 0 ≡ true)
unfolding digits_in
no_fault_exactly_when_a_line [] = neither (found Unended) false≢true
no_fault_exactly_when_a_line (a ∷ []) = neither (of_one a (is_digit a) refl) false≢true
no_fault_exactly_when_a_line (a ∷ b ∷ []) = neither (of_two a b (is_digit a) (is_digit b) refl refl) false≢true
no_fault_exactly_when_a_line (a ∷ b ∷ c ∷ []) = neither (of_three a b c (is_digit a) (is_digit b) (is_digit c) refl refl refl) false≢true
no_fault_exactly_when_a_line (a ∷ b ∷ c ∷ d ∷ []) = neither (of_four a b c d (is_digit a) (is_digit b) (is_digit c) (is_digit d) refl refl refl refl) false≢true
no_fault_exactly_when_a_line (a ∷ b ∷ c ∷ d ∷ e ∷ rest) = long a b c d e rest (is_digit a) (is_digit b) (is_digit c) (is_digit d) refl refl refl refl
