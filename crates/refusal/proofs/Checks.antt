-- "Given exactly when": of checks with different numbers, a number is given where its condition holds and none of those before it does.
-- And checks one after the other: the later ones are asked only where the earlier ones pass.
use Prim.Native.Nat.{ℕ, ◌<◌}
use native.Mathlib.Omega.{arith}
use mathlib.Core.Bool.{Bool, true, false, cond, not, ◌&&◌, false≢true, true≢false}
use mathlib.Core.List.{List, [], ◌∷◌, ◌++◌}
use mathlib.Core.Logic.{◌↔◌}
use mathlib.Core.Path.{◌≡◌, ◌∙◌, refl, sym, ap}
use lib.Dec.{eqb}
use borrow.Author.Tests.{eqb-true, eq-eqb}
use Rattle.base.proofs.logic.Laws.{and_left, and_right}
use Rattle.refusal.specs.declared.Refusal.{Refusal}
use Rattle.refusal.specs.declared.Refusal.TheVariants.{WrongCount, UnknownPart, StrapOutside, SharedAddress, WrongLength, UnknownKind, WrongValue, Clash, NotWellFormed, ShortBuffer, ShortText, BadRecord, WrongSum, UnknownType, PastArray, NoEnd, NotBusy}
use Rattle.refusal.specs.Verdict.{Verdict}
use Rattle.std.specs.Prelude.{Ok, Err}
use Rattle.refusal.specs.Refusal.{number_of, status_of}
use Rattle.refusal.specs.Checks.{first_of}
use Rattle.std.specs.Result.{is_ok}

abbrev pub Checks : Type 0
Checks = List (Bool × Refusal)

-- the condition of a number holds, and none of those checked before it does
abbrev pub Given : Checks → ℕ → Type 0
Given [] n = ⊥
Given (check ∷ checks) n = cond (eqb n (number_of check.1)) (check.0 ≡ true) ((check.0 ≡ false) × Given checks n)

-- no condition holds
abbrev pub NoneHolds : Checks → Type 0
NoneHolds [] = Unit {0}
NoneHolds (check ∷ checks) = (check.0 ≡ false) × NoneHolds checks

-- no check has this number, and no two have the same
abbrev pub unlike : ℕ → Checks → Bool
unlike n [] = true
unlike n (check ∷ checks) = not (eqb n (number_of check.1)) && unlike n checks

abbrev pub distinct : Checks → Bool
distinct [] = true
distinct (check ∷ checks) = unlike (number_of check.1) checks && distinct checks

-- every refusal has a number, and status 00 is none of them
number_some : (refusal : Refusal) → 0 < number_of refusal
number_some WrongCount = omega arith
number_some UnknownPart = omega arith
number_some StrapOutside = omega arith
number_some SharedAddress = omega arith
number_some WrongLength = omega arith
number_some UnknownKind = omega arith
number_some WrongValue = omega arith
number_some Clash = omega arith
number_some NotWellFormed = omega arith
number_some ShortBuffer = omega arith
number_some ShortText = omega arith
number_some BadRecord = omega arith
number_some WrongSum = omega arith
number_some UnknownType = omega arith
number_some PastArray = omega arith
number_some NoEnd = omega arith
number_some NotBusy = omega arith

-- so a verdict whose status is 00 has passed
pub status_passed : (verdict : Verdict) → status_of verdict ≡ 0 → verdict ≡ Ok tt
status_passed (Ok tt) is = refl
status_passed (Err refusal) is = absurd (omega (arith, number_some refusal, is))

not_equal : (a b : ℕ) → not (eqb a b) ≡ true → a ≡ b → ⊥
not_equal a b differ same = false≢true (rw (eq-eqb a b same) at differ)

never_given : (n : ℕ) (checks : Checks) → 0 < n → unlike n checks ≡ true → status_of (first_of checks) ≡ n → ⊥
never_given n [] some other is = absurd (omega arith)
never_given n (check ∷ checks) some other is = go check.0 refl (never_given n checks some (and_right (not (eqb n (number_of check.1))) _ other)) is
  where
    go : (fails : Bool) → check.0 ≡ fails → (status_of (first_of checks) ≡ n → ⊥) → status_of (cond fails (Err check.1) (first_of checks)) ≡ n → ⊥
    go true now later given = not_equal n (number_of check.1) (and_left _ _ other) (sym given)
    go false now later given = later given

-- one check more in front
module _ (n : ℕ) (fails : Bool) (refusal : Refusal) (checks : Checks) where
  abbrev here : ℕ
  here = status_of (cond fails (Err refusal) (first_of checks))

  mine : n ≡ number_of refusal → (status_of (first_of checks) ≡ n → ⊥) → (here ≡ n) ↔ (fails ≡ true)
  mine is others = (to fails, from fails)
    where
      to : (b : Bool) → status_of (cond b (Err refusal) (first_of checks)) ≡ n → b ≡ true
      to true given = refl
      to false given = absurd (others given)

      from : (b : Bool) → b ≡ true → status_of (cond b (Err refusal) (first_of checks)) ≡ n
      from true holds = sym is
      from false holds = absurd (false≢true holds)

  other : (P : Type 0) → (n ≡ number_of refusal → ⊥) → (status_of (first_of checks) ≡ n) ↔ P → (here ≡ n) ↔ ((fails ≡ false) × P)
  other P differ later = (to fails, from fails)
    where
      to : (b : Bool) → status_of (cond b (Err refusal) (first_of checks)) ≡ n → (b ≡ false) × P
      to true given = absurd (differ (sym given))
      to false given = (refl, later.0 given)

      from : (b : Bool) → (b ≡ false) × P → status_of (cond b (Err refusal) (first_of checks)) ≡ n
      from true holds = absurd (true≢false holds.0)
      from false holds = later.1 holds.1

pub given_exactly_when : (checks : Checks) → distinct checks ≡ true → (n : ℕ) → 0 < n → (status_of (first_of checks) ≡ n) ↔ Given checks n
given_exactly_when [] apart n some = (λ is. absurd (omega arith), λ never. absurd never)
given_exactly_when (check ∷ checks) apart n some =
    go (eqb n (number_of check.1)) refl (given_exactly_when checks (and_right (unlike (number_of check.1) checks) _ apart) n some)
  where
    go : (test : Bool) → eqb n (number_of check.1) ≡ test → (status_of (first_of checks) ≡ n) ↔ Given checks n
        → (here n check.0 check.1 checks ≡ n) ↔ cond test (check.0 ≡ true) ((check.0 ≡ false) × Given checks n)
    go true is later =
        let same : n ≡ number_of check.1 = eqb-true _ _ is in
        mine n check.0 check.1 checks same
        (λ given. never_given (number_of check.1) checks (number_some check.1) (and_left _ _ apart) (given ∙ same))
    go false is later =
        other n check.0 check.1 checks (Given checks n) (λ same. true≢false (sym (eq-eqb _ _ same) ∙ is)) later

pub passed_exactly_when : (checks : Checks) → (status_of (first_of checks) ≡ 0) ↔ NoneHolds checks
passed_exactly_when [] = (λ is. tt, λ none. refl)
passed_exactly_when (check ∷ checks) =
    other 0 check.0 check.1 checks (NoneHolds checks) (λ same. absurd (omega (arith, number_some check.1))) (passed_exactly_when checks)

-- checks one after the other
pub refused_first : (checks later : Checks) (refusal : Refusal) → first_of checks ≡ Err refusal → first_of (checks ++ later) ≡ Err refusal
refused_first [] later refusal is = absurd (false≢true (ap is_ok (sym is)))
refused_first (check ∷ checks) later refusal is = go check.0 (refused_first checks later refusal) is
  where
    go : (fails : Bool) → (first_of checks ≡ Err refusal → first_of (checks ++ later) ≡ Err refusal)
        → cond fails (Err check.1) (first_of checks) ≡ Err refusal → cond fails (Err check.1) (first_of (checks ++ later)) ≡ Err refusal
    go true rest now = now
    go false rest now = rest now

pub passed_first : (checks later : Checks) → first_of checks ≡ Ok tt → first_of (checks ++ later) ≡ first_of later
passed_first [] later is = refl
passed_first (check ∷ checks) later is = go check.0 (passed_first checks later) is
  where
    go : (fails : Bool) → (first_of checks ≡ Ok tt → first_of (checks ++ later) ≡ first_of later)
        → cond fails (Err check.1) (first_of checks) ≡ Ok tt → cond fails (Err check.1) (first_of (checks ++ later)) ≡ first_of later
    go true rest now = absurd (false≢true (ap is_ok now))
    go false rest now = rest now

pub passed_before : (checks later : Checks) → first_of (checks ++ later) ≡ Ok tt → first_of checks ≡ Ok tt
passed_before checks later is = go (first_of checks) refl
  where
    go : (verdict : Verdict) → first_of checks ≡ verdict → verdict ≡ Ok tt
    go (Ok tt) now = refl
    go (Err refusal) now = absurd (false≢true (ap is_ok (sym (refused_first checks later refusal now) ∙ is)))
