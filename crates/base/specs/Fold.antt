-- What a loop that counts up computes.
use Rattle.std.specs.Prelude.{ℕ, zero, suc, Bool, true, false, ◌&&◌, ◌||◌}

-- f at 0, at 1, .. and at n - 1, one after the other, from a
unfoldable pub up_to : {A : Type 0} → (ℕ → A → A) → ℕ → A → A
up_to f zero a = a
up_to f (suc n) a = f n (up_to f n a)

-- a test that holds at each index below n
abbrev pub all_below : (ℕ → Bool) → ℕ → Bool
all_below test n = up_to (λ (i : ℕ) (ok : Bool). test i && ok) n true

-- a test that holds at some index below n
abbrev pub any_below : (ℕ → Bool) → ℕ → Bool
any_below test n = up_to (λ (i : ℕ) (found : Bool). test i || found) n false

-- a test of each two indices below n, the later one named first, and of some two
abbrev pub all_pairs : (ℕ → ℕ → Bool) → ℕ → Bool
all_pairs test n = all_below (λ (i : ℕ). all_below (test i) i) n

abbrev pub any_pair : (ℕ → ℕ → Bool) → ℕ → Bool
any_pair test n = any_below (λ (i : ℕ). any_below (test i) i) n
