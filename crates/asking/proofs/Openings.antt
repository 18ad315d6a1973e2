-- A word begins with another as std has it.
use Rattle.std.proofs.Common.{◌≡◌, refl, ℕ, List, [], ◌∷◌, eq-eqb, arith}
use borrow.Author.Tests.{eqb-true}
use lib.Dec.{eqb}
use Rattle.std.specs.List.{starts_with}
use Rattle.asking.specs.Asking.{opens}

eqb_sym : (a b : ℕ) → eqb a b ≡ eqb b a
eqb_sym a b = grind (arith, eqb-true, eq-eqb)

pub starts_opens : (opening word : List ℕ) → starts_with eqb word opening ≡ opens opening word
unfolding opens
starts_opens [] word = refl
starts_opens (b ∷ more) [] = refl
starts_opens (b ∷ more) (a ∷ word) = rw (starts_opens more word, eqb_sym a b) refl
