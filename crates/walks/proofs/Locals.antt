-- The locals of a walk, and its end: every local is freed, whatever it holds, by induction over the locals.
-- A local that holds something is its type, its block and its value, and one that is vacant its type and its block. The locals
-- stand in the context in their order, each before what frees it, so that it is 2 from one local to the next.
-- How a walk counts: a number given to `look`, `look_in`, `init`, `store`, `forget`, `rewrite`, `move` or `keep` is a place in the
-- context, from 0 on. Comments in brackets say what stands where.
use Prim.Native.Nat.{ℕ}
use mathlib.Core.Path.{refl}
use mathlib.Core.List.{List, [], ◌∷◌, ◌++◌}
use seplogic.Ra.Ura.{Ura}
use base.Fraction.{full_share}
use mir.Syntax.{Ty}
use mir.Val.{Val}
use base.Fml.{fat, froom, fdies}
use types.Logic.{Logic}
use types.Kit.{Item, ‵, Goal, Sq, frees, ◌$◌, ! }
use types.Run.{forget, free1, free0}

abbrev pub blocks : List (Ty × ℕ × Val) → List (Ty × ℕ)
blocks [] = []
blocks (c ∷ cs) = (c.0, c.1) ∷ blocks cs

module _ {M : Type 1} {𝓤 : Ura M} where
  abbrev pub held : List (Ty × ℕ × Val) → List (Item 𝓤) → List (Item 𝓤)
  held [] Γ = Γ
  held (c ∷ cs) Γ = ‵ (fat full_share c.0 c.1 0 c.2) ∷ ‵ (fdies c.0 c.1) ∷ held cs Γ

  abbrev pub vacant : List (Ty × ℕ) → List (Item 𝓤) → List (Item 𝓤)
  vacant [] Γ = Γ
  vacant (c ∷ cs) Γ = ‵ (froom c.0 c.1 0) ∷ ‵ (fdies c.0 c.1) ∷ vacant cs Γ

  -- first those that hold something, then those that are vacant
  pub freed : (𝓛 : Logic 𝓤) (cs : List (Ty × ℕ × Val)) (rs : List (Ty × ℕ)) {Γ : List (Item 𝓤)} {g : Goal 𝓤 𝓛.H} → Sq 𝓛 Γ g → Sq 𝓛 (held cs (vacant rs Γ)) (frees (blocks cs ++ rs) g)
  freed 𝓛 [] [] rest = free0 ! $ rest
  freed 𝓛 [] (r ∷ rs) rest = free1 ! $ freed 𝓛 [] rs rest
  freed 𝓛 (c ∷ cs) rs rest = forget ! 0 refl $ free1 ! $ freed 𝓛 cs rs rest
