-- What a walk was passed, and what it has in hand of it between calls; `Lends.antt` lends that for a call.
--     Passed             a reference as it was passed: its lifetime κ, the share q of κ's token, and x, its place, name and value
--                        (of a `&` no more is read than its place and its value)
--     pointed, sliced    a reference and a slice as they were passed, as the machine has them
--     Borrow, Bytes      a `&mut T` and a `&mut [u8]` in hand, at the value that it has by now
--     Seen, Shown        what a `&[u8]` owns, and that with its token
--     seen_twice         what a `&[u8]` owns can be had twice, so that one of the two may go to a callee
use Prim.Native.Nat.{ℕ}
use mathlib.Core.List.{List, [], ◌∷◌}
use lib.ListN.{length}
use seplogic.Ra.Ura.{Ura}
use mir.Syntax.{erased, w8}
use mir.Val.{Val, vptr}
use base.Fml.{Lft, Share, Fml, fsep, flft}
use types.Logic.{Logic}
use types.Kit.{Item, ‵, ◌⊛◌, Goal, Step, step, ◌$◌, use1, split}
use denote.RattleType.{RattleType}
use denote.Builtin.{u8}
use denote.Plain.{uint_row_laws}
use denote.Ref.{MutBor, at_last, as_bor}
use denote.Slice.{slice_val, shr_slice_copy}
use Rattle.walks.proofs.Lends.{HeldRef, HeldSlice, Shared}

pub record Passed (X : Type 0) : Type 0 where
  pub κ : Lft
  pub q : Share
  pub x : MutBor X

abbrev pub passed_at : {X : Type 0} → Lft → Share → MutBor X → Passed X
passed_at κ q x = record { κ = κ; q = q; x = x }

abbrev pub pointed : {X : Type 0} → Passed X → Val
pointed p = vptr p.x.ref_ptr.0 p.x.ref_ptr.1

abbrev pub sliced : {X : Type 0} → Passed (List X) → Val
sliced p = slice_val p.x.ref_ptr (length p.x.now)

abbrev pub Borrow : (R : RattleType) → Passed R.Denot → R.Denot → Fml
Borrow R p y = HeldRef R p.κ p.q (at_last p.x y)

abbrev pub Bytes : Passed (List ℕ) → List ℕ → Fml
Bytes p ys = HeldSlice u8 p.κ p.q (at_last p.x ys) (sliced p ∷ [])

abbrev pub Seen : Passed (List ℕ) → Fml
Seen p = Shared u8 p.κ (as_bor p.x) (sliced p ∷ [])

abbrev pub Shown : Passed (List ℕ) → Fml
Shown p = fsep (Seen p) (flft p.κ p.q)

pub seen_twice : {M : Type 1} {𝓤 : Ura M} {𝓛 : Logic 𝓤} {K : Type 0} {Γ : List (Item 𝓤)} {G : Goal 𝓤 𝓛.H} → K → (p : Passed (List ℕ)) → Step K 𝓛 (‵ (Seen p) ∷ ‵ (Seen p) ∷ Γ) G (‵ (Seen p) ∷ Γ) G
seen_twice {𝓤 = 𝓤} {𝓛} t p = step (λ s. use1 𝓛 (‵ (Seen p) ⊛ ‵ (Seen p)) ((shr_slice_copy 𝓛 erased p.κ u8 (uint_row_laws w8)).twice (as_bor p.x) (sliced p ∷ [])) $ split t $ s)
