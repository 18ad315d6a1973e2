-- What a walk holds as a `&mut`, or in a local, is lent for one call, and comes back when the call is over. Every loan has a
-- lifetime of its own, which is made where the loan begins and ended where it comes back.
--     Ref, Slice               what a `&mut T`, a `&mut [T]` owns: x is its place, its name and its value, vs a slice's machine
--                              values
--     HeldRef, HeldSlice       the same with the token of its lifetime: what the holder has
--     lend_ref, lend_slice     the holder's part becomes the token of the new lifetime ν, what is lent, under the new name δ, and
--                              what the holder keeps
--     ref_back, slice_back     these three, with the last value in the place of what was lent, become the holder's part at it
--     lend_shared, shared_back     the same of a `&mut [T]` that is lent as a `&[T]`, and comes back as it was
--     bytes_shared             what `lend_shared` asks of the elements, for bytes
--     open_ref, shut_ref       the value behind a `&mut T` stands in its cell, where it is read and stored, until it is shut again
--     lend_local, local_back   the same of plain data in a local: its cell is lent, and comes back with what is known of its value
--     as_long                  a slice that is the same for the machine as when it was passed is as long as it was
--     asks, answers            a call with no code around it: what is asked for is at the head, and what comes back is taken apart
use mathlib.Core.Path.{◌≡◌, refl, sym, ◌∙◌, ap, subst}
use Prim.Native.Nat.{ℕ}
use mathlib.Core.List.{List, [], ◌∷◌}
use lib.ListN.{length}
use seplogic.Ra.Ura.{Ura}
use base.Fraction.{full_share}
use mir.Syntax.{Callee, Ty, erased, w8}
use mir.Val.{Val, vptr}
use base.Logic.{SProp, ent, sep, via, mono_l, id⊢}
use base.Fml.{Lft, Share, GName, Fml, fsep, feq, fat, flft, flent, fobor, fobs, fauth, fres}
use prog.Wp.{Calls}
use types.Logic.{Logic, sem}
use sound.WpLaws.{FmC}
use types.Kit.{Item, ‵, raw, some, later, ◌⊛◌, ⋆, pop, push, Goal, prop, Soaks, Seq, Step, step, ◌$◌, move, drop, use1, use2, use3, split, pick, rewrite, fsplit, fsplit3, fjoin, fjoin3, fpick, fpack, feq_l, feq_i, await}
use types.Tokens.{lft_new, lft_end, lent_back}
use types.SemTy.{cells, Arr, Body}
use types.Share.{arr_parts}
use denote.RattleType.{RattleType}
use denote.Shadow.{pure_l, pure_i}
use denote.Laws.{Tells, Makes, Is, shows}
use denote.Memory.{mem, shares, cell_at, part_of}
use denote.Shares.{Shares}
use denote.Copied.{uint_Copied}
use denote.Builtin.{u8}
use denote.Ref.{Bor, MutBor, MutRef, at_last, as_bor}
use denote.Slice.{slice_val, MutSlice, ShrSlice, Room, finally, mut_slice_at, heres, coded_holeys, mut_slice_Fixes}
use denote.Lend.{Held, LentAgain, lends_ref, ref_back as cell_back, lends_again, comes_back, lends_slice, slice_back as memory_back, lends_shr_slice}
use denote.Index.{row, whole_in, whole_out, opens_slice, closes_slice}
use denote.Signature.{type_at}
use denote.Steps.{opens, closes, owned, peeks, facts}
use denote.Triple.Entry.{Res, alive}
use denote.Triple.Spec.{triple_of}
use denote.Triple.Statement.{Contract, Triple}
use denote.Triple.Clauses.{Clauses, Ended, Lasts, at_exit, lasts, closing}

-- the same reference under another name
abbrev pub under : {X : Type 0} → MutBor X → GName → MutBor X
under x δ = record { ref_ptr = x.ref_ptr; ghost_name = δ; now = x.now }

-- what a reference to a local is
abbrev pub local : {X : Type 0} → ℕ → X → GName → MutBor X
local l h δ = record { ref_ptr = (l, 0); ghost_name = δ; now = h }

module _ (R : RattleType) (κ : Lft) where
  abbrev pub Ref : MutBor R.Denot → Fml
  Ref x = (MutRef erased κ R).own_val x (vptr x.ref_ptr.0 x.ref_ptr.1 ∷ [])

  abbrev pub Slice : MutBor (List R.Denot) → List Val → Fml
  Slice x vs = (MutSlice erased κ R).own_val x vs

  abbrev pub Shared : Bor (List R.Denot) → List Val → Fml
  Shared x vs = (ShrSlice erased κ R).own_val x vs

  module _ (q : Share) where
    abbrev pub HeldRef : MutBor R.Denot → Fml
    HeldRef x = fsep (Ref x) (flft κ q)

    abbrev pub HeldSlice : MutBor (List R.Denot) → List Val → Fml
    HeldSlice x vs = fsep (Slice x vs) (flft κ q)

    abbrev pub KeptRef : MutBor R.Denot → ℕ → GName → Fml
    KeptRef x ν δ = LentAgain R κ (ν ∷ []) q x.ghost_name x.ref_ptr.0 x.ref_ptr.1 δ x.now

    -- what is left of a borrow while its value stands in its cell
    pub Opened : MutBor R.Denot → Fml
    Opened x = fsep (fobor κ q (Body (mem R) x.ref_ptr.0 x.ref_ptr.1 x.ghost_name)) (fsep (fobs x.ghost_name (R.coded.code x.now)) (fauth x.ghost_name (R.coded.code x.now)))

    -- the memory is to come back, and the borrow that it came out of is open
    abbrev pub KeptSlice : MutBor (List R.Denot) → List Val → ℕ → GName → Fml
    KeptSlice x vs ν δ =
        fsep (mut_slice_at R x vs) (fsep (flent (ν ∷ []) (Held R (length x.now) x.ref_ptr.0 x.ref_ptr.1 δ)) (fsep (fobor κ q (Held R (length x.now) x.ref_ptr.0 x.ref_ptr.1 x.ghost_name))
        (fsep (fobs x.ghost_name ((coded_holeys R).code (heres R x.now))) (fauth x.ghost_name ((coded_holeys R).code (heres R x.now))))))

    abbrev pub KeptShared : MutBor (List R.Denot) → List Val → ℕ → Fml
    KeptShared x vs ν =
        fsep (mut_slice_at R x vs) (fsep (flent (ν ∷ []) ((arr_parts (shares R) (length x.now)).part full_share x.now x.ref_ptr.0 x.ref_ptr.1)) (fsep (fobor κ q (Held R (length x.now) x.ref_ptr.0 x.ref_ptr.1 x.ghost_name))
        (fsep (fobs x.ghost_name ((coded_holeys R).code (heres R x.now))) (fauth x.ghost_name ((coded_holeys R).code (heres R x.now))))))

-- what a callee says of a slice that was lent to it: its last list, which is as long as the list was
abbrev pub Last : (R : RattleType) → List R.Denot → GName → List R.Denot → Fml
Last R xs δ ys = fsep (finally R δ ys) (feq ℕ (length ys) (length xs))

module _ {M : Type 1} {𝓤 : Ura M} (𝓛 : Logic 𝓤) where
  -- a cell of a type that is one machine type, by that one
  to_cell : (R : RattleType) {τ : Ty} → R.mir ≡ τ ∷ [] → (b o : ℕ) (v : Val) → ent 𝓤 (sem 𝓛 (fat full_share τ b o v)) (sem 𝓛 (cell_at full_share R.mir (v ∷ []) b o))
  to_cell R {τ} one b o v = subst (λ (τs : List Ty). ent 𝓤 (sem 𝓛 (fat full_share τ b o v)) (sem 𝓛 (cell_at full_share τs (v ∷ []) b o))) (sym one) (𝓛.laws.at_raw full_share τ b o v)

  from_cell : (R : RattleType) {τ : Ty} → R.mir ≡ τ ∷ [] → (b o : ℕ) (v : Val) → ent 𝓤 (sem 𝓛 (cell_at full_share R.mir (v ∷ []) b o)) (sem 𝓛 (fat full_share τ b o v))
  from_cell R {τ} one b o v = subst (λ (τs : List Ty). ent 𝓤 (sem 𝓛 (cell_at full_share τs (v ∷ []) b o)) (sem 𝓛 (fat full_share τ b o v))) (sym one) (𝓛.laws.raw_at full_share τ b o v)

  -- bytes can be shared out for any lifetime
  pub bytes_shared : (l : Lft) → Shares 𝓛 u8 l
  bytes_shared = (uint_Copied 𝓛 w8).shares full_share

module _ {M : Type 1} {𝓤 : Ura M} {𝓛 : Logic 𝓤} {K : Type 0} {Γ : List (Item 𝓤)} {G : Goal 𝓤 𝓛.H} where
  pub lend_ref : K → Soaks G → (R : RattleType) (x : MutBor R.Denot) {κ : Lft} {q : Share}
      → ((ν : ℕ) (δ : GName) → Seq K 𝓛 (‵ (flft (ν ∷ []) full_share) ∷ ‵ (Ref R (ν ∷ []) (under x δ)) ∷ ‵ (KeptRef R κ q x ν δ) ∷ Γ) G) → Seq K 𝓛 (‵ (HeldRef R κ q x) ∷ Γ) G
  lend_ref t z R x {κ} {q} k = fsplit t $ lft_new t z (λ ν. move t (1 ∷ 2 ∷ []) $
      use2 𝓛 (later (some (λ (δ : GName). ‵ (Ref R (ν ∷ []) (under x δ)) ⊛ ‵ (KeptRef R κ q x ν δ)))) (lends_again 𝓛 R erased κ (ν ∷ []) q x.ghost_name x.ref_ptr.0 x.ref_ptr.1 erased x.now) $ await t z $
      pick t (λ δ. split t $ move t (2 ∷ []) $ k ν δ))

  pub ref_back : K → Soaks G → (R : RattleType) (x : MutBor R.Denot) (y : R.Denot) {κ : Lft} {q : Share} {ν : ℕ} {δ : GName}
      → Step K 𝓛 (‵ (HeldRef R κ q (at_last x y)) ∷ Γ) G (‵ (flft (ν ∷ []) full_share) ∷ ‵ (KeptRef R κ q x ν δ) ∷ ‵ (fres δ (R.coded.code y)) ∷ Γ) G
  ref_back t z R x y {κ} {q} {ν} {δ} = step (λ s. lft_end t z $
      use3 𝓛 (later (‵ (HeldRef R κ q (at_last x y)))) (comes_back 𝓛 R erased κ (ν ∷ []) q x.ghost_name x.ref_ptr.0 x.ref_ptr.1 δ x.now y) $ await t z $ s)

  -- val is a value's machine value
  pub open_ref : K → Soaks G → (R : RattleType) (val : R.Denot → Val) → Tells R (Is R) (λ h. val h ∷ []) → {τ : Ty} → R.mir ≡ τ ∷ [] → (x : MutBor R.Denot) {κ : Lft} {q : Share}
      → (Is R x.now (val x.now ∷ []) → Seq K 𝓛 (‵ (fat full_share τ x.ref_ptr.0 x.ref_ptr.1 (val x.now)) ∷ ‵ (Opened R κ q x) ∷ Γ) G) → Seq K 𝓛 (‵ (HeldRef R κ q x) ∷ Γ) G
  unfolding Opened
  open_ref t z R val tells {τ} one x k =
      let (b, o) = x.ref_ptr in
      fsplit t $ fsplit3 t $ drop t $ opens t z R {h = x.now} b o (λ vs. move t (1 ∷ []) $ facts t R (Is R) (shows 𝓛 R) x.now vs (λ is.
      rewrite t 0 (λ (us : List Val). ‵ (cell_at full_share R.mir us b o)) (tells x.now vs is) refl $ use1 𝓛 (‵ (fat full_share τ b o (val x.now))) (from_cell 𝓛 R one b o (val x.now)) $
      -- [the cell; the open borrow, and the two halves of its name]
      move t (1 ∷ 2 ∷ 3 ∷ []) $ fjoin3 t $ move t (1 ∷ 0 ∷ []) $ k (subst (Is R x.now) (tells x.now vs is) is)))

  pub shut_ref : K → Soaks G → (R : RattleType) → Makes 𝓛 R (Is R) → {τ : Ty} → R.mir ≡ τ ∷ [] → (x : MutBor R.Denot) (y : R.Denot) (v : Val) → Is R y (v ∷ []) → {κ : Lft} {q : Share}
      → Step K 𝓛 (‵ (HeldRef R κ q (at_last x y)) ∷ Γ) G (‵ (fat full_share τ x.ref_ptr.0 x.ref_ptr.1 v) ∷ ‵ (Opened R κ q x) ∷ Γ) G
  unfolding Opened
  shut_ref t z R makes {τ} one x y v is = step (λ s.
      let (b, o) = x.ref_ptr in
      use1 𝓛 (‵ (cell_at full_share R.mir (v ∷ []) b o)) (to_cell 𝓛 R one b o v) $ owned t R (Is R) makes y (v ∷ []) is $ move t (2 ∷ []) $ fsplit3 t $ move t (4 ∷ 3 ∷ []) $ closes t z R y (v ∷ []) b o $
      feq_i t (List Val) (vptr b o ∷ []) (vptr b o ∷ []) refl $ fjoin3 t $ fjoin t $ s)

  pub lend_slice : K → Soaks G → (R : RattleType) (x : MutBor (List R.Denot)) (vs : List Val) {κ : Lft} {q : Share}
      → ((ν : ℕ) (δ : GName) → Seq K 𝓛 (‵ (flft (ν ∷ []) full_share) ∷ ‵ (Slice R (ν ∷ []) (under x δ) vs) ∷ ‵ (KeptSlice R κ q x vs ν δ) ∷ Γ) G) → Seq K 𝓛 (‵ (HeldSlice R κ q x vs) ∷ Γ) G
  lend_slice t z R x vs {κ} {q} k = fsplit t $ fsplit t $ pure_l t (mut_slice_at R x vs) (λ p. fsplit t $ opens_slice t z R x.now x.ref_ptr.0 x.ref_ptr.1 $
      use1 𝓛 (‵ (cells (mem R) x.now x.ref_ptr.0 x.ref_ptr.1)) (whole_in 𝓛 R x.now x.ref_ptr.0 x.ref_ptr.1) $ lft_new t z (λ ν. move t (1 ∷ []) $
      use1 𝓛 (later (some (λ (δ : GName). ‵ (Slice R (ν ∷ []) (under x δ) (slice_val x.ref_ptr (length x.now) ∷ [])) ⊛ ‵ (flent (ν ∷ []) (Held R (length x.now) x.ref_ptr.0 x.ref_ptr.1 δ)))))
      (lends_slice 𝓛 R erased (ν ∷ []) x.now x.ref_ptr.0 x.ref_ptr.1 p.1) $ await t z $ pick t (λ δ. split t $ rewrite t 0 (λ (us : List Val). ‵ (Slice R (ν ∷ []) (under x δ) us)) (sym p.0) refl $
      -- [what is lent; the memory that is to come back; the new token; the open borrow, and the two halves of its name]
      move t (4 ∷ 5 ∷ []) $ fjoin t $ move t (4 ∷ 0 ∷ []) $ fjoin t $ move t (2 ∷ 0 ∷ []) $ fjoin t $ pure_i t (mut_slice_at R x vs) (tt, (tt, tt)) p $ fjoin t $ move t (2 ∷ 1 ∷ []) $ k ν δ)))

  pub slice_back : K → Soaks G → (R : RattleType) (x : MutBor (List R.Denot)) (vs : List Val) (ys : List R.Denot) {κ : Lft} {q : Share} {ν : ℕ} {δ : GName}
      → Step K 𝓛 (‵ (HeldSlice R κ q (at_last x ys) vs) ∷ Γ) G (‵ (flft (ν ∷ []) full_share) ∷ ‵ (KeptSlice R κ q x vs ν δ) ∷ ‵ (Last R x.now δ ys) ∷ Γ) G
  slice_back t z R x vs ys {κ} {q} {ν} {δ} = step (λ s. lft_end t z $ move t (1 ∷ []) $ fsplit t $ pure_l t (mut_slice_at R x vs) (λ p. move t (2 ∷ []) $ fsplit t $ move t (1 ∷ []) $ feq_l t (λ same. move t (1 ∷ []) $ fsplit t $
      -- [the memory that is to come back; the open borrow; the last list; that ν is over]
      move t (3 ∷ 0 ∷ 2 ∷ []) $ use3 𝓛 (later (‵ ((Arr (mem R) (length x.now)).own_at ys x.ref_ptr.0 x.ref_ptr.1))) (memory_back 𝓛 R (ν ∷ []) δ ys (length x.now) x.ref_ptr.0 x.ref_ptr.1) $ await t z $
      fsplit t $ drop t $ use1 𝓛 (‵ (row R full_share ys x.ref_ptr.0 x.ref_ptr.1)) (whole_out 𝓛 R ys x.ref_ptr.0 x.ref_ptr.1) $
      move t (1 ∷ []) $ fsplit3 t $ move t (3 ∷ []) $ closes_slice t z R x.now ys same x.ref_ptr.0 x.ref_ptr.1 $
      fjoin t $ pure_i t (mut_slice_at R (at_last x ys) vs) (tt, (tt, tt)) (p.0 ∙ ap (λ (m : ℕ). slice_val x.ref_ptr m ∷ []) (sym same), subst (Room R) (sym same) p.1) $ fjoin t $ fjoin t $ s)))

  -- `shared` is that a T can be shared out for a lifetime of its own, as plain data can (`bytes_shared`)
  pub lend_shared : K → Soaks G → (R : RattleType) → ((ν : ℕ) → Shares 𝓛 R (ν ∷ [])) → (x : MutBor (List R.Denot)) (vs : List Val) {κ : Lft} {q : Share}
      → ((ν : ℕ) → Seq K 𝓛 (‵ (flft (ν ∷ []) full_share) ∷ ‵ (Shared R (ν ∷ []) (as_bor x) vs) ∷ ‵ (KeptShared R κ q x vs ν) ∷ Γ) G) → Seq K 𝓛 (‵ (HeldSlice R κ q x vs) ∷ Γ) G
  lend_shared t z R shared x vs {κ} {q} k = fsplit t $ fsplit t $ pure_l t (mut_slice_at R x vs) (λ p. fsplit t $ opens_slice t z R x.now x.ref_ptr.0 x.ref_ptr.1 $
      feq_i t ℕ (length x.now) (length x.now) refl $ fjoin t $ lft_new t z (λ ν. move t (1 ∷ 0 ∷ []) $
      use2 𝓛 (later ((‵ (Shared R (ν ∷ []) (as_bor x) (slice_val x.ref_ptr (length x.now) ∷ [])) ⊛ ‵ (flent (ν ∷ []) ((arr_parts (shares R) (length x.now)).part full_share x.now x.ref_ptr.0 x.ref_ptr.1))) ⊛ ‵ (flft (ν ∷ []) full_share)))
      (lends_shr_slice 𝓛 R erased (ν ∷ []) full_share x.now x.ref_ptr.0 x.ref_ptr.1 p.1 (ν ∷ []) (shared ν) ((ν ∷ [], full_share) ∷ []) (λ a m. m) (λ a m. m)) $ await t z $ split t $ split t $ rewrite t 0 (λ (us : List Val). ‵ (Shared R (ν ∷ []) (as_bor x) us)) (sym p.0) refl $
      -- [what is lent; the memory that is to come back; the new token; the open borrow, and the two halves of its name]
      move t (4 ∷ 5 ∷ []) $ fjoin t $ move t (4 ∷ 0 ∷ []) $ fjoin t $ move t (2 ∷ 0 ∷ []) $ fjoin t $ pure_i t (mut_slice_at R x vs) (tt, (tt, tt)) p $ fjoin t $ move t (2 ∷ 1 ∷ []) $ k ν))

  pub shared_back : K → Soaks G → (R : RattleType) (x : MutBor (List R.Denot)) (vs : List Val) {κ : Lft} {q : Share} {ν : ℕ}
      → Step K 𝓛 (‵ (HeldSlice R κ q x vs) ∷ Γ) G (‵ (flft (ν ∷ []) full_share) ∷ ‵ (KeptShared R κ q x vs ν) ∷ Γ) G
  shared_back t z R x vs {κ} {q} {ν} = step (λ s. lft_end t z $ move t (1 ∷ []) $ fsplit t $ pure_l t (mut_slice_at R x vs) (λ p. fsplit t $ move t (2 ∷ 0 ∷ []) $ lent_back t z $ fsplit t $ drop t $
      -- [the memory; the open borrow, and the two halves of its name]
      move t (1 ∷ []) $ fsplit3 t $ move t (3 ∷ []) $ closes_slice t z R x.now x.now refl x.ref_ptr.0 x.ref_ptr.1 $ fjoin t $ pure_i t (mut_slice_at R x vs) (tt, (tt, tt)) p $ fjoin t $ fjoin t $ s))

  -- v is the value's machine value
  pub lend_local : K → Soaks G → (R : RattleType) → Makes 𝓛 R (Is R) → {τ : Ty} → R.mir ≡ τ ∷ [] → (l : ℕ) (h : R.Denot) (v : Val) → Is R h (v ∷ [])
      → ((ν : ℕ) (δ : GName) → Seq K 𝓛 (‵ (flft (ν ∷ []) full_share) ∷ ‵ (Ref R (ν ∷ []) (local l h δ)) ∷ ‵ (flent (ν ∷ []) (Body (mem R) l 0 δ)) ∷ Γ) G) → Seq K 𝓛 (‵ (fat full_share τ l 0 v) ∷ Γ) G
  unfolding part_of
  lend_local t z R makes {τ} one l h v is k =
      use1 𝓛 (‵ (cell_at full_share R.mir (v ∷ []) l 0)) (to_cell 𝓛 R one l 0 v) $
      owned t R (Is R) makes h (v ∷ []) is $ move t (1 ∷ 0 ∷ []) $ fjoin t $ fpack t (List Val) (λ us. fsep (cell_at full_share R.mir us l 0) (R.own_val h us)) (v ∷ []) $ lft_new t z (λ ν. move t (1 ∷ []) $
      use1 𝓛 (later (some (λ (δ : GName). ‵ (Ref R (ν ∷ []) (local l h δ)) ⊛ ‵ (flent (ν ∷ []) (Body (mem R) l 0 δ))))) (lends_ref 𝓛 R erased (ν ∷ []) h l 0) $ await t z $ pick t (λ δ. split t $ move t (2 ∷ []) $ k ν δ))

  pub local_back : K → Soaks G → (R : RattleType) (val : R.Denot → Val) → Tells R (Is R) (λ h. val h ∷ []) → {τ : Ty} → R.mir ≡ τ ∷ [] → (l : ℕ) (h : R.Denot) {ν : ℕ} {δ : GName}
      → (Is R h (val h ∷ []) → Seq K 𝓛 (‵ (fat full_share τ l 0 (val h)) ∷ Γ) G) → Seq K 𝓛 (‵ (flft (ν ∷ []) full_share) ∷ ‵ (flent (ν ∷ []) (Body (mem R) l 0 δ)) ∷ ‵ (fres δ (R.coded.code h)) ∷ Γ) G
  unfolding part_of
  local_back t z R val tells {τ} one l h {ν} {δ} k =
      lft_end t z $ use3 𝓛 (later (‵ ((mem R).own_at h l 0))) (cell_back 𝓛 R (ν ∷ []) δ h l 0) $ await t z $ fpick t (λ vs. fsplit t $ move t (1 ∷ []) $ facts t R (Is R) (shows 𝓛 R) h vs (λ is.
      rewrite t 0 (λ (us : List Val). ‵ (cell_at full_share R.mir us l 0)) (tells h vs is) refl $
      use1 𝓛 (‵ (fat full_share τ l 0 (val h))) (from_cell 𝓛 R one l 0 (val h)) $
      k (subst (Is R h) (tells h vs is) is)))

  pub as_long : K → (R : RattleType) (x : MutBor (List R.Denot)) (ys : List R.Denot) {κ : Lft} {vs : List Val} → Is (MutSlice erased κ R) x vs
      → (length ys ≡ length x.now → Seq K 𝓛 (‵ (Slice R κ (at_last x ys) vs) ∷ Γ) G) → Seq K 𝓛 (‵ (Slice R κ (at_last x ys) vs) ∷ Γ) G
  as_long t R x ys {κ} {vs} is k = peeks t (MutSlice erased κ R) (Is (MutSlice erased κ R)) (shows 𝓛 (MutSlice erased κ R)) (at_last x ys) vs (λ still. k (ap (λ (n : (ℕ × ℕ) × ℕ). n.1) (mut_slice_Fixes erased κ R (at_last x ys) x vs still is)))

  pub answers : K → Soaks G → (T : Ended) (c : Clauses 𝓤 T) (y : (triple_of 𝓛 T.signature (closing 𝓛 T c)).Ghost) {w : Val}
      → ((r : Res T.signature y.0.0) (ws : Lasts T y.0.0 y.0.3)
      → Seq K 𝓛 (raw (alive 𝓛 T.signature y.0.0 y.0.1) ∷ ‵ ((type_at T.signature.result y.0.0).own_val r (w ∷ [])) ∷ ‵ (lasts T y.0.0 y.0.3 ws) ∷ raw ((c y.0.0 y.0.3).ensures y.1 r (at_exit T y.0.0 y.0.3 ws)) ∷ Γ) G)
      → Seq K 𝓛 (raw ((triple_of 𝓛 T.signature (closing 𝓛 T c)).post y w) ∷ Γ) G
  answers t z T c y {w} k =
      use1 𝓛 (later (some (λ (r : Res T.signature y.0.0). (raw (alive 𝓛 T.signature y.0.0 y.0.1) ⊛ ‵ ((type_at T.signature.result y.0.0).own_val r (w ∷ [])))
      ⊛ some (λ (ws : Lasts T y.0.0 y.0.3). ‵ (lasts T y.0.0 y.0.3 ws) ⊛ raw ((c y.0.0 y.0.3).ensures y.1 r (at_exit T y.0.0 y.0.3 ws)))))) (id⊢ 𝓤 _) $ await t z $
      pick t (λ r. split t $ move t (1 ∷ []) $ pick t (λ ws. split t $ move t (2 ∷ []) $ split t $ k r ws))

module _ {M : Type 1} {𝓤 : Ura M} {𝓛 : Logic 𝓤} {K : Type 0} {Γ : List (Item 𝓤)} where
  open 𝓛 use {H}

  pub asks : K → {C : Calls 𝓤 H} → FmC 𝓤 H 𝓛.laws C → {f : Callee} (c : Contract 𝓤) → Triple 𝓤 (C f) c → (y : c.Ghost) {Q : Val → SProp 𝓤}
      → ((w : Val) → Seq K 𝓛 (raw (c.post y w) ∷ Γ) (prop (Q w))) → Seq K 𝓛 (raw (c.pre y) ∷ Γ) (prop (C f (c.args y) Q))
  asks t {C} fm {f} c met y {Q} k = record {
    prf = via 𝓤 (sep 𝓤 (c.pre y) (⋆ 𝓛 Γ)) (pop 𝓛 (raw (c.pre y)) Γ)
        (via 𝓤 (sep 𝓤 (C f (c.args y) (c.post y)) (⋆ 𝓛 Γ)) (mono_l 𝓤 (⋆ 𝓛 Γ) (met y))
        (fm f (c.args y) (c.post y) Q (⋆ 𝓛 Γ) (λ w. via 𝓤 (⋆ 𝓛 (raw (c.post y w) ∷ Γ)) (push 𝓛 (raw (c.post y w)) Γ) (k w).prf)));
  }
