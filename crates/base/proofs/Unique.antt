-- How tight a contract is: any two results that it allows for the same arguments are equal.
use Prim.Native.Nat.{ℕ}
use mathlib.Core.List.{List}
use mathlib.Core.Path.{◌≡◌, ◌∙◌, sym}
use contract.Lifetimes.{Lfts}
use borrow.Fn.Kind.{ParamKind, ResultKind}
use borrow.Fn.Kinds.{Out, Dens, res_t, ended_of}
use denote.Triple.Clauses.{AtExit}
use Rattle.base.proofs.bit.bit_of.Kinds as bit_of_kinds
use Rattle.base.proofs.bit.bit_of.Reads as bit_of_reads
use Rattle.base.proofs.number.least.Kinds as least_kinds
use Rattle.base.proofs.number.least.Reads as least_reads
use Rattle.base.proofs.logic.and.Kinds as and_kinds
use Rattle.base.proofs.logic.and.Reads as and_reads
use Rattle.base.proofs.logic.or.Kinds as or_kinds
use Rattle.base.proofs.logic.or.Reads as or_reads
use Rattle.base.proofs.share.put.Kinds as put_kinds
use Rattle.base.proofs.share.put.Reads as put_reads
use Rattle.base.proofs.word.word_of.Kinds as word_of_kinds
use Rattle.base.proofs.word.word_of.Reads as word_of_reads

-- `ensures` is a contract as the source states it: of the arguments, a result, and the arguments as the function returns
abbrev pub Unique : {n : ℕ} (ps : List (ParamKind n)) (r : ResultKind n) → Out n ps r → Type 0
Unique {n} ps r ensures =
    (κs : Lfts n) (args : Dens κs ps) (x y : (res_t r κs).Denot) (at_x at_y : AtExit (ended_of n ps r) κs)
    → ensures κs args x at_x
    → ensures κs args y at_y
    → x ≡ y

-- where stores are lent by `&mut`: `seen` is what an outcome shows, the result and each lent store as the function returns
abbrev pub UniqueOutcome : {n : ℕ} (ps : List (ParamKind n)) (r : ResultKind n) (A : Type 0) → ((κs : Lfts n) → (res_t r κs).Denot → AtExit (ended_of n ps r) κs → A) → Out n ps r → Type 0
UniqueOutcome {n} ps r A seen ensures =
    (κs : Lfts n) (args : Dens κs ps) (x y : (res_t r κs).Denot) (at_x at_y : AtExit (ended_of n ps r) κs)
    → ensures κs args x at_x
    → ensures κs args y at_y
    → seen κs x at_x ≡ seen κs y at_y

-- what equals one thing is equal
pub same : {A : Type 0} {x y z : A} → x ≡ z → y ≡ z → x ≡ y
same p q = p ∙ sym q

pub bit_of_unique : Unique bit_of_kinds.ps bit_of_kinds.r bit_of_reads.Post
bit_of_unique κs args x y at_x at_y = same

pub least_unique : Unique least_kinds.ps least_kinds.r least_reads.Post
least_unique κs args x y at_x at_y = same

pub and_unique : Unique and_kinds.ps and_kinds.r and_reads.Post
and_unique κs args x y at_x at_y = same

pub or_unique : Unique or_kinds.ps or_kinds.r or_reads.Post
or_unique κs args x y at_x at_y = same

pub word_of_unique : Unique word_of_kinds.ps word_of_kinds.r word_of_reads.Post
word_of_unique κs args x y at_x at_y = same

pub put_unique : UniqueOutcome put_kinds.ps put_kinds.r (List ℕ) (λ κs result at. at.1.1.0.now) put_reads.Post
put_unique κs args x y at_x at_y = same
