-- A call of a function as its caller sees it: arguments, result and what was lent as it returns, of which the contract holds as the checker
-- reads it from the source. That arguments and result are values of their types is no assumption: what is had as any call begins gives it of
-- the arguments, and what any call hands back gives it of the result (`begins_good`, `ends_ok`, of every signature and in every model).
use Prim.Native.Nat.{ℕ}
use mathlib.Core.List.{List, [], ◌∷◌}
use seplogic.Ra.Ura.{Ura}
use mir.Val.{Val}
use base.Logic.{ent, via, snd∗}
use types.Logic.{Logic, sem}
use contract.Lifetimes.{Lfts, Shares}
use contract.Monad.{fact, fact_mono}
use denote.RattleType.{Valss, owns}
use denote.Signature.{types_at}
use denote.Triple.Clauses.{AtExit}
use denote.Triple.Entry.{alive, on_entry}
use borrow.Fn.Kind.{ParamKind, ResultKind}
use borrow.Fn.Kinds.{Out, Dens, GoodsP, res_t, ended_of, slots, sig_of}
use borrow.Fn.Between.{Seen, goods, owns-Seen}

pub record Call {n : ℕ} (ps : List (ParamKind n)) (r : ResultKind n) (ensures : Out n ps r) : Type 0 where
  pub lifetimes : Lfts n
  pub arguments : Dens lifetimes ps
  pub result : (res_t r lifetimes).Denot
  pub at_exit : AtExit (ended_of n ps r) lifetimes
  pub good : GoodsP lifetimes ps arguments
  pub ok : r.is.Ok lifetimes result
  pub ensured : ensures lifetimes arguments result at_exit

module _ {M : Type 1} {𝓤 : Ura M} (𝓛 : Logic 𝓤) (n : ℕ) (ps : List (ParamKind n)) (r : ResultKind n) (κs : Lfts n) (qs : Shares n) where
  pub begins_good : (a : Dens κs ps) (vss : Valss (types_at (slots ps) κs)) → ent 𝓤 (on_entry 𝓛 (sig_of n ps r) κs qs a vss) (fact 𝓤 (GoodsP κs ps a))
  begins_good a vss =
      let owned = sem 𝓛 (owns (types_at (slots ps) κs) a vss) in
      via 𝓤 owned (snd∗ 𝓤 (alive 𝓛 (sig_of n ps r) κs qs) owned)
      (via 𝓤 (fact 𝓤 (Seen 𝓛 n κs ps a vss)) (owns-Seen 𝓛 n κs ps a vss) (fact_mono 𝓤 _ _ (goods 𝓛 n κs ps a vss)))

  pub ends_ok : (x : (res_t r κs).Denot) (v : Val) → ent 𝓤 (sem 𝓛 ((res_t r κs).own_val x (v ∷ []))) (fact 𝓤 (r.is.Ok κs x))
  ends_ok x v =
      let laws = r.laws M 𝓤 𝓛 in
      via 𝓤 (fact 𝓤 (r.is.Is κs x (v ∷ []))) (laws.seen κs x (v ∷ [])) (fact_mono 𝓤 _ _ (laws.ok κs x (v ∷ [])))
