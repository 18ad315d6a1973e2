-- Every public contract of this crate leaves one outcome: any two that it allows are equal, the bus and each buffer that is
-- lent as the function returns included. Of `converse` and `answer_all` it is first shown which fact the `ensures` is, by
-- computation, and then that this fact leaves one outcome.
use Prim.Native.Nat.{ℕ}
use mathlib.Core.List.{List}
use mathlib.Core.Path.{◌≡◌, ◌∙◌, refl, ap}
use seplogic.Ra.Ura.{Ura}
use base.Logic.{SProp}
use prog.Memory.{Memory}
use prog.Routine.{Routine}
use types.Logic.{Logic}
use contract.Lifetimes.{Lfts}
use contract.Monad.{Fun, fact}
use denote.Triple.Clauses.{AtExit}
use denote.Triple.Entry.{Args}
use Rattle.base.proofs.Unique.{Unique, UniqueOutcome, same}
use Rattle.bus.specs.declared.Bus.{Bus}
use Rattle.conversation.specs.declared.Heard.{Heard}
use Rattle.conversation.specs.declared.pending.Pending.{Pending}
use Rattle.conversation.specs.Talk.{Left, converse}
use Rattle.conversation.specs.Whole.{answer_all}
use Rattle.conversation.proofs.tape.text_end.Kinds as text_end_kinds
use Rattle.conversation.proofs.tape.text_end.Reads as text_end_reads
use Rattle.conversation.proofs.tape.text_on.Kinds as text_on_kinds
use Rattle.conversation.proofs.tape.text_on.Reads as text_on_reads
use Rattle.conversation.proofs.tape.keep_rest.Kinds as keep_rest_kinds
use Rattle.conversation.proofs.tape.keep_rest.Reads as keep_rest_reads
use Rattle.conversation.proofs.pending.pending_at.Kinds as pending_at_kinds
use Rattle.conversation.proofs.pending.pending_at.Reads as pending_at_reads
use Rattle.conversation.proofs.pending.next_pending.Kinds as next_pending_kinds
use Rattle.conversation.proofs.pending.next_pending.Reads as next_pending_reads
use Rattle.conversation.proofs.pending.HeardFromPending.from.Kinds as heard_of_kinds
use Rattle.conversation.proofs.pending.HeardFromPending.from.Reads as heard_of_reads
use Rattle.conversation.proofs.pending.finish.Kinds as finish_kinds
use Rattle.conversation.proofs.pending.finish.Reads as finish_reads
use Rattle.conversation.specs.contracts.converse as talk
use Rattle.conversation.specs.contracts.answer_all as answer_all_holds

pub text_end_unique : Unique text_end_kinds.ps text_end_kinds.r text_end_reads.Post
text_end_unique κs args x y at_x at_y = same

-- of the part handed back: where it lies, and what it shows
pub text_on_unique : UniqueOutcome text_on_kinds.ps text_on_kinds.r ((ℕ × ℕ) × List ℕ) (λ κs part at. (part.ref_ptr, part.now)) text_on_reads.Post
text_on_unique κs args x y at_x at_y p q =
    ap (λ (place : ℕ × ℕ). (place, x.now)) (same p.same_place q.same_place) ∙ ap (λ (bytes : List ℕ). (y.ref_ptr, bytes)) (same p.shows q.shows)

pub keep_rest_unique : UniqueOutcome keep_rest_kinds.ps keep_rest_kinds.r (ℕ × List ℕ) (λ κs result at. (result, at.0.now)) keep_rest_reads.Post
keep_rest_unique κs args x y at_x at_y = same

pub pending_at_unique : UniqueOutcome pending_at_kinds.ps pending_at_kinds.r (Pending × List ℕ) (λ κs result at. (result, at.1.1.1.0.now)) pending_at_reads.Post
pending_at_unique κs args x y at_x at_y = same

pub next_pending_unique : UniqueOutcome next_pending_kinds.ps next_pending_kinds.r (Pending × List ℕ) (λ κs result at. (result, at.1.1.1.1.1.0.now)) next_pending_reads.Post
next_pending_unique κs args x y at_x at_y = same

pub heard_of_unique : Unique heard_of_kinds.ps heard_of_kinds.r heard_of_reads.Post
heard_of_unique κs args x y at_x at_y = same

pub finish_unique : UniqueOutcome finish_kinds.ps finish_kinds.r (Heard × List ℕ) (λ κs result at. (result, at.1.1.0.now)) finish_reads.Post
finish_unique κs args x y at_x at_y = same

-- what a whole transcript leaves: what is told, both stores, the buffer
abbrev AllLeft : Type 0
AllLeft = Heard × List ℕ × List ℕ × List ℕ

-- a contract's outcome: the result, and what was lent as it comes back
abbrev Talked : List ℕ → Bus → List ℕ → List ℕ → List ℕ → Left → Type 0
Talked text bus array security said left = left ≡ converse text bus array security said

abbrev Answered : List ℕ → Bus → List ℕ → List ℕ → List ℕ → AllLeft → Type 0
Answered text bus array security said left = left ≡ answer_all text bus array security said

module _ {M : Type 1} {𝓤 : Ura M} (𝓛 : Logic 𝓤) (mem : Memory → SProp 𝓤) (run : Routine → Fun 𝓤) where
  pub converse_says : (κs : Lfts 5) (args : Args talk.signature κs) (heard : Heard) (end : AtExit talk.ended κs)
      → (talk.clauses 𝓛 mem run κs args).ensures tt heard end
      ≡ fact 𝓤 (Talked args.1.1.1.0.now args.0.now args.1.0.now args.1.1.0.now args.1.1.1.1.0.now (heard, end.0.now, end.1.0.now, end.1.1.0.now, end.1.1.1.1.0.now))
  converse_says κs args heard end = refl

  pub answer_all_says : (κs : Lfts 4) (args : Args answer_all_holds.signature κs) (heard : Heard) (end : AtExit answer_all_holds.ended κs)
      → (answer_all_holds.clauses 𝓛 mem run κs args).ensures tt heard end
      ≡ fact 𝓤 (Answered args.1.1.1.0.now args.0 args.1.0.now args.1.1.0.now args.1.1.1.1.0.now (heard, end.1.0.now, end.1.1.0.now, end.1.1.1.1.0.now))
  answer_all_says κs args heard end = refl

-- what is told, the bus that was lent, both stores and the buffer
pub converse_unique : (text : List ℕ) (bus : Bus) (array security said : List ℕ) (x y : Left) → Talked text bus array security said x → Talked text bus array security said y → x ≡ y
converse_unique text bus array security said x y = same

pub answer_all_unique : (text : List ℕ) (bus : Bus) (array security said : List ℕ) (x y : AllLeft) → Answered text bus array security said x → Answered text bus array security said y → x ≡ y
answer_all_unique text bus array security said x y = same
