-- Every contract of the reader leaves one outcome. For each it is first shown which fact its `ensures` is, by computation, and
-- then that this fact leaves one outcome.
use Prim.Native.Nat.{ℕ}
use mathlib.Core.List.{List}
use mathlib.Core.Path.{◌≡◌, refl}
use seplogic.Ra.Ura.{Ura}
use base.Logic.{SProp}
use prog.Memory.{Memory}
use prog.Routine.{Routine}
use types.Logic.{Logic}
use contract.Lifetimes.{Lfts}
use contract.Monad.{Fun, fact}
use denote.Ref.{Bor}
use denote.Triple.Clauses.{AtExit}
use denote.Triple.Entry.{Args}
use Rattle.base.proofs.Unique.{same}
use Rattle.transcript.specs.declared.frame.Frame.{Frame}
use Rattle.reader.specs.declared.Reader.{Reader}
use Rattle.reader.specs.Reader.{from_start, Answered}
use Rattle.reader.specs.contracts.Reader.new as new
use Rattle.reader.specs.contracts.Reader.next as next

module _ {M : Type 1} {𝓤 : Ura M} (𝓛 : Logic 𝓤) (mem : Memory → SProp 𝓤) (run : Routine → Fun 𝓤) where
  pub new_says : (κs : Lfts 1) (args : Args new.signature κs) (r : Reader) (end : AtExit new.ended κs) → (new.clauses 𝓛 mem run κs args).ensures tt r end ≡ fact 𝓤 (r ≡ from_start args.0)
  new_says κs args r end = refl

  pub next_says : (κs : Lfts 2) (args : Args next.signature κs) (frame : Frame) (end : AtExit next.ended κs) → (next.clauses 𝓛 mem run κs args).ensures tt frame end ≡ fact 𝓤 (Answered args.0.now frame end.0.now)
  next_says κs args frame end = refl

pub new_unique : (text : Bor (List ℕ)) (x y : Reader) → x ≡ from_start text → y ≡ from_start text → x ≡ y
new_unique text x y = same

-- the answer, and the reader that was lent
pub next_unique : (reader : Reader) (x y : Frame) (after_x after_y : Reader) → Answered reader x after_x → Answered reader y after_y → (x ≡ y) × (after_x ≡ after_y)
next_unique reader x y after_x after_y one other = (same one.answer other.answer, same one.moved other.moved)
