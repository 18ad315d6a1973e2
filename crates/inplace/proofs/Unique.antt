-- The contract of `step_in_place` leaves one outcome. It is first shown which fact its `ensures` is, by computation, and then
-- that this fact leaves one outcome.
use Prim.Native.Nat.{ℕ}
use mathlib.Core.List.{List}
use mathlib.Core.Path.{◌≡◌, refl, ap}
use seplogic.Ra.Ura.{Ura}
use base.Logic.{SProp}
use prog.Memory.{Memory}
use prog.Routine.{Routine}
use types.Logic.{Logic}
use contract.Lifetimes.{Lfts}
use contract.Monad.{Fun, fact}
use denote.Triple.Clauses.{AtExit}
use denote.Triple.Entry.{Args}
use Rattle.base.proofs.Unique.{same}
use Rattle.refusal.specs.Verdict.{Verdict, Answer}
use Rattle.bus.specs.declared.Bus.{Bus}
use Rattle.bus.specs.declared.Stepped.{Stepped}
use Rattle.inplace.specs.InPlace.{StepsInPlace}
use Rattle.inplace.specs.contracts.step_in_place as step_in_place

-- a bus and an answer, and the two stores
abbrev Outcome : Type 0
Outcome = Stepped × List ℕ × List ℕ

module _ {M : Type 1} {𝓤 : Ura M} (𝓛 : Logic 𝓤) (mem : Memory → SProp 𝓤) (run : Routine → Fun 𝓤) where
  pub step_in_place_says : (κs : Lfts 3) (args : Args step_in_place.signature κs) (answer : Answer) (end : AtExit step_in_place.ended κs)
      → (step_in_place.clauses 𝓛 mem run κs args).ensures tt answer end
      ≡ fact 𝓤 (StepsInPlace args.0.now args.1.0 args.1.1.0.now args.1.1.1.0.now args.1.1.1.1.0 answer end.0.now end.1.1.0.now end.1.1.1.0.now)
  step_in_place_says κs args answer end = refl

-- the answer, the bus that was lent, and the two stores
pub step_in_place_unique : (bus : Bus) (entry : Verdict) (array security : List ℕ) (word : ℕ) (x y : Answer) (bus_x bus_y : Bus) (array_x array_y security_x security_y : List ℕ)
    → StepsInPlace bus entry array security word x bus_x array_x security_x
    → StepsInPlace bus entry array security word y bus_y array_y security_y
    → (x ≡ y) × (bus_x ≡ bus_y) × (array_x ≡ array_y) × (security_x ≡ security_y)
step_in_place_unique bus entry array security word x y bus_x bus_y array_x array_y security_x security_y one other =
    (ap (λ (o : Outcome). o.0.answer) (same one other), ap (λ (o : Outcome). o.0.bus) (same one other), ap (λ (o : Outcome). o.1) (same one other), ap (λ (o : Outcome). o.2) (same one other))
