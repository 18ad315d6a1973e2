-- A step of a bus state that is lent: the state is moved on where it stands, and the answer comes back (paper, "The transcript").
use Rattle.std.specs.Prelude.{ℕ, List, ◌≡◌}
use Rattle.refusal.specs.Verdict.{Verdict, Answer}
use Rattle.bus.specs.Step.{step_given}
use Rattle.bus.specs.declared.Bus.{Bus}
use Rattle.bus.specs.declared.Stepped.{Stepped}

-- what a step by value hands back: the state that it leaves beside its answer
abbrev pub handed_back : Bus → Answer → Stepped
handed_back bus answer = record { bus = bus; answer = answer }

-- an event on what is lent, given what the checks at entry say, the answer to it, and what was lent as it comes back
abbrev pub StepsInPlace : Bus → Verdict → List ℕ → List ℕ → ℕ → Answer → Bus → List ℕ → List ℕ → Type 0
StepsInPlace bus entry array security word answer bus' array' security' = (handed_back bus' answer, array', security') ≡ step_given entry bus array security word
