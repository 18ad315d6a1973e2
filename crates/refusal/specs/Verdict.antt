-- What an operation's checks say, and the answer to one event: its reply, or why it was refused.
use Rattle.std.specs.Prelude.{ℕ, Result}
use Rattle.refusal.specs.declared.Refusal.{Refusal}

abbrev pub Verdict : Type 0
Verdict = Result (Unit {0}) Refusal

abbrev pub Answer : Type 0
Answer = Result ℕ Refusal
