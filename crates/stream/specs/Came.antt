-- How many bytes stand at the start of the room that was lent: those that came, or none that count.
use Rattle.std.specs.Prelude.{◌≡◌, ℕ, min, Result, Ok, Err, MatchResult}
use Rattle.stream.specs.declared.Came.{Came}
use Rattle.stream.specs.declared.Came.TheVariants.{Bytes, Nothing, Ended}

abbrev pub size_of : {E : Type 0} → Result Came E → ℕ
size_of (Ok (Bytes size)) = size
size_of (Ok Nothing) = 0
size_of (Ok Ended) = 0
size_of (Err error) = 0

-- So many bytes are those of a call's answer, as far as there is room for them; none after a failure.
abbrev pub Counts : {E : Type 0} → Result ℕ E → ℕ → ℕ → Type 0
Counts answer room size = MatchResult answer (λ n. size ≡ min n room) (λ _. size ≡ 0)
