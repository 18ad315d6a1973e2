-- The kinds of event by their numbers.
use Rattle.std.specs.Prelude.{ℕ, true, false, Result, MatchResult, ◌≡◌}
use Rattle.refusal.specs.declared.Refusal.{Refusal}
use Rattle.refusal.specs.declared.Refusal.TheVariants.{UnknownKind}
use Rattle.decode.specs.declared.Kind.{Kind}
use Rattle.decode.specs.declared.Kind.TheVariants.{Start, Stop, Send, Read, WpLow, WpHigh, CycleOver, PowerUp}
use Rattle.decode.specs.Decode.{unknown_kind}

-- | 01 Start | 02 Stop | 03 host sends a byte | 04 host reads one | 05, 06 WP low, high | 07 write cycle over | 08 power up |
abbrev pub number_of : Kind → ℕ
number_of Start = 1
number_of Stop = 2
number_of Send = 3
number_of Read = 4
number_of WpLow = 5
number_of WpHigh = 6
number_of CycleOver = 7
number_of PowerUp = 8

-- the kind with a number, or that there is none
abbrev pub Numbers : ℕ → Result Kind Refusal → Type 0
Numbers n named =
    MatchResult named (λ kind. (unknown_kind n ≡ false) × (number_of kind ≡ n)) (λ refusal. (unknown_kind n ≡ true) × (refusal ≡ UnknownKind))
