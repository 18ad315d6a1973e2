-- Where a chip stands in an exchange (paper, "How one chip behaves").
use Rattle.std.specs.Prelude.{Bool, true, false}
use Rattle.control.specs.declared.phase.Phase.{Phase}
use Rattle.control.specs.declared.phase.Phase.TheVariants.{Standby, Busy, AwaitsAddress, AwaitsChoice, AwaitsWord, TakesData, SendsByte}

-- its write cycle is not over
abbrev pub is_busy : Phase → Bool
is_busy Standby = false
is_busy Busy = true
is_busy AwaitsAddress = false
is_busy AwaitsChoice = false
is_busy (AwaitsWord word) = false
is_busy (TakesData kind) = false
is_busy (SendsByte source) = false

-- it takes data bytes, and so may hold a load
abbrev pub takes_data : Phase → Bool
takes_data Standby = false
takes_data Busy = false
takes_data AwaitsAddress = false
takes_data AwaitsChoice = false
takes_data (AwaitsWord word) = false
takes_data (TakesData kind) = true
takes_data (SendsByte source) = false

-- it sends bytes to the host
abbrev pub is_sending : Phase → Bool
is_sending Standby = false
is_sending Busy = false
is_sending AwaitsAddress = false
is_sending AwaitsChoice = false
is_sending (AwaitsWord word) = false
is_sending (TakesData kind) = false
is_sending (SendsByte source) = true

-- it takes the host's next byte; awaiting an address byte, or the byte after F8h, counts as taking
abbrev pub is_taking : Phase → Bool
is_taking Standby = false
is_taking Busy = false
is_taking AwaitsAddress = true
is_taking AwaitsChoice = true
is_taking (AwaitsWord word) = true
is_taking (TakesData kind) = true
is_taking (SendsByte source) = false

-- it awaits a byte that may be for any chip: an address byte, or the byte after F8h
abbrev pub is_awaiting : Phase → Bool
is_awaiting Standby = false
is_awaiting Busy = false
is_awaiting AwaitsAddress = true
is_awaiting AwaitsChoice = true
is_awaiting (AwaitsWord word) = false
is_awaiting (TakesData kind) = false
is_awaiting (SendsByte source) = false

abbrev pub awaits_address : Phase → Bool
awaits_address Standby = false
awaits_address Busy = false
awaits_address AwaitsAddress = true
awaits_address AwaitsChoice = false
awaits_address (AwaitsWord word) = false
awaits_address (TakesData kind) = false
awaits_address (SendsByte source) = false
