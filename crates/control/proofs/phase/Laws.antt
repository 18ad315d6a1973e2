-- What a test of a phase says of it, by the seven phases: which of them pass.
use mathlib.Core.Bool.{true, false, true≢false, false≢true}
use mathlib.Core.Path.{◌≡◌, refl}
use Rattle.control.specs.declared.phase.Phase.{Phase}
use Rattle.control.specs.declared.phase.Phase.TheVariants.{Standby, Busy, AwaitsAddress, AwaitsChoice, SendsByte}
use Rattle.control.specs.declared.phase.Source.{Source}
use Rattle.control.specs.Phase.{is_busy, is_sending, is_taking, is_awaiting, awaits_address}

pub busy_is : (phase : Phase) → is_busy phase ≡ true → phase ≡ Busy
busy_is Busy busy = refl
busy_is _ busy = absurd (false≢true busy)

pub awaits_address_is : (phase : Phase) → awaits_address phase ≡ true → phase ≡ AwaitsAddress
awaits_address_is AwaitsAddress awaits = refl
awaits_address_is _ awaits = absurd (false≢true awaits)

-- a chip that awaits a byte for any chip awaits an address byte, or the byte after F8h
pub awaiting_is : (phase : Phase) → is_awaiting phase ≡ true → (P : Phase → Type 0) → P AwaitsAddress → P AwaitsChoice → P phase
awaiting_is AwaitsAddress awaits P address choice = address
awaiting_is AwaitsChoice awaits P address choice = choice
awaiting_is _ awaits P address choice = absurd (false≢true awaits)

-- a chip that takes nothing sends, or is on standby or busy
pub not_taking_is : (phase : Phase) → is_taking phase ≡ false
    → (P : Phase → Type 0) → P Standby → P Busy → ((source : Source) → P (SendsByte source))
    → P phase
not_taking_is Standby takes P standby busy sends = standby
not_taking_is Busy takes P standby busy sends = busy
not_taking_is (SendsByte source) takes P standby busy sends = sends source
not_taking_is _ takes P standby busy sends = absurd (true≢false takes)

-- and where it sends nothing either, it is on standby or busy
pub resting_is : (phase : Phase) → is_sending phase ≡ false → is_taking phase ≡ false → (P : Phase → Type 0) → P Standby → P Busy → P phase
resting_is phase sends takes P standby busy =
    not_taking_is phase takes (λ (p : Phase). is_sending p ≡ false → P p)
    (λ silent. standby)
    (λ silent. busy)
    (λ source silent. absurd (true≢false silent))
    sends
