-- Well formed allows states that no list of events leads to from set-up. That events keep these too is no empty promise: here are
-- some of them, each answered and not refused, computed. And what becomes of the second (D40). Beside them the other side of 10: chips out of step
-- with the Start that is remembered, and a chip that sends its ID from past its end.
use Prim.Native.Nat.{ℕ}
use mathlib.Core.Bool.{Bool, true, false}
use mathlib.Core.List.{List, [], ◌∷◌, map}
use mathlib.Core.Path.{◌≡◌, refl}
use lib.ListN.{replicate}
use Rattle.base.specs.Fold.{up_to}
use Rattle.parts.specs.Part.{geometry_of}
use Rattle.load.specs.Span.{empty_span}
use Rattle.load.specs.Load.{no_values}
use Rattle.control.specs.declared.Control.{Control}
use Rattle.control.specs.declared.Answered.{Answered}
use Rattle.control.specs.declared.phase.Phase.TheVariants.{Busy, AwaitsAddress, AwaitsChoice, TakesData, SendsByte}
use Rattle.control.specs.declared.phase.Data.TheVariants.{ToArray, ToLock}
use Rattle.control.specs.declared.phase.Source.TheVariants.{FromArray, FromId}
use Rattle.control.specs.Control.{fresh, in_phase, choosing, idlocked_now}
use Rattle.addressing.specs.Address.{take_choice}
use Rattle.addressing.proofs.Laws.{choice_either}
use Rattle.sending.specs.Sending.{read}
use Rattle.chip.specs.declared.Chip.{Chip}
use Rattle.chip.specs.Chip as chip
use Rattle.wellformed.specs.Wellformed as alone
use Rattle.board.specs.Board.{board_verdict}
use Rattle.decode.specs.Decode.{addressed_of}
use Rattle.lineup.specs.Chips.{places_of}
use Rattle.lineup.specs.Wellformed.{well_formed}
use Rattle.line.specs.Line.{play}
use Rattle.bus.specs.Setup.{empty_chip}
use Rattle.bus.specs.Step.{bus_with, played, event, step}
use Rattle.promises.specs.Playing.{answer_to}

abbrev with_load : Control → Chip
with_load c = record { control = c; span = empty_span }

-- two 24CS32 at straps 0 and 1
abbrev line : (Control → Control) → (Control → Control) → List Chip
line one two = with_load (one (fresh 2 0)) ∷ with_load (two (fresh 2 1)) ∷ empty_chip ∷ empty_chip ∷ []

abbrev same : Control → Control
same c = c

-- a Start that is remembered or none, and the chips of two places
abbrev State : Type 0
State = Bool × List Chip

pub odd : List State
odd =
    -- a chosen chip that takes data
    (false, line (λ c. in_phase (TakesData ToArray) (choosing true c)) same)
    -- chosen, and awaiting the byte after F8h
    ∷ (false, line (λ c. in_phase AwaitsChoice (choosing true c)) same)
    -- taking lock data on a locked page
    ∷ (false, line (λ c. in_phase (TakesData (ToLock true)) (idlocked_now c)) same)
    -- a Start remembered with all busy, and with all on standby: these two arise, by a Start to busy chips and by 07 after it
    ∷ (true, line (in_phase Busy) (in_phase Busy))
    ∷ (true, line same same)
    ∷ []

-- not well formed (request E8)
pub out_of_step : List State
out_of_step =
    -- an address byte awaited with no Start remembered
    (false, line (in_phase AwaitsAddress) (in_phase AwaitsAddress))
    -- a Start remembered beside a chip that sends, and beside one that awaits the byte after F8h
    ∷ (true, line (in_phase (SendsByte FromArray)) same)
    ∷ (true, line (in_phase AwaitsChoice) same)
    -- one awaits an address byte while another awaits the byte after F8h, whatever is remembered
    ∷ (true, line (in_phase AwaitsAddress) (in_phase AwaitsChoice))
    ∷ (false, line (in_phase AwaitsAddress) (in_phase AwaitsChoice))
    ∷ []

-- the answer to an event, of two chips with stores that fit
abbrev answered : ℕ → State → ℕ
answered word (started, chips) = answer_to step (bus_with 2 started chips no_values, replicate 8192 0xFF, replicate 128 0xFF) word

pub odd_ones_are_well_formed : map (answered 0x0100) odd ≡ replicate 5 0x0000
unfolding odd step event played play addressed_of well_formed board_verdict places_of up_to alone.well_formed geometry_of chip.step
odd_ones_are_well_formed = refl

pub out_of_step_is_refused : map (answered 0x0100) out_of_step ≡ replicate 5 0x0A00
unfolding out_of_step step event played play addressed_of well_formed board_verdict places_of up_to alone.well_formed geometry_of chip.step
out_of_step_is_refused = refl

-- what is remembered is asked of the chips below the count alone: here of one, while the place behind it awaits an address byte
pub past_the_count_is_not_asked : well_formed 1 false (line same (in_phase AwaitsAddress)) ≡ true
unfolding well_formed board_verdict places_of up_to alone.well_formed geometry_of
past_the_count_is_not_asked = refl

-- one sends its ID from a place on, and the host reads: from the last place that is its third byte, from the place past it 10 (request E5)
pub past_the_id_is_refused : map (λ (place : ℕ). answered 0x0400 (false, line (in_phase (SendsByte (FromId place))) same)) (2 ∷ 3 ∷ []) ≡ 0x00A8 ∷ 0x0A00 ∷ []
unfolding step event played play addressed_of well_formed board_verdict places_of up_to alone.well_formed geometry_of chip.step read
past_the_id_is_refused = refl

-- the second: the byte after F8h is no address byte, so a choice outlives it, whatever byte it is
pub choice_outlives_the_byte_after_f8 : (c : Control) (byte : ℕ) → c.chosen ≡ true → (take_choice c byte).control.chosen ≡ true
choice_outlives_the_byte_after_f8 c byte chosen = choice_either c byte (λ (x : Answered). x.control.chosen ≡ true) refl chosen
