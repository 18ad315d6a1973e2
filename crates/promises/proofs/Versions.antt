-- Ours goes event by event: the first n events look at no later one. The version that plays the whole list at its first event ends as ours
-- does, for no event touches the answers behind the list's; but it does not go event by event, by an example, computed.
use Prim.Native.Nat.{ℕ, ◌≤◌}
use native.Mathlib.Omega.{arith}
use mathlib.Core.Bool.{Bool, false≢true}
use mathlib.Core.List.{List, [], ◌∷◌}
use mathlib.Core.Path.{◌≡◌, ◌∙◌, refl, sym, ap}
use lib.ListN.{length, take, drop, replicate, take-append-drop}
use lib.Seq.{drop-set-lt, get_or-take, length-take-le}
use Rattle.base.specs.Fold.{up_to}
use Rattle.base.proofs.Fold.{up_same, up_end, up_keeps_below}
use Rattle.parts.specs.Part.{geometry_of}
use Rattle.chip.specs.Chip as chip
use Rattle.refusal.specs.Verdict.{Verdict}
use Rattle.std.specs.Prelude.{Ok}
use Rattle.refusal.specs.Checks.{first_of}
use Rattle.board.specs.declared.Place.{Place}
use Rattle.board.specs.Place.{nowhere}
use Rattle.decode.specs.Decode.{addressed_of}
use Rattle.lineup.specs.Chips.{control_at, places_of}
use Rattle.line.specs.Line.{play}
use Rattle.bus.specs.declared.Bus.{Bus}
use Rattle.bus.specs.Setup.{set_up}
use Rattle.bus.specs.Step.{entry_checks, played, event}
use Rattle.bus.specs.Run.{Progress, run_event, run_up_to, run}
use Rattle.promises.specs.Versions.{all_at_once, our_version, EventByEvent}
use Rattle.promises.proofs.Setup.{set_up_is_well_formed}
use Rattle.promises.proofs.Runs.{passed_run, run_passes}

pub ours_goes_event_by_event : EventByEvent our_version
unfolding run_up_to
ours_goes_event_by_event bus array security events answers n passed within =
    let whole = passed_run bus array security events answers passed in
    let short : length (take n events) ≡ n = length-take-le n events within in
    let room : length (take n events) ≤ length answers = omega (arith, short, whole.room) in
    let part = passed_run bus array security (take n events) answers (run_passes bus array security (take n events) answers whole.enters room) in
    up_end (run_event (take n events)) _ (sym short)
    (up_same (run_event events) (run_event (take n events)) n (λ i progress below. rw (get_or-take n events i 0)) (bus, array, security, answers))
    ∙ ap (λ (ran : Verdict × Progress). ran.1) (sym part.plays)

pub all_at_once_ends_alike : (events : List ℕ) (progress : Progress) → all_at_once events (length events) progress ≡ run_up_to events (length events) progress
unfolding run_up_to up_to
all_at_once_ends_alike [] progress = refl
all_at_once_ends_alike (word ∷ more) progress =
    let events = word ∷ more in
    let end : Progress = run_up_to events (length events) progress in
    let behind : drop (length events) end.3 ≡ drop (length events) progress.3 =
    up_keeps_below (run_event events) (λ (now : Progress). drop (length events) now.3 ≡ drop (length events) progress.3) (length events) (λ i now below same. drop-set-lt (length events) now.3 i _ below ∙ same) progress refl in
    ap (λ (answers : List ℕ). (end.0, end.1, end.2, answers)) (rw (← behind) (take-append-drop (length events) end.3))

-- a 24CS32 alone on the line, whose WP goes high and then low
abbrev board : List Place
board = record { part = 2; strap = 0 } ∷ nowhere ∷ nowhere ∷ nowhere ∷ []

abbrev array : List ℕ
array = replicate 4096 0xFF

abbrev security : List ℕ
security = replicate 64 0xFF

abbrev bus : Bus
bus = (set_up 1 board array security).bus

abbrev events : List ℕ
events = 0x0600 ∷ 0x0500 ∷ []

abbrev answers : List ℕ
answers = 0 ∷ 0 ∷ []

enters : first_of (entry_checks bus array security) ≡ Ok tt
unfolding set_up up_to geometry_of
enters = set_up_is_well_formed 1 board array security refl

passes : (run bus array security events answers).0 ≡ Ok tt
passes = run_passes bus array security events answers enters (omega arith)

abbrev wp_of : Progress → Bool
wp_of progress = (control_at progress.0.chips 0).wp

-- after its first event WP is high, and at the end low
pub all_at_once_is_shut_out : EventByEvent all_at_once → ⊥
unfolding set_up run_up_to up_to geometry_of event played play chip.step addressed_of places_of
all_at_once_is_shut_out demand =
    let same = demand bus array security events answers 1 passes (omega arith) ∙ sym (ours_goes_event_by_event bus array security events answers 1 passes (omega arith)) in
    false≢true (ap wp_of same)
