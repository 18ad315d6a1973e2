-- What demand 3 supposes can be met: a board of mixed parts, a list of turns on it with much of what a turn may hold, and a shuffle of
-- the list. On a smaller board the answers are computed, refusals 8 and 12 and reply 02 among them.
use Prim.Native.Nat.{ℕ, zero, suc, ◌+◌, ◌<◌, ◌≤◌, ◌^◌}
use native.Mathlib.Omega.{arith}
use mathlib.Core.Bool.{Bool, true, false}
use mathlib.Core.List.{List, [], ◌∷◌}
use mathlib.Core.Path.{◌≡◌, ◌∙◌, refl, sym, ap, subst}
use lib.ListN.{length, replicate, get_or-replicate, length-replicate}
use lib.Dec.{lit<}
use lib.Seq.{ext_get_or}
use borrow.Author.Tests.{ne_eqb}
use Rattle.base.specs.Fold.{up_to}
use Rattle.base.specs.Store.{span}
use Rattle.base.proofs.Store.{span_length, span_at}
use Rattle.parts.specs.Part.{geometry_of}
use Rattle.load.specs.Span.{empty_span}
use Rattle.load.specs.Load.{no_values}
use Rattle.control.specs.declared.Control.{Control}
use Rattle.control.specs.declared.phase.Phase.TheVariants.{Standby, Busy}
use Rattle.control.specs.Control.{fresh, in_phase, wp_at}
use Rattle.chip.specs.declared.Chip.{Chip}
use Rattle.wellformed.specs.Wellformed as one_chip
use Rattle.board.specs.Board.{board_verdict}
use Rattle.lineup.specs.Chips.{places_of}
use Rattle.lineup.specs.Wellformed.{well_formed}
use Rattle.bus.specs.declared.Bus.{Bus}
use Rattle.bus.specs.Setup.{empty_chip}
use Rattle.bus.specs.Step.{bus_with, event, step}
use Rattle.bus.proofs.Typed.{OfItsType, bus_typed}
use Rattle.promises.specs.Playing.{World, answers_to}
use Rattle.turns.specs.Idle.{is_idle}
use Rattle.turns.specs.Turn.{Turn}
use Rattle.turns.specs.Shuffle.{events_of, answers_of, answer_of, turn_of, is_excepted, Shuffle}
use Rattle.turns.specs.Alone.{only_bus, alone, own_turns}
use Rattle.turns.specs.Playing.{ending}
use Rattle.turns.specs.Benches.{our_bench}
use Rattle.turns.specs.Undisturbed.{Ready, Turns, Alike, acknowledge}
use Rattle.turns.proofs.Entering.{Entering, Idling, idling}
use Rattle.turns.proofs.OneTurn.{alone_idles}
use Rattle.turns.proofs.Typed.{ControlTyped, standby_typed, busy_typed, fresh_typed, unloaded_typed, empty_typed, no_values_typed}
use Rattle.turns.proofs.Undisturbed.{undisturbed}
use Rattle.turns.proofs.Computing.{event_by_event, computed, computed_answer, none, none_keeps}

-- up to three chips, none of which holds a load, on a line that remembers a Start or none
abbrev without_load : Control → Chip
without_load c = record { control = c; span = empty_span }

abbrev line : ℕ → Bool → Control → Control → Control → Bus
line count started one two three = bus_with count started (without_load one ∷ without_load two ∷ without_load three ∷ empty_chip ∷ []) no_values

abbrev pub busy : Control → Control
busy c = in_phase Busy c

-- a fresh chip is a value of its type, and so is one that is busy or whose WP is high
free_typed : (part strap : ℕ) → part < 256 → strap < 256 → ControlTyped (fresh part strap)
free_typed part strap fits fits' = fresh_typed part strap fits fits' false Standby standby_typed

cycling_typed : (part strap : ℕ) → part < 256 → strap < 256 → ControlTyped (busy (fresh part strap))
cycling_typed part strap fits fits' = fresh_typed part strap fits fits' false Busy busy_typed

line_is_typed : (count : ℕ) → count < 2 ^ 64 → (started : Bool) (one two three : Control) → ControlTyped one → ControlTyped two → ControlTyped three
    → OfItsType (line count started one two three)
line_is_typed count fits started one two three first second third =
    bus_typed count started _ no_values fits refl (unloaded_typed one first, (unloaded_typed two second, (unloaded_typed three third, (empty_typed, tt)))) no_values_typed

-- a 24CSM01 at strap 1, a 24CS32 at strap 0 that is busy, and a 24CS32 at strap 5 that is protected, with EWPM 0 and WP high
abbrev pub mixed : Bus
mixed = line 3 false (fresh 1 1) (busy (fresh 2 0)) (wp_at true (fresh 2 5))

-- the bytes of each store
abbrev arrays : ℕ
arrays = 131072 + 4096 + 4096

abbrev securities : ℕ
securities = 512 + 64 + 64

pub board : World
board = (mixed, replicate arrays 0xFF, replicate securities 0xFF)

mixed_is_ready : (array security : List ℕ) → length array ≡ arrays → length security ≡ securities → Ready (mixed, array, security)
unfolding well_formed board_verdict places_of up_to one_chip.well_formed geometry_of is_idle
mixed_is_ready array security long short = record { enters = rw (long, short); idle = refl }

pub board_is_ready : Ready board
unfolding board
board_is_ready = mixed_is_ready (replicate arrays 0xFF) (replicate securities 0xFF) (length-replicate {A = ℕ} arrays 0xFF) (length-replicate {A = ℕ} securities 0xFF)

pub board_is_typed : OfItsType board.0
unfolding board
board_is_typed =
    line_is_typed 3 (lit< tt) false _ _ _ (free_typed 1 1 (lit< tt) (lit< tt)) (cycling_typed 2 0 (lit< tt) (lit< tt)) (fresh_typed 2 5 (lit< tt) (lit< tt) true Standby standby_typed)

abbrev pub of : ℕ → List ℕ → Turn
of chip events = record { chip = chip; events = events }

abbrev identifies : Turn
identifies = of 0 (0x0100 ∷ 0x03F8 ∷ 0x03A4 ∷ 0x0100 ∷ 0x03F9 ∷ 0x0400 ∷ 0x0400 ∷ 0x0401 ∷ 0x0200 ∷ [])

-- a byte is sent while the chip sends: refusal 8
abbrev clashes : Turn
clashes = of 0 (0x0100 ∷ 0x03A5 ∷ 0x0300 ∷ 0x0200 ∷ [])

-- a busy chip is asked
abbrev polls : Turn
polls = of 1 (0x0100 ∷ 0x03A0 ∷ 0x0200 ∷ [])

abbrev cycle_ends : Turn
cycle_ends = of 1 (0x0701 ∷ [])

abbrev reads : Turn
reads = of 1 (0x0100 ∷ 0x03A1 ∷ 0x0401 ∷ 0x0200 ∷ [])

abbrev writes : Turn
writes = of 2 (0x0100 ∷ 0x03AA ∷ 0x0300 ∷ 0x0300 ∷ 0x0377 ∷ 0x0200 ∷ [])

abbrev wp_goes_low : Turn
wp_goes_low = of 2 (0x0502 ∷ [])

pub turns : List Turn
turns = identifies ∷ writes ∷ polls ∷ cycle_ends ∷ reads ∷ wp_goes_low ∷ clashes ∷ []

pub others : List Turn
others = polls ∷ writes ∷ cycle_ends ∷ wp_goes_low ∷ identifies ∷ clashes ∷ reads ∷ []

pub turns_are_turns : Turns board turns
unfolding board turns event_by_event
turns_are_turns = refl

pub others_are_a_shuffle : Shuffle turns others
unfolding turns others event_by_event
others_are_a_shuffle zero = refl
others_are_a_shuffle (suc zero) = refl
others_are_a_shuffle (suc (suc zero)) = refl
others_are_a_shuffle (suc (suc (suc k))) =
    rw (ne_eqb 0 (suc (suc (suc k))) (omega arith), ne_eqb 1 (suc (suc (suc k))) (omega arith), ne_eqb 2 (suc (suc (suc k))) (omega arith))

-- so the demand speaks of them
pub board_is_undisturbed : Alike turns others (ending our_bench board turns) (ending our_bench board others)
board_is_undisturbed = undisturbed.shuffled board turns others board_is_typed board_is_ready turns_are_turns others_are_a_shuffle

-- part of a store that holds one byte throughout
cut_replicate : (at n m x : ℕ) → at + n ≤ m → span at n (replicate m x) ≡ replicate n x
cut_replicate at n m x fits =
    let long : length (replicate m x) ≡ m = length-replicate m x in
    let short : length (span at n (replicate m x)) ≡ n = span_length at n (replicate m x) (omega (arith, long, fits)) in
    ext_get_or 0 _ _ (short ∙ sym (length-replicate n x)) λ i below.
    let inside : i < n = omega (arith, below, short) in
    span_at at n (replicate m x) i 0 inside ∙ get_or-replicate m (at + i) x 0 (omega arith) ∙ sym (get_or-replicate n i x 0 inside)

-- what the busy chip answers there is what it answers alone, where it has 4,096 bytes and not 139,264
abbrev busy_one : List ℕ → List ℕ → World
busy_one array security = (only_bus false (without_load (busy (fresh 2 0))) no_values, array, security)

alone_is : alone 1 board ≡ busy_one (replicate 4096 0xFF) (replicate 64 0xFF)
unfolding board places_of up_to geometry_of
alone_is =
    ap (λ (array : List ℕ). busy_one array (span 512 64 (replicate securities 0xFF))) (cut_replicate 131072 4096 arrays 0xFF (omega arith))
    ∙ ap (busy_one (replicate 4096 0xFF)) (cut_replicate 512 64 securities 0xFF (omega arith))

on_board : 1 < board.0.count
unfolding board
on_board = omega arith

remembers_none : board.0.started ≡ false
unfolding board
remembers_none = refl

-- the answer to event i of its j-th turn
abbrev answer_of_busy : ℕ → ℕ → ℕ
answer_of_busy j i = answer_of 1 turns (ending our_bench board turns).1 j i

-- polled it says that it is busy; its cycle over, it acknowledges and sends FFh
pub busy_chip_answers : (answer_of_busy 0 1 ≡ 0x0002) × (answer_of_busy 2 1 ≡ 0x0001) × (answer_of_busy 2 2 ≡ 0x00FF)
unfolding turns event_by_event
busy_chip_answers = (answer 0 1 refl, answer 2 1 refl, answer 2 2 refl)
  where
    own : World
    own = busy_one (replicate 4096 0xFF) (replicate 64 0xFF)

    enters : Entering own
    enters = subst Entering alone_is (alone_idles board (idling board_is_typed board_is_ready remembers_none) 1 on_board).entering

    answer : (j i : ℕ) → is_excepted (turn_of 1 turns j) i ≡ false → answer_of_busy j i ≡ answer_of 0 (own_turns 1 turns) (answers_to event own (events_of (own_turns 1 turns))) j i
    answer j i usual =
        (undisturbed.by_itself board turns board_is_typed board_is_ready turns_are_turns 1 on_board).answers j i usual
        ∙ ap (λ (world : World). answer_of 0 (own_turns 1 turns) (answers_to step world (events_of (own_turns 1 turns))) j i) alone_is
        ∙ computed_answer none none_keeps own enters 0 (own_turns 1 turns) j i

-- two 24CS32 at straps 0 and 1, with 5Ah at 000h of the first and FFh elsewhere
abbrev pair_with : Bool → (Control → Control) → (Control → Control) → World
pair_with started one two = (line 2 started (one (fresh 2 0)) (two (fresh 2 1)) (fresh 0 0), 0x5A ∷ replicate 8191 0xFF, replicate 128 0xFF)

abbrev pub pair : (Control → Control) → (Control → Control) → World
pair = pair_with false

abbrev pub free : Control → Control
free c = c

pub pairs_are_ready : Ready (pair free free) × Ready (pair busy free) × Ready (pair busy busy)
unfolding well_formed board_verdict places_of up_to one_chip.well_formed geometry_of is_idle
pairs_are_ready = (
  record { enters = refl; idle = refl },
  record { enters = refl; idle = refl },
  record { enters = refl; idle = refl },
)

pub pairs_are_typed : OfItsType (pair free free).0 × OfItsType (pair busy free).0 × OfItsType (pair busy busy).0
pairs_are_typed =
    let last = free_typed 0 0 (lit< tt) (lit< tt) in (
      line_is_typed 2 (lit< tt) false _ _ _ (free_typed 2 0 (lit< tt) (lit< tt)) (free_typed 2 1 (lit< tt) (lit< tt)) last,
      line_is_typed 2 (lit< tt) false _ _ _ (cycling_typed 2 0 (lit< tt) (lit< tt)) (free_typed 2 1 (lit< tt) (lit< tt)) last,
      line_is_typed 2 (lit< tt) false _ _ _ (cycling_typed 2 0 (lit< tt) (lit< tt)) (cycling_typed 2 1 (lit< tt) (lit< tt)) last,
    )

-- both together, and the first chip of the second pair alone
pub pairs_idle : Idling (pair free free) × Idling (pair busy free) × Idling (pair busy busy) × Idling (alone 0 (pair busy free))
pairs_idle =
    let second = idling pairs_are_typed.1 pairs_are_ready.1 refl in
    (idling pairs_are_typed.0 pairs_are_ready.0 refl, second, idling pairs_are_typed.2 pairs_are_ready.2 refl, alone_idles (pair busy free) second 0 (omega arith))

-- the first reads the byte at its counter
abbrev pub first_reads : Turn
first_reads = of 0 (0x0100 ∷ 0x03A1 ∷ 0x0401 ∷ 0x0200 ∷ [])

-- so does the second, after a byte that is sent to it: refusal 8
abbrev second_clashes : Turn
second_clashes = of 1 (0x0100 ∷ 0x03A3 ∷ 0x0300 ∷ 0x0401 ∷ 0x0200 ∷ [])

-- the answers to the turns of each
abbrev to_each : List Turn → List ℕ → List (List ℕ) × List (List ℕ)
to_each list answers = (answers_of 0 list answers, answers_of 1 list answers)

by_events : (world : World) → Entering world → (list : List Turn) → to_each list (answers_to step world (events_of list)) ≡ to_each list (answers_to event world (events_of list))
by_events world e list = ap (to_each list) (computed none none_keeps world e (events_of list)).1

abbrev Answered : List Turn → Type 0
Answered list =
    to_each list (answers_to step (pair free free) (events_of list))
    ≡ ((0x0000 ∷ 0x0001 ∷ 0x005A ∷ 0x0000 ∷ []) ∷ [], (0x0000 ∷ 0x0001 ∷ 0x0800 ∷ 0x00FF ∷ 0x0000 ∷ []) ∷ [])

pub answers_in_both_orders : Answered (first_reads ∷ second_clashes ∷ []) × Answered (second_clashes ∷ first_reads ∷ [])
unfolding event_by_event
answers_in_both_orders =
    let answers = by_events (pair free free) pairs_idle.0.entering in
    (answers (first_reads ∷ second_clashes ∷ []), answers (second_clashes ∷ first_reads ∷ []))

-- the cycle of the first is over
abbrev first_ends : Turn
first_ends = of 0 (0x0700 ∷ [])

-- cycle over at the second, which has none, by itself and amid a read: refusal 12
abbrev second_ends_none : Turn
second_ends_none = of 1 (0x0701 ∷ [])

abbrev second_reads : Turn
second_reads = of 1 (0x0100 ∷ 0x03A3 ∷ 0x0701 ∷ 0x0401 ∷ 0x0200 ∷ [])

-- while the first is busy and after it; and so is a second 07 at the first
abbrev Refuses : List Turn → Type 0
Refuses list =
    Turns (pair busy free) list
    × (to_each list (answers_to step (pair busy free) (events_of list))
    ≡ ((0x0000 ∷ []) ∷ (0x0C00 ∷ []) ∷ [], (0x0C00 ∷ []) ∷ (0x0000 ∷ 0x0001 ∷ 0x0C00 ∷ 0x00FF ∷ 0x0000 ∷ []) ∷ []))

pub refused_in_both_orders : Refuses (second_ends_none ∷ second_reads ∷ first_ends ∷ first_ends ∷ []) × Refuses (first_ends ∷ second_ends_none ∷ first_ends ∷ second_reads ∷ [])
unfolding event_by_event
refused_in_both_orders =
    let answers = by_events (pair busy free) pairs_idle.1.entering in
    ((refl, answers (second_ends_none ∷ second_reads ∷ first_ends ∷ first_ends ∷ [])), (refl, answers (first_ends ∷ second_ends_none ∷ first_ends ∷ second_reads ∷ [])))

-- the first is polled, by a 1010 and by a 1011 byte, and the second reads: 02 and 01, in both orders (request E8)
abbrev first_polls : Turn
first_polls = of 0 (0x0100 ∷ 0x03A0 ∷ 0x0100 ∷ 0x03B1 ∷ 0x0200 ∷ [])

abbrev second_reads_one : Turn
second_reads_one = of 1 (0x0100 ∷ 0x03A3 ∷ 0x0401 ∷ 0x0200 ∷ [])

abbrev SaysBusy : List Turn → Type 0
SaysBusy list =
    Turns (pair busy free) list
    × (to_each list (answers_to step (pair busy free) (events_of list))
    ≡ ((0x0000 ∷ 0x0002 ∷ 0x0000 ∷ 0x0002 ∷ 0x0000 ∷ []) ∷ [], (0x0000 ∷ 0x0001 ∷ 0x00FF ∷ 0x0000 ∷ []) ∷ []))

pub busy_in_both_orders : SaysBusy (first_polls ∷ second_reads_one ∷ []) × SaysBusy (second_reads_one ∷ first_polls ∷ [])
unfolding event_by_event
busy_in_both_orders =
    let answers = by_events (pair busy free) pairs_idle.1.entering in
    ((refl, answers (first_polls ∷ second_reads_one ∷ [])), (refl, answers (second_reads_one ∷ first_polls ∷ [])))

-- a bus that remembers a Start is idle too: here both chips are busy, the cycle of the first ends, and the second is polled
pub remembering_is_ready : OfItsType (pair_with true busy busy).0 × Ready (pair_with true busy busy)
unfolding well_formed board_verdict places_of up_to one_chip.well_formed geometry_of is_idle
remembering_is_ready =
    let last = free_typed 0 0 (lit< tt) (lit< tt) in
    (line_is_typed 2 (lit< tt) true _ _ _ (cycling_typed 2 0 (lit< tt) (lit< tt)) (cycling_typed 2 1 (lit< tt) (lit< tt)) last, record { enters = refl; idle = refl })

abbrev second_polls : Turn
second_polls = of 1 (0x0100 ∷ 0x03A2 ∷ 0x0200 ∷ [])

abbrev AnsweredAsWithout : List Turn → Type 0
AnsweredAsWithout list =
    Turns (pair_with true busy busy) list
    × (to_each list (answers_to step (pair_with true busy busy) (events_of list)) ≡ ((0x0000 ∷ []) ∷ [], (0x0000 ∷ 0x0002 ∷ 0x0000 ∷ []) ∷ []))

pub remembering_in_both_orders : AnsweredAsWithout (first_ends ∷ second_polls ∷ []) × AnsweredAsWithout (second_polls ∷ first_ends ∷ [])
unfolding event_by_event
remembering_in_both_orders =
    let answers = by_events (pair_with true busy busy) (record { typed = remembering_is_ready.0; enters = remembering_is_ready.1.enters }) in
    ((refl, answers (first_ends ∷ second_polls ∷ [])), (refl, answers (second_polls ∷ first_ends ∷ [])))

-- the excepted answer on boards with an AT24CM01 (request E7): two of it; it beside a busy 24CS32; busy beside a 24CS32; both free
abbrev board_of : Control → Control → Bus
board_of first second =
    let unloaded : Control → Chip = λ c. record { control = c; span = empty_span } in
    bus_with 2 false (unloaded first ∷ unloaded second ∷ empty_chip ∷ empty_chip ∷ []) no_values

pub f8_on_mixed_boards :
    acknowledge (board_of (fresh 3 0) (fresh 3 1))
    ∷ acknowledge (board_of (fresh 3 0) (in_phase Busy (fresh 2 4)))
    ∷ acknowledge (board_of (in_phase Busy (fresh 3 0)) (fresh 2 4))
    ∷ acknowledge (board_of (fresh 3 0) (fresh 2 4))
    ∷ []
    ≡ 0x0000 ∷ 0x0000 ∷ 0x0001 ∷ 0x0001 ∷ []
unfolding up_to geometry_of
f8_on_mixed_boards = refl
