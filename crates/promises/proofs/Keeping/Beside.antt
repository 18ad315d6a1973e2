-- Two chips stay side by side under an event that reaches both. Either both await a byte, and it makes one of them active at most; or one
-- is inert, neither active nor awaiting, and stays so but for a Start, which leaves whoever is active awaiting an address.
use Prim.Native.Nat.{ℕ, ◌/◌, ◌%◌}
use mathlib.Core.Bool.{Bool, true, false, cond, not, ◌&&◌, ◌||◌, true≢false, false≢true}
use mathlib.Core.List.{List}
use mathlib.Core.Path.{◌≡◌, ◌∙◌, refl, sym}
use lib.Dec.{eqb}
use Rattle.base.proofs.logic.Laws.{and_left, and_right, and_both, or_left, or_right, either_if}
use Rattle.parts.specs.Part.{geometry_of}
use Rattle.parts.specs.Address.{answers, share_address}
use Rattle.parts.proofs.part.Laws.{sound_of}
use Rattle.parts.proofs.address.Laws.{share_exactly_when}
use Rattle.load.specs.Load.{load_of}
use Rattle.control.specs.declared.Control.{Control}
use Rattle.control.specs.declared.Answered.{Answered}
use Rattle.control.specs.declared.phase.Phase.{Phase}
use Rattle.control.specs.declared.phase.Phase.TheVariants.{Standby, Busy}
use Rattle.control.specs.Phase.{is_busy, is_sending, is_taking, is_awaiting, awaits_address}
use Rattle.control.specs.Control.{in_phase}
use Rattle.control.proofs.phase.Laws.{busy_is, awaits_address_is, awaiting_is, resting_is}
use Rattle.addressing.specs.declared.Call.{Call}
use Rattle.addressing.specs.declared.Call.TheVariants.{HostF8, HostF9, Nobody}
use Rattle.addressing.specs.Address.{call_by_form, is_able, call_of, take_call, take_address, take_chosen, take_choice}
use Rattle.addressing.proofs.Laws.{busy_either}
use Rattle.taking.specs.Taking.{take_in, take}
use Rattle.sending.specs.Sending.{read_in, read}
use Rattle.cycle.specs.Stop.{stop_in, stop}
use Rattle.chip.specs.declared.Chip.{Chip}
use Rattle.chip.specs.declared.event.Event.{Event}
use Rattle.chip.specs.declared.event.Event.TheVariants.{Start, Stop, Sent, Read, Wp, CycleOver, PowerUp}
use Rattle.chip.specs.Chip as chip
use Rattle.wellformed.specs.Wellformed.{well_formed}
use Rattle.wellformed.specs.Beside.{is_active, not_both_active, waits_too, side_by_side}
use Rattle.promises.proofs.Keeping.Fits.{apart}

-- a test that fails
abbrev Never : Bool → Type 0
Never test = test ≡ true → ⊥

-- tests as implications, and back
unless : (a b e : Bool) → (not (a && b) || e) ≡ true → a ≡ true → b ≡ true → e ≡ true
unless a b e test one two = rw (one, two) at test

unless_not : (a b e : Bool) → (a ≡ true → b ≡ true → e ≡ true) → (not (a && b) || e) ≡ true
unless_not true true e fact = fact refl refl
unless_not true false e fact = refl
unless_not false b e fact = refl

alone : (a : Bool) → (a || false) ≡ true → a ≡ true
alone true test = refl
alone false test = test

fails : (test : Bool) → Never test → test ≡ false
fails true never = absurd (never refl)
fails false never = refl

not_both : (a b : Bool) → not (a && b) ≡ true → a ≡ true → Never b
not_both a b test one two = false≢true (rw (one, two) at test)

both_not : (a b : Bool) → (a ≡ true → Never b) → not (a && b) ≡ true
both_not a b fact = alone _ (unless_not a b false (λ one two. absurd (fact one two)))

-- what `side_by_side` tests
record Beside (c d : Control) : Type 0 where
  one : is_active c ≡ true → Never (is_active d)
  first : is_active c ≡ true → is_awaiting d.phase ≡ true → awaits_address c.phase ≡ true
  second : is_active d ≡ true → is_awaiting c.phase ≡ true → awaits_address d.phase ≡ true

beside_of : (c d : Control) → side_by_side c d ≡ true → Beside c d
beside_of c d test =
    let waits : (waits_too c d && waits_too d c) ≡ true = and_right (not_both_active c d) _ test in
    record {
      one = not_both (is_active c) (is_active d) (and_left _ _ test);
      first = unless (is_active c) _ _ (and_left _ _ waits);
      second = unless (is_active d) _ _ (and_right (waits_too c d) _ waits);
    }

of_beside : (c d : Control) → Beside c d → side_by_side c d ≡ true
of_beside c d b =
    and_both _ _ (both_not _ _ b.one) (and_both _ _ (unless_not (is_active c) _ _ b.first) (unless_not (is_active d) _ _ b.second))

swapped : {c d : Control} → Beside c d → Beside d c
swapped b = record { one = λ is other. b.one other is; first = b.second; second = b.first }

pub beside_sym : (c d : Control) → side_by_side c d ≡ true → side_by_side d c ≡ true
beside_sym c d test = of_beside d c (swapped (beside_of c d test))

-- neither active nor awaiting: beside such a chip any other may be
abbrev Inert : Control → Type 0
Inert c = Never (is_active c) × Never (is_awaiting c.phase)

inert_beside : {c d : Control} → Inert c → Beside c d
inert_beside inert =
    record { one = λ is. absurd (inert.0 is); first = λ is. absurd (inert.0 is); second = λ is waits. absurd (inert.1 waits) }

-- it is on standby or busy
rests : (c : Control) → Inert c → (P : Phase → Type 0) → P Standby → P Busy → P c.phase
rests c (quiet, unmoved) =
    let silent : Never (is_sending c.phase) = λ sends. quiet (or_right c.chosen _ (or_left _ _ sends)) in
    let waits = fails (is_awaiting c.phase) unmoved in
    let deaf : Never (is_taking c.phase) = λ takes. quiet (or_right c.chosen _ (or_right (is_sending c.phase) _ (rw (takes, waits)))) in
    resting_is c.phase (fails _ silent) (fails _ deaf)

-- beside a chip that awaits, one that does not is inert
other_inert : {c d : Control} → Beside c d → is_awaiting c.phase ≡ true → is_awaiting d.phase ≡ false → Inert d
other_inert {d = d} b waits elsewhere =
    (λ is. true≢false (rw (awaits_address_is d.phase (b.second is waits)) at elsewhere), λ is. true≢false (sym is ∙ elsewhere))

-- beside an active chip no other sends, and beside one that sends no other takes: it is inert
pub no_other_sends : (c d : Control) → side_by_side c d ≡ true → is_active c ≡ true → is_sending d.phase ≡ false
no_other_sends c d test active =
    fails _ (λ sends. (beside_of c d test).one active (or_right d.chosen _ (or_left (is_sending d.phase) _ sends)))

pub no_other_takes : (c d : Control) → side_by_side c d ≡ true → is_sending c.phase ≡ true → is_taking d.phase ≡ false
no_other_takes c d test sends =
    let b = beside_of c d test in
    let active : is_active c ≡ true = or_right c.chosen _ (or_left (is_sending c.phase) _ sends) in
    rests d (b.one active, λ waits. false≢true (rw (awaits_address_is c.phase (b.first active waits)) at sends)) (λ (phase : Phase). is_taking phase ≡ false) refl refl

-- so both await or one is inert; where an inert chip stays inert, only the case that both await is left
unless_both_await : (c d : Control) {c' d' : Control} → Beside c d → (Inert c → Inert c') → (Inert d → Inert d')
    → (is_awaiting c.phase ≡ true → is_awaiting d.phase ≡ true → Beside c' d')
    → Beside c' d'
unless_both_await c d {c'} {d'} b c_stays d_stays both = go (is_awaiting c.phase) (is_awaiting d.phase) (is_active c) refl refl refl
  where
    go : (c_waits d_waits active : Bool) → is_awaiting c.phase ≡ c_waits → is_awaiting d.phase ≡ d_waits → is_active c ≡ active → Beside c' d'
    go true true active is other now = both is other
    go true false active is other now = swapped (inert_beside (d_stays (other_inert b is other)))
    go false true active is other now = inert_beside (c_stays (other_inert (swapped b) other is))
    go false false true is other now = swapped (inert_beside (d_stays (b.one now, λ waits. true≢false (sym waits ∙ other))))
    go false false false is other now = inert_beside (c_stays (λ active. true≢false (sym active ∙ now), λ waits. true≢false (sym waits ∙ is)))

-- a chosen chip is active in every phase
chosen_active : (c : Control) → (c.chosen || false) ≡ true → is_active c ≡ true
chosen_active c is = or_left c.chosen _ (alone _ is)

-- a busy chip is not chosen, so it is inert
busy_inert : (c : Chip) → well_formed c ≡ true → is_busy c.control.phase ≡ true → Inert c.control
unfolding well_formed
busy_inert c formed busy =
    let is : c.control.phase ≡ Busy = busy_is c.control.phase busy in
    let unchosen : Never c.control.chosen = not_both _ _ (apart c.control (and_left _ _ formed)).busy busy in
    (λ active. unchosen (alone _ (rw is at active)), rw is false≢true)

-- Start: whoever is active after it was so before, and awaits an address
abbrev Steady : Control → Control → Type 0
Steady c after = (is_active after ≡ true → is_active c ≡ true) × (is_active after ≡ true → awaits_address after.phase ≡ true)

start_steady : (c : Chip) → well_formed c ≡ true → Steady c.control (chip.start c).control
start_steady c formed =
    either_if (λ (x : Chip). Steady c.control x.control) (is_busy c.control.phase) c _
    (λ busy. (λ is. is, λ is. absurd ((busy_inert c formed busy).0 is)))
    (chosen_active c.control, λ is. refl)

both_steady : {c d c' d' : Control} → Beside c d → Steady c c' → Steady d d' → Beside c' d'
both_steady b p q =
    record { one = λ is other. b.one (p.0 is) (q.0 other); first = λ is waits. p.1 is; second = λ is waits. q.1 is }

-- a byte that a chip awaits, by the call that it is for that chip: F8h leaves it not chosen, after F9h it awaits nothing and is active
-- only if it was, and a byte for nobody makes it inert
record Hears (c : Control) (after : Call → Control) : Type 0 where
  choice : Never (is_active (after HostF8))
  identity : Never (is_awaiting (after HostF9).phase)
  chosen : is_active (after HostF9) ≡ true → is_active c ≡ true
  nobody : Inert (after Nobody)

address_hears : (c : Control) → Hears c (λ call. (take_call call c).control)
address_hears c =
    record {
      choice = false≢true;
      identity = either_if (λ (x : Answered). Never (is_awaiting x.control.phase)) c.chosen _ _ (λ picked. false≢true) false≢true;
      chosen =
          either_if (λ (x : Answered). is_active x.control ≡ true → is_active c ≡ true) c.chosen _ _
          (λ picked is. or_left _ _ picked)
          (chosen_active c);
      nobody = (false≢true, false≢true);
    }

choice_hears : (c : Control) → Never (is_active c) → Hears c (λ call. (take_chosen call c).control)
choice_hears c quiet =
    let inert : Inert (in_phase Standby c) = (λ is. quiet (chosen_active c is), false≢true) in
    record { choice = inert.0; identity = inert.1; chosen = λ is. absurd (inert.0 is); nobody = inert }

-- the call that a byte is for a chip: what it asks by its form, whether the part is able to do that, and whether the chip answers the code in it
abbrev called : Control → ℕ → Call
called c byte = call_of (geometry_of c.part) c.strap byte

abbrev asked : Control → ℕ → Call
asked c byte = call_by_form (geometry_of c.part) c.strap byte

abbrev able : Control → ℕ → Bool
able c byte = is_able (geometry_of c.part) (asked c byte)

abbrev answered : Control → ℕ → Bool
answered c byte = answers (geometry_of c.part) c.strap (byte / 2 % 8)

-- beside another that awaits, an active chip awaits an address
listens : (c : Control) (first : Bool) (byte : ℕ) (P : Control → Type 0) → is_awaiting c.phase ≡ true → (is_active c ≡ true → awaits_address c.phase ≡ true)
    → ((after : Call → Control) → Hears c after → P (after (called c byte)))
    → P (take_in c.phase c first byte).control
unfolding take_address take_choice
listens c first byte P waits settled all =
    awaiting_is c.phase waits (λ (phase : Phase). (is_active c ≡ true → awaits_address phase ≡ true) → P (take_in phase c first byte).control)
    (λ address. all _ (address_hears c))
    (λ address. all _ (choice_hears c (λ is. false≢true (address is))))
    settled

-- F8h and F9h ask both chips the same, and no other byte is for both; what a part is not able to do is asked of nobody
module _ (c d : Control) (b : Beside c d) (for_c for_d : Call → Control) (p : Hears c for_c) (q : Hears d for_d) where
  by_tests : (f8 f9 mine yours : Bool) (x y : Call) → (mine ≡ true → Never yours)
      → Beside (for_c (cond f8 HostF8 (cond f9 HostF9 (cond mine x Nobody)))) (for_d (cond f8 HostF8 (cond f9 HostF9 (cond yours y Nobody))))
  by_tests true f9 mine yours x y one =
      record { one = λ is. absurd (p.choice is); first = λ is. absurd (p.choice is); second = λ is. absurd (q.choice is) }
  by_tests false true mine yours x y one =
      record {
        one = λ is other. b.one (p.chosen is) (q.chosen other);
        first = λ is waits. absurd (q.identity waits);
        second = λ is waits. absurd (p.identity waits);
      }
  by_tests false false true true x y one = absurd (one refl refl)
  by_tests false false true false x y one = swapped (inert_beside q.nobody)
  by_tests false false false yours x y one = inert_beside p.nobody

  if_able_lem : (mine yours : Bool) (x y : Call) → Beside (for_c x) (for_d y) → Beside (for_c (cond mine x Nobody)) (for_d (cond yours y Nobody))
  if_able_lem true true x y asked = asked
  if_able_lem true false x y asked = swapped (inert_beside q.nobody)
  if_able_lem false yours x y asked = inert_beside p.nobody

abbrev Unshared : Control → Control → Type 0
Unshared c d = share_address (geometry_of c.part) c.strap (geometry_of d.part) d.strap ≡ false

both_hear : (c d : Control) (first : Bool) (byte : ℕ) → Unshared c d → Beside c d → is_awaiting c.phase ≡ true → is_awaiting d.phase ≡ true → Beside (take_in c.phase c first byte).control (take_in d.phase d first byte).control
unfolding call_of call_by_form
both_hear c d first byte unshared b is other =
    let shared = (share_exactly_when _ c.strap _ d.strap (sound_of c.part) (sound_of d.part)).1 in
    listens c first byte (λ (x : Control). Beside x (take_in d.phase d first byte).control) is (λ active. b.first active other) λ for_c p.
    listens d first byte (λ (y : Control). Beside (for_c (called c byte)) y) other (λ active. b.second active is) λ for_d q.
    if_able_lem c d b for_c for_d p q (able c byte) (able d byte) (asked c byte) (asked d byte)
    (by_tests c d b for_c for_d p q (eqb byte 0xF8) (eqb byte 0xF9) (answered c byte) (answered d byte) _ _
    (λ mine yours. false≢true (sym unshared ∙ shared (byte / 2 % 8, (mine, yours)))))

-- an inert chip takes no notice of a byte, and one that awaits none of a read
take_inert : (c : Control) (first : Bool) (byte : ℕ) → Inert c → Inert (take_in c.phase c first byte).control
take_inert c first byte inert =
    rests c inert (λ (phase : Phase). Inert (take_in phase c first byte).control) inert
    (busy_either c first byte (λ (x : Answered). Inert x.control) inert inert)

read_inert : (c : Control) (array security : List ℕ) (nack : Bool) → Inert c → Inert (read_in c.phase c array security nack).control
read_inert c array security nack inert = rests c inert (λ (phase : Phase). Inert (read_in phase c array security nack).control) inert inert

read_awaiting : (c : Control) (array security : List ℕ) (nack : Bool) → is_awaiting c.phase ≡ true → (read_in c.phase c array security nack).control ≡ c
read_awaiting c array security nack waits = awaiting_is c.phase waits (λ (phase : Phase). (read_in phase c array security nack).control ≡ c) refl refl

-- Stop
module _ (c : Chip) (values array security : List ℕ) (formed : well_formed c ≡ true) where
  abbrev Ends : Phase → Type 0
  Ends phase = Inert (stop_in phase c.control (load_of c.span values) array security).0

  stop_inert : Ends c.control.phase → Inert (chip.stop c values array security).0.control
  unfolding stop
  stop_inert ends =
      either_if (λ (x : Chip × List ℕ × List ℕ). Inert x.0.control) (is_busy c.control.phase) (c, array, security) _ (busy_inert c formed) ends

  inert_stops : Inert c.control → Inert (chip.stop c values array security).0.control
  inert_stops inert = stop_inert (rests c.control inert Ends (false≢true, false≢true) inert)

  awaiting_stops : is_awaiting c.control.phase ≡ true → Inert (chip.stop c values array security).0.control
  awaiting_stops waits = stop_inert (awaiting_is c.control.phase waits Ends (false≢true, false≢true) (false≢true, false≢true))

-- the end of a cycle: a busy chip awaits nothing, and on standby it is active only where chosen
over_beside : (c : Chip) (d : Control) → Beside c.control d → Beside (chip.cycle_over c).control d
over_beside c d b =
    either_if (λ (x : Chip). Beside x.control d) (is_busy c.control.phase) _ c (λ busy. over (busy_is c.control.phase busy)) b
  where
    over : c.control.phase ≡ Busy → Beside (in_phase Standby c.control) d
    over is =
        record {
          one = λ active. b.one (chosen_active c.control active);
          first = λ active waits. rw is at (b.first (chosen_active c.control active) waits);
          second = λ active waits. absurd (false≢true waits);
        }

-- the events that name one chip
abbrev pub names_a_chip : Event → Bool
names_a_chip Start = false
names_a_chip Stop = false
names_a_chip (Sent first byte) = false
names_a_chip (Read nack) = false
names_a_chip (Wp level) = true
names_a_chip CycleOver = true
names_a_chip PowerUp = false

pub named_kept : (c d : Chip) (values array security : List ℕ) (event : Event) → names_a_chip event ≡ true
    → side_by_side c.control d.control ≡ true
    → side_by_side (chip.step c values array security event).0.chip.control d.control ≡ true
unfolding chip.step
named_kept c d values array security Start named test = absurd (false≢true named)
named_kept c d values array security Stop named test = absurd (false≢true named)
named_kept c d values array security (Sent first byte) named test = absurd (false≢true named)
named_kept c d values array security (Read nack) named test = absurd (false≢true named)
named_kept c d values array security (Wp level) named test = test
named_kept c d values array security CycleOver named test = of_beside _ _ (over_beside c d.control (beside_of c.control d.control test))
named_kept c d values array security PowerUp named test = absurd (false≢true named)

-- whatever the phases: an event that the bus would refuse keeps it too
module _ (c d : Chip) (values array security values' array' security' : List ℕ) (formed : well_formed c ≡ true) (formed' : well_formed d ≡ true) (unshared : Unshared c.control d.control) (b : Beside c.control d.control) where
  both_step : (event : Event) → Beside (chip.step c values array security event).0.chip.control (chip.step d values' array' security' event).0.chip.control
  unfolding chip.step take read
  both_step Start = both_steady b (start_steady c formed) (start_steady d formed')
  both_step Stop =
      unless_both_await _ _ b (inert_stops c values array security formed) (inert_stops d values' array' security' formed')
      (λ is other. inert_beside (awaiting_stops c values array security formed is))
  both_step (Sent first byte) =
      unless_both_await _ _ b (take_inert c.control first byte) (take_inert d.control first byte) (both_hear _ _ first byte unshared b)
  both_step (Read nack) =
      unless_both_await _ _ b (read_inert c.control array security nack) (read_inert d.control array' security' nack)
      (λ is other. rw (read_awaiting c.control array security nack is, read_awaiting d.control array' security' nack other) b)
  both_step (Wp level) = record { one = b.one; first = b.first; second = b.second }
  both_step CycleOver = swapped (over_beside d _ (swapped (over_beside c _ b)))
  both_step PowerUp = inert_beside (false≢true, false≢true)

pub side_by_side_kept : (c d : Chip) (values array security values' array' security' : List ℕ) (event : Event)
    → well_formed c ≡ true → well_formed d ≡ true
    → share_address (geometry_of c.control.part) c.control.strap (geometry_of d.control.part) d.control.strap ≡ false
    → side_by_side c.control d.control ≡ true
    → side_by_side (chip.step c values array security event).0.chip.control (chip.step d values' array' security' event).0.chip.control ≡ true
side_by_side_kept c d values array security values' array' security' event formed formed' unshared test =
    of_beside _ _ (both_step c d values array security values' array' security' formed formed' unshared (beside_of _ _ test) event)
