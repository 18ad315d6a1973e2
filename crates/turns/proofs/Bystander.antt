-- A chip at rest sits through another's turn: a Start wakes it, and F8h keeps it awake where it identifies itself, but the address byte that follows
-- is another's, or F9h while it is not chosen, so it goes back to standby as it was, and a busy one says nothing. Of the rest it takes no notice.
use Prim.Native.Nat.{ℕ, ◌/◌, ◌%◌, ◌<◌, ◌≤◌}
use native.Mathlib.Omega.{arith}
use mathlib.Core.Bool.{Bool, true, false, cond, not, ◌&&◌, ◌||◌, or-false, false≢true}
use mathlib.Core.List.{List}
use mathlib.Core.Path.{◌≡◌, ◌∙◌, refl, sym, ap}
use lib.Dec.{eqb, leb}
use borrow.Author.Tests.{leb-true, eqb-true, ne_eqb, not-true, not-false}
use Rattle.base.proofs.logic.Laws.{and_left, and_right, either}
use Rattle.parts.specs.Part.{geometry_of}
use Rattle.parts.specs.Address.{answers, share_address}
use Rattle.parts.proofs.part.Laws.{sound_of}
use Rattle.parts.proofs.address.Laws.{share_exactly_when}
use Rattle.load.specs.declared.Span.{Span}
use Rattle.load.specs.Span as span
use Rattle.control.specs.declared.Answered.{Answered}
use Rattle.control.specs.declared.Said.TheVariants.{Nothing, Ack}
use Rattle.control.specs.declared.phase.Phase.{Phase}
use Rattle.control.specs.declared.phase.Phase.TheVariants.{Standby, Busy, AwaitsAddress, AwaitsChoice}
use Rattle.control.specs.Phase.{is_busy, is_sending, is_taking}
use Rattle.control.specs.Control.{in_phase, choosing}
use Rattle.control.proofs.phase.Laws.{resting_is}
use Rattle.addressing.specs.declared.Call.{Call}
use Rattle.addressing.specs.declared.Call.TheVariants.{HostF9, Nobody}
use Rattle.addressing.specs.Address.{call_by_form, if_able, call_of, is_named, names, take_call, take_address, take_busy, take_choice}
use Rattle.taking.specs.Taking as taking
use Rattle.cycle.specs.Stop as cycle
use Rattle.chip.specs.declared.Chip.{Chip}
use Rattle.chip.specs.declared.Stepped.{Stepped}
use Rattle.chip.specs.declared.event.Event.{Event}
use Rattle.chip.specs.declared.event.Event.TheVariants.{Start, Stop, Sent, Read, Wp, CycleOver, PowerUp}
use Rattle.chip.specs.Chip.{quiet, take, step}
use Rattle.board.specs.declared.Place.{Place}
use Rattle.decode.specs.Hearing.{clashes_with}
use Rattle.line.proofs.Deaf.{sent_stays, read_stays}
use Rattle.turns.specs.Idle.{is_loading, is_at_rest}
use Rattle.turns.specs.Turn.{Next, Anything, AddressByte, ChoiceByte, is_address_of, is_first_byte}
use Rattle.turns.specs.Undisturbed.{is_free}

-- in another phase, its load dropped
abbrev pub woken : Phase → Chip → Chip
woken phase c = record { control = in_phase phase c.control; span = span.dropped c.span }

-- a chip that has heard a Start, or F8h after it, and awaits the byte that follows; a busy one stays as it is
abbrev pub awaiting : Phase → Chip → Chip
awaiting phase c = cond (is_busy c.control.phase) c (woken phase c)

-- a chip that has no turn, by what must come next in another's; F8h is for a chip that identifies itself
abbrev pub while_anothers_turn : Next → Chip → Chip
while_anothers_turn Anything c = c
while_anothers_turn AddressByte c = awaiting AwaitsAddress c
while_anothers_turn ChoiceByte c = cond (geometry_of c.control.part).identifies (awaiting AwaitsChoice c) c

-- a chip whose choice is dropped
abbrev dropped : Chip → Chip
dropped c = record { control = choosing false c.control; span = c.span }

pub hears_start : (c : Chip) (v a s : List ℕ) → step c v a s Start ≡ (quiet (while_anothers_turn AddressByte c), a, s)
unfolding step
hears_start c v a s = refl

-- the call that a byte is for a chip whose codes are not those of a place
module _ (c : Chip) (place : Place)
    (unshared : share_address (geometry_of place.part) place.strap (geometry_of c.control.part) c.control.strap ≡ false) where
  abbrev called : ℕ → Call
  called byte = call_of (geometry_of c.control.part) c.control.strap byte

  abbrev answered : ℕ → Bool
  answered code = answers (geometry_of c.control.part) c.control.strap code

  unanswered : (code : ℕ) → answers (geometry_of place.part) place.strap code ≡ true → answered code ≡ false
  unanswered code theirs = go (answered code) refl
    where
      go : (mine : Bool) → answered code ≡ mine → mine ≡ false
      go true is =
          let shared = (share_exactly_when _ place.strap _ c.control.strap (sound_of place.part) (sound_of c.control.part)).1 in
          absurd (false≢true (sym unshared ∙ shared (code, (theirs, is))))
      go false is = refl

  not_the_host's : (byte : ℕ) → byte / 16 < 15 → (eqb byte 0xF8 ≡ false) × (eqb byte 0xF9 ≡ false)
  not_the_host's byte below = (ne_eqb byte 0xF8 (λ same. omega arith), ne_eqb byte 0xF9 (λ same. omega arith))

  -- an address byte of the place, and 00h to 0Fh
  address_for_nobody : (opening byte : ℕ) → opening < 15 → is_address_of opening place byte ≡ true → called byte ≡ Nobody
  unfolding call_of call_by_form
  address_for_nobody opening byte below is =
      let opens : byte / 16 ≡ opening = eqb-true _ _ (and_left _ _ is) in
      let (not_f8, not_f9) = not_the_host's byte (omega arith) in
      rw (not_f8, not_f9, unanswered (byte / 2 % 8) (and_right (eqb (byte / 16) opening) _ is))

  low_for_nobody : (byte : ℕ) → byte ≤ 0x0F → called byte ≡ Nobody
  unfolding call_of call_by_form
  low_for_nobody byte below =
      let (not_f8, not_f9) = not_the_host's byte (omega arith) in
      rw (not_f8, not_f9, ne_eqb (byte / 16) 0b1010 (λ same. omega arith), ne_eqb (byte / 16) 0b1011 (λ same. omega arith))
      (either (λ (call : Call). if_able (geometry_of c.control.part) call ≡ Nobody) (answered (byte / 2 % 8)) Nobody Nobody refl refl)

  -- a first byte of the place is F9h or for nobody
  first_called : (P : Call → Type 0) (byte : ℕ) → is_first_byte place byte ≡ true → P HostF9 → P Nobody → P (called byte)
  unfolding call_of call_by_form
  first_called P byte first identity nobody =
      go (is_address_of 0b1010 place byte) (is_address_of 0b1011 place byte) (leb 0x08 byte && leb byte 0x0F) refl refl refl first
    where
      go : (array register low : Bool) → is_address_of 0b1010 place byte ≡ array → is_address_of 0b1011 place byte ≡ register
          → (leb 0x08 byte && leb byte 0x0F) ≡ low
          → ((array || register) || (low || eqb byte 0xF9)) ≡ true
          → P (called byte)
      go true register low is other small some = rw (address_for_nobody 0b1010 byte (omega arith) is) nobody
      go false true low is other small some = rw (address_for_nobody 0b1011 byte (omega arith) other) nobody
      go false false true is other small some = rw (low_for_nobody byte (leb-true _ _ (and_right (leb 0x08 byte) _ small))) nobody
      go false false false is other small some =
          rw (eqb-true byte 0xF9 some) (either P (geometry_of c.control.part).identifies HostF9 Nobody identity nobody)

module _ (c : Chip) (rest : is_at_rest c ≡ true) where
  still : (not (is_sending c.control.phase) && not (is_taking c.control.phase)) ≡ true
  still = and_left _ _ rest

  empty_handed : (not (is_loading c) && not c.control.chosen) ≡ true
  empty_handed = and_right (not (is_sending c.control.phase) && not (is_taking c.control.phase)) _ rest

  unloaded : is_loading c ≡ false
  unloaded = not-true _ (and_left _ _ empty_handed)

  unchosen : c.control.chosen ≡ false
  unchosen = not-true _ (and_right (not (is_loading c)) _ empty_handed)

  sends_nothing : is_sending c.control.phase ≡ false
  sends_nothing = not-true _ (and_left _ _ still)

  takes_nothing : is_taking c.control.phase ≡ false
  takes_nothing = not-true _ (and_right (not (is_sending c.control.phase)) _ still)

  -- it is on standby or busy
  two_ways : (G : Type 0) → (c.control.phase ≡ Standby → G) → (c.control.phase ≡ Busy → G) → G
  two_ways G standby busy =
      resting_is c.control.phase sends_nothing takes_nothing (λ (phase : Phase). c.control.phase ≡ phase → G) standby busy refl

  -- no byte is loaded, so a load that is dropped is the same load
  rest_dropped : span.dropped c.span ≡ c.span
  rest_dropped = ap (λ (count : ℕ). record { first = c.span.first; count = count }) (sym none)
    where
      none : c.span.count ≡ 0
      none = eqb-true _ _ (not-false _ (not-true _ (and_left _ _ empty_handed)))

  -- on standby, its load and its choice dropped, it is as it was
  asleep : c.control.phase ≡ Standby → woken Standby c ≡ c
  asleep standby =
      ap (λ (phase : Phase). woken phase c) (sym standby)
      ∙ ap (λ (held : Span). record { control = c.control; span = held }) rest_dropped

  unpicked : dropped c ≡ c
  unpicked = ap (λ (picked : Bool). record { control = choosing picked c.control; span = c.span }) (sym unchosen)

  pub passes_byte : (v a s : List ℕ) (byte : ℕ) → step c v a s (Sent false byte) ≡ (quiet c, a, s)
  passes_byte v a s byte = sent_stays c v a s false byte (or-false _ ∙ takes_nothing)

  pub passes_read : (v a s : List ℕ) (nack : Bool) → step c v a s (Read nack) ≡ (quiet c, a, s)
  passes_read v a s nack = read_stays c v a s nack sends_nothing

  pub passes_stop : (v a s : List ℕ) → step c v a s Stop ≡ (quiet c, a, s)
  unfolding step cycle.stop
  passes_stop v a s =
      two_ways (step c v a s Stop ≡ (quiet c, a, s))
      (λ standby.
      let ended : step c v a s Stop ≡ (quiet (woken Standby (dropped c)), a, s) = rw standby in
      ended ∙ ap (λ (d : Chip). (quiet d, a, s)) (ap (woken Standby) unpicked ∙ asleep standby))
      (λ busy. rw busy)

  -- a byte to which it says that it is busy, where it is
  abbrev occupies : Bool → ℕ → Bool
  occupies first byte = first && names byte c.control

  -- another, that it awaits: a busy chip takes no notice, and one on standby has been woken
  hears_awaited : (phase : Phase) (v a s : List ℕ) (first : Bool) (byte : ℕ) (after : Stepped) → occupies first byte ≡ false
      → (c.control.phase ≡ Standby → take (woken phase c) first byte ≡ after) → (c.control.phase ≡ Busy → quiet c ≡ after)
      → step (awaiting phase c) v a s (Sent first byte) ≡ (after, a, s)
  unfolding step taking.take taking.span_after take_busy
  hears_awaited phase v a s first byte after unnamed on_standby on_busy =
      two_ways (step (awaiting phase c) v a s (Sent first byte) ≡ (after, a, s))
      (λ standby. rw standby (ap (λ (x : Stepped). (x, a, s)) (on_standby standby)))
      (λ busy.
      let same : awaiting phase c ≡ c = rw busy in
      let stays : take c first byte ≡ quiet c = rw (busy, unnamed) in
      ap (λ (d : Chip). step d v a s (Sent first byte)) same ∙ ap (λ (x : Stepped). (x, a, s)) (stays ∙ on_busy busy))

  passes : (phase : Phase) (v a s : List ℕ) (first : Bool) (byte : ℕ) → occupies first byte ≡ false → take (woken phase c) first byte ≡ quiet (woken Standby c)
      → step (awaiting phase c) v a s (Sent first byte) ≡ (quiet c, a, s)
  passes phase v a s first byte unnamed is =
      hears_awaited phase v a s first byte (quiet c) unnamed (λ standby. is ∙ ap quiet (asleep standby)) (λ busy. refl)

  pub hears_f8 : (v a s : List ℕ)
      → step (while_anothers_turn AddressByte c) v a s (Sent true 0xF8) ≡ (record { chip = while_anothers_turn ChoiceByte c; said = cond (is_free c.control) Ack Nothing }, a, s)
  unfolding taking.take taking.span_after take_address call_of call_by_form
  hears_f8 v a s = go (geometry_of c.control.part).identifies refl
    where
      go : (can : Bool) → (geometry_of c.control.part).identifies ≡ can
          → step (while_anothers_turn AddressByte c) v a s (Sent true 0xF8) ≡ (record { chip = cond can (awaiting AwaitsChoice c) c; said = cond (can && not (is_busy c.control.phase)) Ack Nothing }, a, s)
      go true is =
          hears_awaited AwaitsAddress v a s true 0xF8 _ (rw is)
          (λ standby. rw (standby, is) (ap (λ (d : Chip). record { chip = woken AwaitsChoice d; said = Ack }) unpicked))
          (λ busy. rw busy)
      go false is =
          hears_awaited AwaitsAddress v a s true 0xF8 _ (rw is)
          (λ standby. rw is (ap quiet (ap (woken Standby) unpicked ∙ asleep standby)))
          (λ busy. refl)

  module _ (v a s : List ℕ) (place : Place) (byte : ℕ)
      (unshared : share_address (geometry_of place.part) place.strap (geometry_of c.control.part) c.control.strap ≡ false) where
    pub passes_first : is_first_byte place byte ≡ true → step (while_anothers_turn AddressByte c) v a s (Sent true byte) ≡ (quiet c, a, s)
    unfolding taking.take taking.span_after take_address
    passes_first is =
        passes AwaitsAddress v a s true byte
        (first_called c place unshared (λ (call : Call). is_named call ≡ false) byte is refl refl)
        (first_called c place unshared (λ (call : Call). heard (take_call call (in_phase AwaitsAddress c.control)) ≡ quiet (woken Standby c)) byte is
        (rw unchosen)
        (ap (λ (d : Chip). quiet (woken Standby d)) unpicked))
      where
        heard : Answered → Stepped
        heard answered = record { chip = record { control = answered.control; span = span.dropped c.span }; said = answered.said }

    pub passes_choice : is_address_of 0b1010 place byte ≡ true → step (while_anothers_turn ChoiceByte c) v a s (Sent false byte) ≡ (quiet c, a, s)
    unfolding taking.take taking.span_after take_choice
    passes_choice is =
        either (λ (d : Chip). step d v a s (Sent false byte) ≡ (quiet c, a, s)) (geometry_of c.control.part).identifies (awaiting AwaitsChoice c) c
        (passes AwaitsChoice v a s false byte refl (rw (address_for_nobody c place unshared 0b1010 byte (omega arith) is)))
        (passes_byte v a s byte)

  pub rest_clashes : (event : Event) → clashes_with event c.control.phase ≡ false
  rest_clashes Start = refl
  rest_clashes Stop = refl
  rest_clashes (Sent first byte) = sends_nothing
  rest_clashes (Read nack) = takes_nothing
  rest_clashes (Wp level) = refl
  rest_clashes CycleOver = refl
  rest_clashes PowerUp = refl

  awaiting_sends_nothing : (phase : Phase) → is_sending phase ≡ false → is_sending (awaiting phase c).control.phase ≡ false
  awaiting_sends_nothing phase silent =
      either (λ (d : Chip). is_sending d.control.phase ≡ false) (is_busy c.control.phase) c (woken phase c) sends_nothing silent

  awaiting_unloaded : (phase : Phase) → is_loading (awaiting phase c) ≡ false
  awaiting_unloaded phase =
      either (λ (d : Chip). is_loading d ≡ false) (is_busy c.control.phase) c (woken phase c) unloaded refl

  pub waiting_sends_nothing : (next : Next) → is_sending (while_anothers_turn next c).control.phase ≡ false
  waiting_sends_nothing Anything = sends_nothing
  waiting_sends_nothing AddressByte = awaiting_sends_nothing AwaitsAddress refl
  waiting_sends_nothing ChoiceByte =
      either (λ (d : Chip). is_sending d.control.phase ≡ false) (geometry_of c.control.part).identifies (awaiting AwaitsChoice c) c
      (awaiting_sends_nothing AwaitsChoice refl)
      sends_nothing

  -- and it holds no load
  pub waiting_unloaded : (next : Next) → is_loading (while_anothers_turn next c) ≡ false
  waiting_unloaded Anything = unloaded
  waiting_unloaded AddressByte = awaiting_unloaded AwaitsAddress
  waiting_unloaded ChoiceByte =
      either (λ (d : Chip). is_loading d ≡ false) (geometry_of c.control.part).identifies (awaiting AwaitsChoice c) c
      (awaiting_unloaded AwaitsChoice)
      unloaded
