-- Bytes stay bytes on the line, and every reply is a byte: a chip's shares are parts of the stores, its state and shares go back in their
-- places, and the line carries what a chip said, or 00 or FF.
use Prim.Native.Nat.{ℕ}
use native.Mathlib.Omega.{arith}
use mathlib.Core.Bool.{Bool}
use mathlib.Core.List.{List}
use lib.Dec.{eqb}
use Rattle.base.specs.Every.{Every, FitsByte, AllBytes}
use Rattle.base.proofs.logic.Laws.{either}
use Rattle.base.proofs.Fold.{up_keeps}
use Rattle.base.proofs.Every.{every_at, every_so, every_set, every_span, every_patched}
use Rattle.control.specs.declared.Said.{Said}
use Rattle.control.specs.declared.Said.TheVariants.{Nothing, Ack, Occupied, Byte}
use Rattle.chip.specs.declared.Chip.{Chip}
use Rattle.chip.specs.declared.Stepped as chip
use Rattle.chip.specs.declared.event.Event.{Event}
use Rattle.chip.specs.declared.event.Event.TheVariants.{Start, Stop, Sent, Read, Wp, CycleOver, PowerUp}
use Rattle.chip.specs.Chip as one_chip
use Rattle.chip.proofs.Typed.{ChipTyped}
use Rattle.promises.specs.ChipBytes.{ChipBytes, SaidByte, EventByte, StepBytes}
use Rattle.promises.proofs.Keeping.Bytes.{bytes_stay_bytes, values_stay_bytes}
use Rattle.promises.proofs.Keeping.Typed.{chip_bytes}
use Rattle.refusal.specs.Verdict.{Verdict, Answer}
use Rattle.std.specs.Prelude.{Ok, Err}
use Rattle.refusal.specs.Checks.{first_of}
use Rattle.board.specs.declared.Place.{Place}
use Rattle.board.specs.Place.{placed}
use Rattle.board.specs.Shares.{figures_at, array_start, security_start}
use Rattle.decode.specs.declared.Addressed.{Addressed}
use Rattle.decode.specs.Decode.{kind_of, addressed_of, reaches, event_of}
use Rattle.lineup.specs.Chips.{no_chip, chip_at, places_of}
use Rattle.line.specs.Line.{array_share, security_share, heard, OnLine, landed, chip_takes, play, chip_loads, values_after, unanswered, line_reply}
use Rattle.bus.specs.declared.Bus.{Bus}
use Rattle.bus.specs.declared.Stepped.{Stepped}
use Rattle.bus.specs.Step.{step_checks, done, step_by, played, step}
use Rattle.bus.proofs.Entry.{step_by_checks}
use Rattle.bus.proofs.Typed.{OfItsType, every_typed, values_typed}
use Rattle.promises.specs.Bytes.{HoldsBytes}

-- an event word brings its low half
abbrev pub Brings : Addressed → Type 0
Brings addressed = EventByte (event_of addressed)

pub brings_a_byte : (started : Bool) (word : ℕ) → Brings (addressed_of started word)
unfolding addressed_of
brings_a_byte started word =
    either Brings (eqb (kind_of word) 1) _ _ tt
    (either Brings (eqb (kind_of word) 2) _ _ tt
    (either Brings (eqb (kind_of word) 3) _ _ (omega arith)
    (either Brings (eqb (kind_of word) 4) _ _ tt
    (either Brings (eqb (kind_of word) 5) _ _ tt
    (either Brings (eqb (kind_of word) 6) _ _ tt
    (either Brings (eqb (kind_of word) 7) _ _ tt tt))))))

-- the line while one chip after the other takes the event
abbrev LineBytes : OnLine → Type 0
LineBytes world = Every ChipBytes world.0.chips × SaidByte world.0.said × AllBytes world.1 × AllBytes world.2

heard_byte : (before said : Said) → SaidByte before → SaidByte said → SaidByte (heard before said)
heard_byte before Nothing was is = was
heard_byte before Ack was is = tt
heard_byte Nothing Occupied was is = tt
heard_byte Ack Occupied was is = tt
heard_byte Occupied Occupied was is = tt
heard_byte (Byte byte) Occupied was is = was
heard_byte before (Byte byte) was is = is

landed_bytes : (places : List Place) (i : ℕ) (world : OnLine) (stepped : chip.Stepped × List ℕ × List ℕ) → LineBytes world → StepBytes stepped
    → LineBytes (landed places i world stepped)
landed_bytes places i world stepped (chips, said, array, security) (next, word, share, share') = (
  every_set ChipBytes world.0.chips i stepped.0.chip chips next,
  heard_byte world.0.said stepped.0.said said word,
  every_patched FitsByte (array_start places i) stepped.1 world.1 share array,
  every_patched FitsByte (security_start places i) stepped.2 world.2 share' security,
)

takes_bytes : (addressed : Addressed) (values : List ℕ) (places : List Place) → Brings addressed → AllBytes values → (i : ℕ) (world : OnLine) → LineBytes world
    → LineBytes (chip_takes addressed values places i world)
takes_bytes addressed values places brought in_values i world now =
    let c = chip_at world.0.chips i in
    let a = array_share places i world.1 in
    let s = security_share places i world.2 in
    let in_chip : ChipBytes c = every_at ChipBytes world.0.chips i no_chip now.0 (omega arith) in
    let in_array : AllBytes a = every_span FitsByte (array_start places i) (figures_at places i).array world.1 now.2 in
    let in_security : AllBytes s = every_span FitsByte (security_start places i) (figures_at places i).security world.2 now.3 in
    either LineBytes (reaches addressed i) _ world
    (landed_bytes places i world (one_chip.step c values a s (event_of addressed)) now (bytes_stay_bytes c values a s in_chip in_values in_array in_security (event_of addressed) brought))
    now

play_bytes : (addressed : Addressed) (bus : Bus) (array security : List ℕ) → Brings addressed → HoldsBytes bus array security
    → LineBytes (play addressed bus.count bus.chips bus.values array security)
unfolding play
play_bytes addressed bus array security brought now =
    up_keeps (chip_takes addressed bus.values (places_of bus.chips)) LineBytes (takes_bytes addressed bus.values (places_of bus.chips) brought now.in_values) (placed bus.count)
    (record { chips = bus.chips; said = Nothing }, array, security)
    (now.in_chips, tt, now.in_array, now.in_security)

pub values_bytes : (addressed : Addressed) (count : ℕ) (chips : List Chip) (values : List ℕ) → Brings addressed → AllBytes values → AllBytes (values_after addressed count chips values)
unfolding values_after
values_bytes addressed count chips values brought =
    up_keeps (chip_loads addressed chips) AllBytes
    (λ i now held. either AllBytes (reaches addressed i) _ now (values_stay_bytes (chip_at chips i) now held (event_of addressed) brought) held)
    (placed count) values

unanswered_byte : (event : Event) → FitsByte (unanswered event)
unanswered_byte Start = omega arith
unanswered_byte Stop = omega arith
unanswered_byte (Sent first byte) = omega arith
unanswered_byte (Read nack) = omega arith
unanswered_byte (Wp level) = omega arith
unanswered_byte CycleOver = omega arith
unanswered_byte PowerUp = omega arith

reply_byte : (event : Event) (said : Said) → SaidByte said → FitsByte (line_reply event said)
reply_byte event Nothing is = unanswered_byte event
reply_byte event Ack is = omega arith
reply_byte event Occupied is = omega arith
reply_byte event (Byte byte) is = is

-- a reply is a byte
abbrev pub AnswerByte : Answer → Type 0
AnswerByte (Ok reply) = FitsByte reply
AnswerByte (Err refusal) = Unit {0}

abbrev EndsInBytes : Stepped × List ℕ × List ℕ → Type 0
EndsInBytes next = HoldsBytes next.0.bus next.1 next.2 × AnswerByte next.0.answer

done_bytes : (event : Event) (count : ℕ) (started : Bool) (world : OnLine) (values : List ℕ) → LineBytes world → AllBytes values → EndsInBytes (done event count started (world, values))
done_bytes event count started world values (chips, said, array, security) in_values =
    (record { in_chips = chips; in_values = in_values; in_array = array; in_security = security }, reply_byte event world.0.said said)

-- a value of the type `Bus` holds bytes
pub typed_holds_bytes : (bus : Bus) (array security : List ℕ) → OfItsType bus → AllBytes array → AllBytes security → HoldsBytes bus array security
typed_holds_bytes bus array security typed in_array in_security =
    record { in_chips = every_so ChipTyped ChipBytes chip_bytes bus.chips (every_typed typed); in_values = (values_typed typed).bytes; in_array = in_array; in_security = in_security }

module _ (bus : Bus) (array security : List ℕ) (word : ℕ) (now : HoldsBytes bus array security) where
  ends_in_bytes : (verdict : Verdict) → EndsInBytes (step_by verdict bus array security word)
  unfolding played
  ends_in_bytes (Ok tt) =
      done_bytes (event_of (addressed_of bus.started word)) bus.count bus.started (play (addressed_of bus.started word) bus.count bus.chips bus.values array security) (values_after (addressed_of bus.started word) bus.count bus.chips bus.values)
      (play_bytes (addressed_of bus.started word) bus array security (brings_a_byte bus.started word) now)
      (values_bytes (addressed_of bus.started word) bus.count bus.chips bus.values (brings_a_byte bus.started word) now.in_values)
  ends_in_bytes (Err refusal) = (now, tt)

  pub every_step_keeps_bytes : let next = step bus array security word in HoldsBytes next.0.bus next.1 next.2
  every_step_keeps_bytes = rw (step_by_checks bus array security word) (ends_in_bytes (first_of (step_checks bus array security word))).0

  pub replies_are_bytes : AnswerByte (step bus array security word).0.answer
  replies_are_bytes = rw (step_by_checks bus array security word) (ends_in_bytes (first_of (step_checks bus array security word))).1
