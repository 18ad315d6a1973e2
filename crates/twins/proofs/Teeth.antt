-- That EWPM is 0, and that every address byte is a 1010 byte, are no idle words: with EWPM 1 and a free zone a 24CSM01 takes a write that WP keeps from
-- an AT24CM01, and to a 1011 byte or F8h they differ at once. With EWPM 0 they are twins, whatever the LOCK and SWP bits. All computed.
use Prim.Native.Nat.{ℕ, ◌<◌}
use mathlib.Core.Bool.{true, false}
use mathlib.Core.List.{List, [], ◌∷◌, map}
use mathlib.Core.Path.{◌≡◌, ◌∙◌, refl}
use lib.Dec.{lit<}
use lib.ListN.{length, get_or, replicate, length-replicate}
use Rattle.base.specs.Fold.{up_to}
use Rattle.parts.specs.Part.{geometry_of}
use Rattle.load.specs.Span.{empty_span}
use Rattle.load.specs.Load.{no_values}
use Rattle.control.specs.Control.{fresh, configured, wp_at}
use Rattle.control.specs.Bits.{ewpm}
use Rattle.chip.specs.declared.Chip.{Chip}
use Rattle.chip.specs.declared.event.Event.TheVariants.{Start, Stop, Sent}
use Rattle.chip.specs.Chip as chip
use Rattle.wellformed.specs.Wellformed as one_chip
use Rattle.std.specs.Prelude.{Ok}
use Rattle.refusal.specs.Checks.{first_of}
use Rattle.board.specs.Board.{board_verdict}
use Rattle.board.specs.Shares.{wrong_length}
use Rattle.lineup.specs.Chips.{places_of}
use Rattle.lineup.specs.Wellformed.{well_formed}
use Rattle.bus.specs.Setup.{empty_chip}
use Rattle.bus.specs.Step.{entry_checks, bus_with, event, step}
use Rattle.bus.proofs.Typed.{OfItsType, bus_typed}
use Rattle.promises.specs.ChipPlayed.{chip_played}
use Rattle.promises.specs.Playing.{World, answers_to}
use Rattle.turns.proofs.Computing.{event_by_event, computed, none, none_keeps}
use Rattle.turns.proofs.Typed.{ControlTyped, standby_typed, unloaded_typed, empty_typed, no_values_typed}
use Rattle.twins.specs.ArrayTurns.{only_array}
use Rattle.twins.specs.Twins.{LineOfOne, TwinLines, AsTwins}
use Rattle.twins.proofs.Line.{as_a_24csm01}

-- a chip at strap 0 alone on the line: on standby with no load, its WP high, its configuration given, and every byte of its stores FFh
abbrev only : ℕ → ℕ → ℕ → Chip
only part config0 config1 = record { control = configured config0 config1 (wp_at true (fresh part 0)); span = empty_span }

abbrev chips : ℕ → ℕ → ℕ → List Chip
chips part config0 config1 = only part config0 config1 ∷ empty_chip ∷ empty_chip ∷ empty_chip ∷ []

abbrev alone : ℕ → ℕ → ℕ → ℕ → World
alone part config0 config1 registers = (bus_with 1 false (chips part config0 config1) no_values, replicate 131072 0xFF, replicate registers 0xFF)

abbrev pub older : World
older = alone 3 0x00 0x00 0

abbrev pub newer : ℕ → ℕ → World
newer config0 config1 = alone 1 config0 config1 512

-- it is a value of its type, and passes the checks at entry
control_typed : (part config0 config1 : ℕ) → part < 256 → config0 < 256 → config1 < 256 → ControlTyped (configured config0 config1 (wp_at true (fresh part 0)))
control_typed part config0 config1 fits fits0 fits1 = (
  _,
  (
    (_, (_, (_, (_, (_, (_, (_, (_, (_, (_, (_, tt))))))))))),
    (
      refl,
      (
        (refl, fits),
        (
          (refl, lit< tt),
          (
            refl,
            (
              (refl, fits0),
              (
                (refl, fits1),
                (
                  refl,
                  (
                    (refl, lit< tt),
                    (
                      (refl, lit< tt),
                      ((_, (refl, (tt, (refl, tt)))), (refl, (standby_typed.1, tt))),
                    ),
                  ),
                ),
              ),
            ),
          ),
        ),
      ),
    ),
  ),
)

module _ (part config0 config1 registers : ℕ) (fits : part < 256) (fits0 : config0 < 256) (fits1 : config1 < 256) where
  abbrev world : World
  world = alone part config0 config1 registers

  typed : OfItsType world.0
  typed =
      bus_typed 1 false _ no_values (lit< tt) refl
      (unloaded_typed _ (control_typed part config0 config1 fits fits0 fits1), (empty_typed, (empty_typed, (empty_typed, tt)))) no_values_typed

  enters : well_formed 1 false (chips part config0 config1) ≡ true → wrong_length 1 (places_of (chips part config0 config1)) 131072 registers ≡ false
      → (array security : List ℕ) → length array ≡ 131072 → length security ≡ registers
      → first_of (entry_checks world.0 array security) ≡ Ok tt
  enters formed right array security long short = rw (long, short, formed, right)

  of_one : well_formed 1 false (chips part config0 config1) ≡ true → wrong_length 1 (places_of (chips part config0 config1)) 131072 registers ≡ false
      → LineOfOne (alone part config0 config1 registers)
  of_one formed right =
      record {
        typed = typed;
        enters = enters formed right world.1 world.2 (length-replicate {A = ℕ} 131072 0xFF) (length-replicate {A = ℕ} registers 0xFF);
        one = refl;
      }

older_is : LineOfOne older
unfolding well_formed board_verdict places_of up_to one_chip.well_formed geometry_of
older_is = of_one 3 0x00 0x00 0 (lit< tt) (lit< tt) (lit< tt) refl refl

newer_is : LineOfOne (newer 0x00 0x00) × LineOfOne (newer 0x01 0xFF) × LineOfOne (newer 0x02 0x00)
unfolding well_formed board_verdict places_of up_to one_chip.well_formed geometry_of
newer_is = (
  of_one 1 0x00 0x00 512 (lit< tt) (lit< tt) (lit< tt) refl refl,
  of_one 1 0x01 0xFF 512 (lit< tt) (lit< tt) (lit< tt) refl refl,
  of_one 1 0x02 0x00 512 (lit< tt) (lit< tt) (lit< tt) refl refl,
)

-- twins: with no register bit set, and with LOCK and every SWP bit set
twin_with : (config0 config1 : ℕ) → ewpm (configured config0 config1 (fresh 1 0)) ≡ false → LineOfOne (newer config0 config1)
    → TwinLines older (newer config0 config1)
unfolding geometry_of
twin_with config0 config1 clear line =
    record {
      old_line = older_is;
      new_line = line;
      twins = record {
        controls = record {
          older = refl;
          newer = refl;
          ewpm_clear = clear;
          strap = refl;
          wp = refl;
          arraycounter = refl;
          phase = refl;
          old_unchosen = refl;
          new_unchosen = refl;
        };
        span = refl;
      };
      started = refl;
      values = λ loads. refl;
      array = refl;
    }

pub twins_there : TwinLines older (newer 0x00 0x00) × TwinLines older (newer 0x01 0xFF)
twins_there = (twin_with 0x00 0x00 refl newer_is.0, twin_with 0x01 0xFF refl newer_is.1)

-- answers are computed event by event
answered : {world : World} → LineOfOne world → (events : List ℕ) {answers : List ℕ} → answers_to event world events ≡ answers
    → answers_to step world events ≡ answers
answered {world} line events is = (computed none none_keeps world (record { typed = line.typed; enters = line.enters }) events).1 ∙ is

-- 5Ah is written at address 0, and then the chip is polled: it is ready, or busy with a cycle
abbrev writes : List ℕ
writes = 0x0100 ∷ 0x03A0 ∷ 0x0300 ∷ 0x0300 ∷ 0x035A ∷ 0x0200 ∷ 0x0100 ∷ 0x03A0 ∷ []

abbrev Polled : World → ℕ → Type 0
Polled world reply = answers_to step world writes ≡ 0x0000 ∷ 0x0001 ∷ 0x0001 ∷ 0x0001 ∷ 0x0001 ∷ 0x0000 ∷ 0x0000 ∷ reply ∷ []

pub polled_alike : Polled older 0x0001 × Polled (newer 0x00 0x00) 0x0001 × Polled (newer 0x01 0xFF) 0x0001
unfolding event_by_event
polled_alike = (answered older_is writes refl, answered newer_is.0 writes refl, answered newer_is.1 writes refl)

-- of a pair that is a twin in all but EWPM, the second has its zone free, and WP does not act
pub polled_apart : Polled older 0x0001 × Polled (newer 0x02 0x00) 0x0002
unfolding event_by_event
polled_apart = (polled_alike.0, answered newer_is.2 writes refl)

-- the byte at address 0 after the write, computed of the chip by itself with the first page of its array
abbrev written : ℕ → ℕ → ℕ → ℕ
written part config0 config1 =
    let events = Start ∷ Sent true 0xA0 ∷ Sent false 0x00 ∷ Sent false 0x00 ∷ Sent false 0x5A ∷ Stop ∷ [] in
    get_or (chip_played events (chip.quiet (only part config0 config1), replicate 256 0xFF, [], no_values)).1 0 0

pub written_alike_and_apart : written 3 0x00 0x00 ∷ written 1 0x00 0x00 ∷ written 1 0x01 0xFF ∷ written 1 0x02 0x00 ∷ [] ≡ 0xFF ∷ 0xFF ∷ 0xFF ∷ 0x5A ∷ []
unfolding event_by_event
written_alike_and_apart = refl

-- a 1011 byte, and F8h, to twins: what is left out
abbrev Answered : ℕ → World → ℕ → Type 0
Answered word world reply = answers_to step world (0x0100 ∷ word ∷ []) ≡ 0x0000 ∷ reply ∷ []

pub register_byte_apart : Answered 0x03B0 older 0x0000 × Answered 0x03B0 (newer 0x00 0x00) 0x0001
unfolding event_by_event
register_byte_apart = (answered older_is (0x0100 ∷ 0x03B0 ∷ []) refl, answered newer_is.0 (0x0100 ∷ 0x03B0 ∷ []) refl)

pub host_byte_apart : Answered 0x03F8 older 0x0000 × Answered 0x03F8 (newer 0x00 0x00) 0x0001
unfolding event_by_event
host_byte_apart = (answered older_is (0x0100 ∷ 0x03F8 ∷ []) refl, answered newer_is.0 (0x0100 ∷ 0x03F8 ∷ []) refl)

pub left_out : map (only_array false) (writes ∷ (0x0100 ∷ 0x03B0 ∷ []) ∷ (0x0100 ∷ 0x03F8 ∷ []) ∷ []) ≡ true ∷ false ∷ false ∷ []
unfolding only_array
left_out = refl

-- so the theorem speaks of these twins and this write
pub writes_as_a_24csm01 : AsTwins older (newer 0x01 0xFF) writes
unfolding only_array
writes_as_a_24csm01 = as_a_24csm01 older (newer 0x01 0xFF) twins_there.1 writes refl
