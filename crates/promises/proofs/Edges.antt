-- The paper's edges marked (P), computed from the definitions: one list, one theorem ("On both sides of each edge").
use Prim.Native.Nat.{ℕ}
use mathlib.Core.Bool.{true, false, cond}
use mathlib.Core.List.{List, [], ◌∷◌, ◌++◌, map}
use mathlib.Core.Path.{◌≡◌, refl}
use lib.ListN.{replicate, set, get_or}
use Rattle.base.specs.Fold.{up_to}
use Rattle.base.specs.Word.{word_of}
use Rattle.parts.specs.Part.{geometry_24csm01, geometry_24cs32, geometry_of}
use Rattle.regions.specs.Zone.{zone_of}
use Rattle.regions.specs.Counter.{counter_in}
use Rattle.load.specs.Load.{no_values, store_page}
use Rattle.control.specs.Phase.{is_busy}
use Rattle.control.specs.Said.{reply_of}
use Rattle.addressing.specs.Address.{call_by_form, call_of, take_address, take_busy, take_choice}
use Rattle.taking.specs.Taking as taking
use Rattle.taking.specs.Taking.{take, span_after}
use Rattle.sending.specs.Sending.{read}
use Rattle.cycle.specs.Stop.{stop}
use Rattle.chip.specs.declared.Stepped.{Stepped}
use Rattle.chip.specs.declared.event.Event.{Event}
use Rattle.chip.specs.declared.event.Event.TheVariants.{Start, Stop, Sent, Read, CycleOver}
use Rattle.chip.specs.Chip.{fresh, quiet, step, values_after}
use Rattle.refusal.specs.Refusal.{status_of}
use Rattle.board.specs.declared.Place.{Place}
use Rattle.board.specs.Place.{nowhere}
use Rattle.board.specs.Shares.{array_start, security_start}
use Rattle.bus.specs.Setup.{set_up}
use Rattle.promises.specs.ChipPlayed.{chip_played}

abbrev m01 : ℕ
m01 = 1

abbrev cs32 : ℕ
cs32 = 2

-- a 24CS32 at strap 0 that holds 5Ah at 000h, C3h at FFFh, and FFh elsewhere, after some events
abbrev after : List Event → Stepped × List ℕ × List ℕ × List ℕ
after events = chip_played events (quiet (fresh cs32 0), set (set (replicate 4096 0xFF) 0x000 0x5A) 0xFFF 0xC3, replicate 64 0xFF, no_values)

-- what it holds at an address of its array
abbrev holds_at : ℕ → List Event → ℕ
holds_at at events = get_or (after events).1 at 0

-- bytes written from an address of two bytes on
abbrev written : ℕ → ℕ → List ℕ → List Event
written high low bytes = (Start ∷ Sent true 0xA0 ∷ Sent false high ∷ Sent false low ∷ map (Sent false) bytes) ++ (Stop ∷ [])

-- 00h, 01h, .. as many as asked
abbrev rising : ℕ → List ℕ
rising count = up_to (λ (n : ℕ) (bytes : List ℕ). bytes ++ (n ∷ [])) count []

-- a read that begins at FFFh, and what the n-th byte of it is
abbrev read_at_end : ℕ → ℕ
read_at_end more =
    reply_of 0xFF
    (after ((Start ∷ Sent true 0xA0 ∷ Sent false 0x0F ∷ Sent false 0xFF ∷ Start ∷ Sent true 0xA1 ∷ []) ++ replicate more (Read false))).0.said

-- both configuration bytes written, with some confirmation
abbrev configures : ℕ → ℕ → ℕ → List Event
configures byte0 byte1 confirmation =
    Start ∷ Sent true 0xB0 ∷ Sent false 0x88 ∷ Sent false 0x00 ∷ Sent false byte0 ∷ Sent false byte1 ∷ Sent false confirmation ∷ Stop ∷ []

-- a register that holds 02h 0Fh is sent 03h FFh, so LOCK 1, with some confirmation; then some events
abbrev locking : ℕ → List Event → Stepped × List ℕ × List ℕ × List ℕ
locking confirmation more = after (configures 0x02 0x0F 0x66 ++ ((CycleOver ∷ []) ++ (configures 0x03 0xFF confirmation ++ more)))

-- the whole register then, byte 0 first; whether a cycle has started; the reply to the next address byte
abbrev register_after : ℕ → ℕ
register_after confirmation = let c = (locking confirmation []).0.chip.control in word_of c.config0 c.config1

abbrev cycle_after : ℕ → ℕ
cycle_after confirmation = cond (is_busy (locking confirmation []).0.chip.control.phase) 1 0

abbrev next_address : ℕ → ℕ
next_address confirmation = reply_of 0x00 (locking confirmation (Start ∷ Sent true 0xA0 ∷ [])).0.said

-- the array counter of a 24CSM01 at strap 2 after an address byte and the word address 0000h
abbrev counter_by : ℕ → ℕ
counter_by byte = (chip_played (Start ∷ Sent true byte ∷ Sent false 0x00 ∷ Sent false 0x00 ∷ []) (quiet (fresh m01 2), [], [], no_values)).0.chip.control.arraycounter

-- a 24CSM01 and a 24CS32 on one board with stores that fit, and what set-up answers
abbrev place : ℕ → ℕ → Place
place part strap = record { part = part; strap = strap }

abbrev set_up_of : Place → Place → ℕ
set_up_of one two = status_of (set_up 2 (one ∷ two ∷ nowhere ∷ nowhere ∷ []) (replicate 135168 0xFF) (replicate 576 0xFF)).verdict

-- three 24CS32
abbrev three : List Place
three = place cs32 0 ∷ place cs32 1 ∷ place cs32 2 ∷ nowhere ∷ []

-- what the definitions give, and what the paper says
pub edges : List (ℕ × ℕ)
edges =
    -- 24CSM01 zones: 3FFFh is 0, 4000h is 1, 1FFFFh is 7
    (zone_of geometry_24csm01 0x3FFF, 0)
    ∷ (zone_of geometry_24csm01 0x4000, 1)
    ∷ (zone_of geometry_24csm01 0x1FFFF, 7)
    -- 24CS32 zones: 1FFh is 0, 200h is 1, FFFh is 7
    ∷ (zone_of geometry_24cs32 0x1FF, 0)
    ∷ (zone_of geometry_24cs32 0x200, 1)
    ∷ (zone_of geometry_24cs32 0xFFF, 7)
    -- 24CS32, 11h 22h written at 001Fh: 11h at 01Fh, 22h at 000h
    ∷ (holds_at 0x01F (written 0x00 0x1F (0x11 ∷ 0x22 ∷ [])), 0x11)
    ∷ (holds_at 0x000 (written 0x00 0x1F (0x11 ∷ 0x22 ∷ [])), 0x22)
    -- 33 bytes 00h to 20h at 0000h: 20h at 000h, 01h at 001h
    ∷ (holds_at 0x000 (written 0x00 0x00 (rising 33)), 0x20)
    ∷ (holds_at 0x001 (written 0x00 0x00 (rising 33)), 0x01)
    -- read at FFFh, then again: second byte is from 000h
    ∷ (read_at_end 1, 0xC3)
    ∷ (read_at_end 2, 0x5A)
    -- word address F000h on a 24CS32 is 000h
    ∷ (counter_in geometry_24cs32.array false 0xF0 0x00, 0)
    -- 24CSM01, strap 2, A16 = 1, write: AAh
    ∷ (counter_by 0xAA, 0x10000)
    ∷ (counter_by 0xA8, 0x00000)
    -- 24CSM01 strap 1 with 24CS32 strap 3: refusal 4; with strap 4: accepted
    ∷ (set_up_of (place m01 1) (place cs32 3), 4)
    ∷ (set_up_of (place m01 1) (place cs32 4), 0)
    -- LOCK 1 confirmed by 66h: unchanged, no cycle, and the next address byte is acknowledged; by 99h it is otherwise, and the next address byte finds the chip busy (request E8)
    ∷ (register_after 0x66, 0x020F)
    ∷ (cycle_after 0x66, 0)
    ∷ (next_address 0x66, 0x01)
    ∷ (register_after 0x99, 0x03FF)
    ∷ (cycle_after 0x99, 1)
    ∷ (next_address 0x99, 0x02)
    -- three 24CS32 need 12,288 and 192 bytes (paper, "The two memories")
    ∷ (array_start three 3, 12288)
    ∷ (security_start three 3, 192)
    ∷ []

pub edges_hold : map (λ (edge : ℕ × ℕ). edge.0) edges ≡ map (λ (edge : ℕ × ℕ). edge.1) edges
unfolding edges step values_after take span_after taking.values_after take_address take_busy take_choice call_of call_by_form geometry_of read stop store_page up_to set_up
edges_hold = refl
