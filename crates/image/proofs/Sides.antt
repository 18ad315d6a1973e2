-- Texts on both sides of each edge of the request, computed from the definitions: those that are taken into an array of 16 bytes FFh, with the
-- array that they leave, and those that are refused, with the number and the line. For the sizes of the two parts the records by themselves.
use Prim.Native.Nat.{ℕ}
use Prim.Native.Char.{code}
use Prim.Native.String.{String}
use Prim.Native.String as string
use mathlib.Core.Bool.{true, false}
use mathlib.Core.List.{List, [], ◌∷◌, ◌++◌, map}
use mathlib.Core.Path.{◌≡◌, refl}
use lib.ListN.{replicate}
use Rattle.base.specs.Fold.{up_to}
use Rattle.transcript.specs.Digit.{digit_of}
use Rattle.parts.specs.Part.{geometry_24csm01, geometry_24cs32}
use Rattle.refusal.specs.Refusal.{status_of}
use Rattle.refusal.specs.Checks.{first_of}
use Rattle.hexline.specs.Digit.{value_of}
use Rattle.hexline.specs.Fields.{data_kind, byte_at, is_framed, put_data}
use Rattle.hexline.specs.Checks.{record_checks}
use Rattle.hexline.specs.Writing.{record_text}
use Rattle.image.specs.Reading.{next_reading, read_on, reading_after, text_verdict}
use Rattle.image.specs.Storing.{next_storing, store_on, stored, stores_at, byte_for}
use Rattle.image.specs.Load.{Loaded, loaded, load_verdict, line_of, load_share}
use Rattle.image.specs.Rows.{upper_changes, upper_text, row_text, saved_text, saved_size}

-- the bytes of a text of plain characters
abbrev text_of : String → List ℕ
text_of string.[] = []
text_of (string.◌∷◌ c rest) = code c ∷ text_of rest

abbrev blank : List ℕ
blank = replicate 16 0xFF

-- what is answered, and the array afterwards
abbrev loads_to : String → Loaded × List ℕ
loads_to text = load_share (text_of text) blank

-- the number and the line
abbrev answered : Loaded × List ℕ → ℕ × ℕ × List ℕ
answered (said, share) = (status_of (load_verdict said), line_of said, share)

pub taken : List (String × List ℕ)
taken =
    -- an end record alone, and a byte before it
    (":00000001FF\n", blank)
    ∷ (":0100000055AA\n:00000001FF\n", 0x55 ∷ replicate 15 0xFF)
    -- digits of either case; LF and CR LF in one text
    ∷ (":01000000aB54\n:00000001fF\n", 0xAB ∷ replicate 15 0xFF)
    ∷ (":0100000055AA\r\n:010001006698\n:00000001FF\r\n", 0x55 ∷ 0x66 ∷ replicate 14 0xFF)
    -- the whole array; its last byte
    ∷ (":10000000000102030405060708090A0B0C0D0E0F78\n:00000001FF\n", 0 ∷ 1 ∷ 2 ∷ 3 ∷ 4 ∷ 5 ∷ 6 ∷ 7 ∷ 8 ∷ 9 ∷ 10 ∷ 11 ∷ 12 ∷ 13 ∷ 14 ∷ 15 ∷ [])
    ∷ (":01000F005A96\n:00000001FF\n", replicate 15 0xFF ++ (0x5A ∷ []))
    -- a later record replaces an earlier one
    ∷ (":020000001122CB\n:0100010033CB\n:00000001FF\n", 0x11 ∷ 0x33 ∷ replicate 14 0xFF)
    ∷ (":0100010033CB\n:020000001122CB\n:00000001FF\n", 0x11 ∷ 0x22 ∷ replicate 14 0xFF)
    -- a data record of no bytes, wherever it points; a record of type 04 past the array, and back again
    ∷ (":00FFFF0002\n:00000001FF\n", blank)
    ∷ (":02000004FFFFFC\n:0000000000\n:00000001FF\n", blank)
    ∷ (":02000004FFFFFC\n:020000040000FA\n:0100000055AA\n:00000001FF\n", 0x55 ∷ replicate 15 0xFF)
    -- the address field of types 01 and 04 is not looked at
    ∷ (":00123401B9\n", blank)
    ∷ (":02ABCD04000082\n:0100000055AA\n:00000001FF\n", 0x55 ∷ replicate 15 0xFF)
    ∷ []

-- the text, the number, the line
pub refused : List (String × ℕ × ℕ)
refused =
    -- 20: a bad digit; a digit too few, and one too many; type 01 with data, type 04 with one and with three bytes
    (":01000000G5AA\n:00000001FF\n", 20, 1)
    ∷ (":010000005AA\n:00000001FF\n", 20, 1)
    ∷ (":0100000055AA0\n:00000001FF\n", 20, 1)
    ∷ (":0100000100FE\n", 20, 1)
    ∷ (":0100000400FB\n:00000001FF\n", 20, 1)
    ∷ (":03000004000000F9\n:00000001FF\n", 20, 1)
    -- no LF behind the last line; a blank line; CR alone; something before the colon
    ∷ (":0100000055AA\n:00000001FF", 20, 2)
    ∷ (":0100000055AA\n\n:00000001FF\n", 20, 2)
    ∷ (":0100000055AA\r:00000001FF\n", 20, 1)
    ∷ (":0100000055AA\n :00000001FF\n", 20, 2)
    -- 21: of data, and of the end
    ∷ (":0100000055AB\n:00000001FF\n", 21, 1)
    ∷ (":0100000055AA\n:00000001FE\n", 21, 2)
    -- 22: types 02, 03, 05, 06
    ∷ (":020000021000EC\n:00000001FF\n", 22, 1)
    ∷ (":0400000300000000F9\n:00000001FF\n", 22, 1)
    ∷ (":0400000500000000F7\n:00000001FF\n", 22, 1)
    ∷ (":00000006FA\n:00000001FF\n", 22, 1)
    -- 23: past the last byte; on past it; under other upper address bits
    ∷ (":01001000559A\n:00000001FF\n", 23, 1)
    ∷ (":02000F001122BC\n:00000001FF\n", 23, 1)
    ∷ (":020000040001F9\n:0100000055AA\n:00000001FF\n", 23, 2)
    -- 24: no text, no end record; behind the end a blank line, a good record, a second end, garbage
    ∷ ("", 24, 1)
    ∷ (":0100000055AA\n", 24, 2)
    ∷ (":00000001FF\n\n", 24, 2)
    ∷ (":00000001FF\n:0100000055AA\n", 24, 2)
    ∷ (":00000001FF\n:00000001FF\n", 24, 2)
    ∷ (":0100000055AA\n:00000001FF\nG\u{1a}", 24, 3)
    -- two at one record: 20 before 21, 22, 23; 21 before 22, 23 (a record of another type names no address, so not 22 and 23)
    ∷ (":0100000100FF\n", 20, 1)
    ∷ (":02000002100GEC\n:00000001FF\n", 20, 1)
    ∷ (":01001000559G\n:00000001FF\n", 20, 1)
    ∷ (":020000021000ED\n:00000001FF\n", 21, 1)
    ∷ (":01001000559B\n:00000001FF\n", 21, 1)
    -- 24 is last: each of the others where there is no end record
    ∷ (":01000000G5AA\n", 20, 1)
    ∷ (":0100000055AB\n", 21, 1)
    ∷ (":020000021000EC\n", 22, 1)
    ∷ (":01001000559A\n", 23, 1)
    -- the first record that fails decides: 22 in line 1 before 20 in line 2, 23 in line 2 before 21 in line 3
    ∷ (":020000021000EC\n\n:00000001FF\n", 22, 1)
    ∷ (":0100000055AA\n:01001000559A\n:0100000055AB\n:00000001FF\n", 23, 2)
    ∷ []

-- the array sizes of a 24CSM01 and of a 24CS32
abbrev m01 : ℕ
m01 = geometry_24csm01.array

abbrev cs32 : ℕ
cs32 = geometry_24cs32.array

-- a size, upper address bits, a record there, and what its checks say
pub ends : List (ℕ × ℕ × List ℕ × ℕ)
ends =
    -- 24CS32, at FFFh one byte and two
    (cs32, 0, text_of ":010FFF00559C\n", 0)
    ∷ (cs32, 0, text_of ":020FFF001122BD\n", 23)
    -- 24CSM01, at 1FFFFh one byte and two
    ∷ (m01, 1, text_of ":01FFFF0055AC\n", 0)
    ∷ (m01, 1, text_of ":02FFFF001122CD\n", 23)
    -- at FFFFh a record of 255 bytes runs on; at 1FFFFh it is past the array
    ∷ (m01, 0, record_text data_kind 0xFFFF (replicate 255 0x11), 0)
    ∷ (m01, 1, record_text data_kind 0xFFFF (replicate 255 0x11), 23)
    ∷ []

abbrev said : ℕ × ℕ × List ℕ × ℕ → ℕ
said (size, upper, rest, number) = status_of (first_of (record_checks size upper rest))

pub records_on_both_sides :
    (map (λ (row : String × List ℕ). loads_to row.0) taken ≡ map (λ (row : String × List ℕ). (loaded, row.1)) taken)
    × (map (λ (row : String × ℕ × ℕ). answered (loads_to row.0)) refused ≡ map (λ (row : String × ℕ × ℕ). (row.1, row.2, blank)) refused)
    × (map said ends ≡ map (λ (row : ℕ × ℕ × List ℕ × ℕ). row.3) ends)
unfolding taken refused ends load_share up_to digit_of value_of byte_at is_framed put_data record_text next_reading read_on next_storing store_on stored
records_on_both_sides = (refl, refl, refl)

-- 16 bytes at FFF8h of a 24CSM01, and a byte at 0000h behind them
abbrev across : List ℕ
across = text_of ":10FFF800000102030405060708090A0B0C0D0E0F81\n:0100000055AA\n:00000001FF\n"

-- the first record runs on to 10007h, with its last byte; the second is back at 0, since no record of type 04 came between
pub a_record_runs_on_past_ffffh :
    (status_of (text_verdict m01 across) ≡ 0)
    × (map (stores_at m01 across (reading_after m01 across 0)) (0xFFF7 ∷ 0xFFF8 ∷ 0x10007 ∷ 0x10008 ∷ []) ≡ false ∷ true ∷ true ∷ false ∷ [])
    × (byte_for across (reading_after m01 across 0) 0x10007 ≡ 0x0F)
    × (map (stores_at m01 across (reading_after m01 across 1)) (0x00000 ∷ 0x10000 ∷ []) ≡ true ∷ false ∷ [])
unfolding up_to digit_of value_of byte_at is_framed next_reading read_on
a_record_runs_on_past_ffffh = (refl, refl, refl, refl)

-- how long the text of each part is; before which rows a record of type 04 stands, and that record; the text of 32 bytes
pub saving_on_both_sides :
    (saved_size cs32 ≡ 11276)
    × (saved_size m01 ≡ 360476)
    × (map upper_changes (0 ∷ 1 ∷ 4095 ∷ 4096 ∷ 4097 ∷ 8191 ∷ []) ≡ false ∷ false ∷ false ∷ true ∷ false ∷ false ∷ [])
    × (upper_text 1 ≡ text_of ":020000040001F9\n")
    × (saved_text (blank ++ replicate 16 0x5A)
    ≡ text_of ":10000000FFFFFFFFFFFFFFFFFFFFFFFFFFFFFFFF00\n:100010005A5A5A5A5A5A5A5A5A5A5A5A5A5A5A5A40\n:00000001FF\n")
unfolding saved_text row_text record_text up_to
saving_on_both_sides = (refl, refl, refl, refl, refl)
