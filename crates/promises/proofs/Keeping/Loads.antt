-- What holds of the values of a line and of those where no byte has come, and stays so where a byte sent is put in its place, holds of them after
-- every event.
use Prim.Native.Nat.{ℕ}
use mathlib.Core.Bool.{Bool}
use mathlib.Core.List.{List}
use mathlib.Core.Path.{◌≡◌, refl}
use lib.ListN.{set}
use Rattle.base.proofs.logic.Laws.{either}
use Rattle.parts.specs.Part.{geometry_of}
use Rattle.regions.specs.Page.{place_of}
use Rattle.load.specs.Span.{is_empty}
use Rattle.load.specs.Load.{no_values, put_at}
use Rattle.control.specs.declared.phase.Phase.{Phase}
use Rattle.control.specs.declared.phase.Phase.TheVariants.{Standby, Busy, AwaitsAddress, AwaitsChoice, AwaitsWord, TakesData, SendsByte}
use Rattle.control.specs.declared.phase.Data.{Data}
use Rattle.control.specs.declared.phase.Data.TheVariants.{ToArray, ToSecurity, ToConfiguration, ToLock, ToNowhere}
use Rattle.taking.specs.Taking.{values_data, values_in}
use Rattle.taking.specs.Taking as taking
use Rattle.chip.specs.declared.Chip.{Chip}
use Rattle.chip.specs.declared.event.Event.{Event}
use Rattle.chip.specs.declared.event.Event.TheVariants.{Start, Stop, Sent, Read, Wp, CycleOver, PowerUp}
use Rattle.chip.specs.Chip.{values_after}

module _ (c : Chip) (values : List ℕ) (P : List ℕ → Type 0) (now : P values) (none : P no_values) where
  -- a byte keeps it, wherever it is put
  abbrev Keeps : ℕ → Type 0
  Keeps byte = (held : List ℕ) (place : ℕ) → P held → P (set held place byte)

  put_keeps : (at byte : ℕ) → Keeps byte → P (put_at (geometry_of c.control.part) at byte c.span values)
  put_keeps at byte with = with _ (place_of (geometry_of c.control.part) at) (either P (is_empty c.span) no_values values none now)

  to_data : (kind : Data) (byte : ℕ) → Keeps byte → P (values_data kind c.span c.control byte values)
  to_data ToArray byte with = put_keeps c.control.arraycounter byte with
  to_data ToSecurity byte with = put_keeps c.control.securitycounter byte with
  to_data (ToConfiguration came) byte with = now
  to_data (ToLock some) byte with = now
  to_data ToNowhere byte with = now

  to_phase : (phase : Phase) (byte : ℕ) → Keeps byte → P (values_in phase c.span c.control byte values)
  to_phase Standby byte with = now
  to_phase Busy byte with = now
  to_phase AwaitsAddress byte with = now
  to_phase AwaitsChoice byte with = now
  to_phase (AwaitsWord word) byte with = now
  to_phase (TakesData kind) byte with = to_data kind byte with
  to_phase (SendsByte source) byte with = now

  pub values_keep : (event : Event) → ((first : Bool) (byte : ℕ) → event ≡ Sent first byte → Keeps byte) → P (values_after c event values)
  unfolding values_after taking.values_after
  values_keep Start with = now
  values_keep Stop with = now
  values_keep (Sent first byte) with = to_phase c.control.phase byte (with first byte refl)
  values_keep (Read nack) with = now
  values_keep (Wp level) with = now
  values_keep CycleOver with = now
  values_keep PowerUp with = now
