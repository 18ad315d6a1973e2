-- The round trip as callers of `image::saving::save` and `image::loading::load` see it, by the two contracts alone. Of what a lent slice holds
-- a call says nothing (it has its length), so that the array that is saved holds bytes is asked.
use Prim.Native.Nat.{ℕ}
use mathlib.Core.List.{List}
use mathlib.Core.Path.{◌≡◌, ◌∙◌, sym, ap}
use lib.ListN.{take}
use Rattle.base.specs.Every.{AllBytes}
use Rattle.base.proofs.Call.{Call}
use Rattle.std.specs.Prelude.{Ok}
use Rattle.refusal.specs.Checks.{first_of}
use Rattle.lineup.specs.Chips.{places_of}
use Rattle.bus.specs.declared.Bus.{Bus}
use Rattle.bus.specs.Step.{chip_checks}
use Rattle.image.specs.Load.{Loaded, loaded, with_share, load}
use Rattle.image.specs.Save.{Saved}
use Rattle.image.proofs.Saved.{part_at, share_at, saved_loads_back}
use Rattle.image.proofs.loading.load.Kinds as load_kinds
use Rattle.image.proofs.loading.load.Reads as load_reads
use Rattle.image.proofs.saving.save.Kinds as save_kinds
use Rattle.image.proofs.saving.save.Reads as save_reads

abbrev pub SaveCall : Type 0
SaveCall = Call save_kinds.ps save_kinds.r save_reads.Post

abbrev pub LoadCall : Type 0
LoadCall = Call load_kinds.ps load_kinds.r load_reads.Post

-- ---- a save
module _ (call : SaveCall) where
  -- the bus, the stores and the chip that it was given
  abbrev pub save_bus : Bus
  save_bus = call.arguments.0

  abbrev pub save_array : List ℕ
  save_array = call.arguments.1.0.now

  abbrev pub save_security : List ℕ
  save_security = call.arguments.1.1.0.now

  abbrev pub save_chip : ℕ
  save_chip = call.arguments.1.1.1.0

  -- the text that it wrote: so many bytes from the start of the buffer that it leaves
  abbrev pub text_written : ℕ → List ℕ
  text_written count = take count call.at_exit.1.1.1.1.0.now

-- ---- a load
module _ (call : LoadCall) where
  -- the bus, the stores, the chip and the text that it was given
  abbrev pub load_bus : Bus
  load_bus = call.arguments.0

  abbrev pub load_array : List ℕ
  load_array = call.arguments.1.0.now

  abbrev pub load_security : List ℕ
  load_security = call.arguments.1.1.0.now

  abbrev pub load_chip : ℕ
  load_chip = call.arguments.1.1.1.0

  abbrev pub load_text : List ℕ
  load_text = call.arguments.1.1.1.1.0.now

  -- the array store that it leaves
  abbrev pub array_left : List ℕ
  array_left = call.at_exit.1.0.now

-- what a call of `save` wrote, any call of `load` takes, for a chip of the same part, on another board and at another place too; it leaves its
-- array store with that chip's share exchanged for the one that was saved
pub a_save_loads_back : (one : SaveCall) (count : ℕ) → one.result ≡ Ok count → AllBytes (save_array one)
    → (other : LoadCall) → load_text other ≡ text_written one count
    → first_of (chip_checks (load_bus other) (load_array other) (load_security other) (load_chip other)) ≡ Ok tt
    → part_at (load_bus other) (load_chip other) ≡ part_at (save_bus one) (save_chip one)
    → (other.result ≡ loaded)
    × (array_left other
    ≡ with_share (places_of (load_bus other).chips) (load_chip other) (load_array other) (share_at (save_bus one) (save_array one) (save_chip one)))
a_save_loads_back one count passes bytes other same_text there same_part =
    let saved = sym (ap (λ (end : Saved × List ℕ). end.0) one.ensured) ∙ passes in
    let text = same_text ∙ ap (λ (end : Saved × List ℕ). take count end.1) one.ensured in
    let loads = ap (load (load_bus other) (load_array other) (load_security other) (load_chip other)) text in
    let back = saved_loads_back (save_bus one) (save_array one) (save_security one) (save_chip one) _ count saved bytes in
    let is = other.ensured ∙ loads ∙ back (load_bus other) (load_array other) (load_security other) (load_chip other) there same_part in
    (ap (λ (end : Loaded × List ℕ). end.0) is, ap (λ (end : Loaded × List ℕ). end.1) is)
