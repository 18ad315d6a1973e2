-- Demands 2 and 3 start from the loaded store (request E1): a load, refused or not, keeps the array store's length, and the bus and the
-- security store are as they were, so turns may begin where they might before it.
use Prim.Native.Nat.{ℕ}
use mathlib.Core.List.{List}
use Rattle.bus.specs.declared.Bus.{Bus}
use Rattle.image.specs.Load.{load}
use Rattle.image.proofs.Others.{loaded_length}
use Rattle.turns.specs.Undisturbed.{Ready}

pub loading_keeps_ready : (bus : Bus) (array security : List ℕ) (k : ℕ) (text : List ℕ) → Ready (bus, array, security)
    → Ready (bus, (load bus array security k text).1, security)
loading_keeps_ready bus array security k text ready = record { enters = rw (loaded_length bus array security k text) ready.enters; idle = ready.idle }
