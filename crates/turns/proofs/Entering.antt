-- A bus that is a value of its type and passes the checks at entry: every step leads from such a bus to such a bus. And one that is idle and remembers
-- no Start: so does every turn.
use Prim.Native.Nat.{ℕ}
use mathlib.Core.Bool.{Bool, true, false}
use mathlib.Core.List.{List, [], ◌∷◌}
use mathlib.Core.Path.{◌≡◌, refl}
use Rattle.std.specs.Prelude.{Ok}
use Rattle.refusal.specs.Checks.{first_of}
use Rattle.bus.specs.Step.{entry_checks, step}
use Rattle.bus.proofs.Typed.{OfItsType}
use Rattle.promises.specs.Playing.{World, after_one, after}
use Rattle.promises.proofs.Runs.{step_keeps}
use Rattle.turns.specs.Idle.{is_idle}
use Rattle.turns.specs.Alone.{with_start}
use Rattle.turns.specs.Undisturbed.{Ready}

pub record Entering (world : World) : Type 0 where
  pub typed : OfItsType world.0
  pub enters : first_of (entry_checks world.0 world.1 world.2) ≡ Ok tt

pub entering_kept : (world : World) (word : ℕ) → Entering world → Entering (after_one step world word)
entering_kept world word e =
    let kept = step_keeps world.0 world.1 world.2 word e.typed e.enters in
    record { typed = kept.typed; enters = kept.enters }

pub entering_after : (events : List ℕ) (world : World) → Entering world → Entering (after step world events)
unfolding after
entering_after [] world e = e
entering_after (word ∷ more) world e = entering_after more (after_one step world word) (entering_kept world word e)

pub record Idling (world : World) : Type 0 where
  pub entering : Entering world
  pub idle : is_idle world.0 ≡ true
  pub forgot : world.0.started ≡ false

-- what the line remembers has no part in being idle
pub idle_whatever_is_remembered : (started : Bool) (world : World) → is_idle (with_start started world).0 ≡ is_idle world.0
unfolding is_idle
idle_whatever_is_remembered started world = refl

pub idling : {world : World} → OfItsType world.0 → Ready world → world.0.started ≡ false → Idling world
idling typed ready forgot = record { entering = record { typed = typed; enters = ready.enters }; idle = ready.idle; forgot = forgot }

pub ready_of : {world : World} → Idling world → OfItsType world.0 × Ready world
ready_of waits = (waits.entering.typed, record { enters = waits.entering.enters; idle = waits.idle })
