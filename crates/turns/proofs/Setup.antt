-- Every bus that set-up lets through is one that turns may begin on: its chips are fresh, and a fresh chip is at rest. What a
-- call of it hands back is a value of its type.
use Prim.Native.Nat.{ℕ, ◌<◌, ◌^◌}
use native.Mathlib.Omega.{arith}
use mathlib.Core.Bool.{true, false, false≢true}
use mathlib.Core.List.{List}
use mathlib.Core.Path.{◌≡◌, ◌∙◌, refl, sym, ap, subst}
use lib.Dec.{lit<}
use lib.ListN.{replicate}
use Rattle.base.specs.Fold.{all_below}
use Rattle.base.specs.Every.{Every}
use Rattle.base.proofs.Fold.{up_keeps, all_each}
use Rattle.base.proofs.Every.{every_set}
use Rattle.load.specs.Load.{no_values}
use Rattle.control.specs.declared.phase.Phase.TheVariants.{Standby}
use Rattle.chip.specs.declared.Chip.{Chip}
use Rattle.chip.specs.Chip.{fresh}
use Rattle.chip.proofs.Typed.{ChipTyped}
use Rattle.refusal.specs.Verdict.{Verdict}
use Rattle.std.specs.Prelude.{Ok, Err}
use Rattle.refusal.specs.Checks.{first_of}
use Rattle.std.specs.Result.{is_ok}
use Rattle.board.specs.declared.Place.{Place}
use Rattle.board.specs.Place.{place_at, placed}
use Rattle.board.proofs.Laws.{placed_most}
use Rattle.lineup.specs.Chips.{no_chip, chip_at}
use Rattle.lineup.proofs.Filled.{filled_length, filled_at}
use Rattle.bus.specs.declared.SetUp.{SetUp}
use Rattle.bus.specs.Setup.{set_up_checks, empty_chip, fresh_chips, set_up_by, set_up}
use Rattle.bus.proofs.Typed.{OfItsType, bus_typed}
use Rattle.promises.proofs.Calls.{SetUpCall, set_up_typed}
use Rattle.promises.proofs.Setup.{set_up_is_well_formed}
use Rattle.turns.specs.Idle.{is_at_rest, is_idle}
use Rattle.turns.specs.Undisturbed.{Ready}
use Rattle.turns.proofs.Typed.{standby_typed, fresh_typed, unloaded_typed, empty_typed, no_values_typed}

fresh_rests : (part strap : ℕ) → is_at_rest (fresh part strap) ≡ true
fresh_rests part strap = refl

pub set_up_is_ready : (count : ℕ) (places : List Place) (array security : List ℕ) → (set_up count places array security).verdict ≡ Ok tt
    → Ready ((set_up count places array security).bus, array, security)
unfolding set_up is_idle
set_up_is_ready count places array security passed =
    record { enters = set_up_is_well_formed count places array security passed; idle = go (first_of (set_up_checks count places array security)) passed }
  where
    fresh_at : ℕ → Chip
    fresh_at i = fresh (place_at places i).part (place_at places i).strap

    rests : (i : ℕ) → i < placed count → is_at_rest (chip_at (fresh_chips places (placed count)) i) ≡ true
    rests i below =
        ap is_at_rest (filled_at fresh_at (replicate 4 empty_chip) (placed count) i no_chip (omega (arith, placed_most count)) below)
        ∙ fresh_rests (place_at places i).part (place_at places i).strap

    go : (verdict : Verdict) → (set_up_by verdict count places).verdict ≡ Ok tt
        → let bus = (set_up_by verdict count places).bus in all_below (λ (i : ℕ). is_at_rest (chip_at bus.chips i)) (placed bus.count) ≡ true
    go (Ok tt) is = all_each (λ (i : ℕ). is_at_rest (chip_at (fresh_chips places (placed count)) i)) (placed count) rests
    go (Err refusal) is = absurd (false≢true (ap is_ok is))

-- and of its type, whatever it says, where its count and its places are values of theirs
pub set_up_is_typed : (count : ℕ) (places : List Place) (array security : List ℕ) → count < 2 ^ 64 → ((i : ℕ) → ((place_at places i).part < 256) × ((place_at places i).strap < 256))
    → OfItsType (set_up count places array security).bus
unfolding set_up
set_up_is_typed count places array security fits bytes = go (first_of (set_up_checks count places array security))
  where
    fresh_at : ℕ → Chip
    fresh_at i = fresh (place_at places i).part (place_at places i).strap

    typed_at : (i : ℕ) → ChipTyped (fresh_at i)
    typed_at i = unloaded_typed _ (fresh_typed (place_at places i).part (place_at places i).strap (bytes i).0 (bytes i).1 false Standby standby_typed)

    none : Every ChipTyped (replicate 4 empty_chip)
    none = (empty_typed, (empty_typed, (empty_typed, (empty_typed, tt))))

    go : (verdict : Verdict) → OfItsType (set_up_by verdict count places).bus
    go (Ok tt) =
        bus_typed count false (fresh_chips places (placed count)) no_values fits (filled_length fresh_at (replicate 4 empty_chip) (placed count))
        (up_keeps _ (Every ChipTyped) (λ i chips so_far. every_set ChipTyped chips i (fresh_at i) so_far (typed_at i)) (placed count) (replicate 4 empty_chip) none)
        no_values_typed
    go (Err refusal) = bus_typed 0 false (replicate 4 empty_chip) no_values (lit< tt) refl none no_values_typed

-- the same of a call of `Bus::set_up`
module _ (call : SetUpCall) where
  abbrev array : List ℕ
  array = call.arguments.1.1.0.now

  abbrev security : List ℕ
  security = call.arguments.1.1.1.0.now

  pub a_set_up_is_ready : call.result.verdict ≡ Ok tt → OfItsType call.result.bus × Ready (call.result.bus, array, security)
  a_set_up_is_ready passed = (
    set_up_typed call,
    subst (λ (up : SetUp). Ready (up.bus, array, security)) (sym call.ensured)
        (set_up_is_ready call.arguments.0 call.arguments.1.0 array security (ap (λ (up : SetUp). up.verdict) (sym call.ensured) ∙ passed)),
  )
