-- A step of an event that passes 6 and 7, on a bus that passes 10 and 5: only the line is left to refuse it. Refused it leaves all; played
-- it moves each chip by itself.
use Prim.Native.Nat.{ℕ, ◌<◌, ◌≤◌}
use native.Mathlib.Omega.{arith}
use mathlib.Core.Bool.{Bool, false, cond}
use mathlib.Core.List.{List}
use mathlib.Core.Path.{◌≡◌, ◌∙◌, refl, ap}
use Rattle.chip.specs.declared.Chip.{Chip}
use Rattle.chip.specs.declared.event.Event.{Event}
use Rattle.refusal.specs.declared.Refusal.{Refusal}
use Rattle.refusal.specs.declared.Refusal.TheVariants.{Clash}
use Rattle.refusal.specs.Verdict.{Verdict}
use Rattle.std.specs.Prelude.{Ok, Err}
use Rattle.refusal.specs.Checks.{first_of}
use Rattle.decode.specs.declared.Addressed.{Addressed}
use Rattle.decode.specs.declared.Addressed.TheVariants.{ToAll}
use Rattle.decode.specs.Decode.{event_of}
use Rattle.lineup.specs.Chips.{chip_at, places_of}
use Rattle.line.specs.Line.{clash, line_checks, values_after}
use Rattle.bus.specs.Step.{event_checks, remembers, refused, played, step_by, event, step}
use Rattle.bus.proofs.Entry.{Entered, entered}
use Rattle.bus.proofs.Typed.{has_four}
use Rattle.promises.specs.Own.{own}
use Rattle.promises.specs.Playing.{World, Made, stepped, led_to, after_one}
use Rattle.promises.proofs.Chips.{each_chip_takes_its_own, the_rest_stays}
use Rattle.promises.proofs.Kept.{Kept, places_stay}
use Rattle.promises.proofs.Runs.{step_is_event, step_keeps}
use Rattle.turns.specs.Alone.{alone, only_bus}
use Rattle.turns.proofs.Asked.{Legal}
use Rattle.turns.proofs.Entering.{Entering}

-- what the line says of an event: 12, 8, or nothing against it
abbrev pub line_verdict : Addressed → World → Verdict
line_verdict addressed world = first_of (line_checks addressed world.0.count world.0.chips)

-- of an event to all it can only say 8
pub to_all_passes : (world : World) (event : Event) → clash event world.0.count world.0.chips ≡ false → line_verdict (ToAll event) world ≡ Ok tt
to_all_passes world event calm = ap (λ (clashes : Bool). cond clashes (Err Clash) (Ok tt)) calm

module _ (world : World) (word : ℕ) (addressed : Addressed) (e : Entering world) (legal : Legal world.0.started world.0.count word addressed) where
  abbrev count : ℕ
  count = world.0.count

  abbrev chips : List Chip
  chips = world.0.chips

  entry : Entered world.0 world.1 world.2
  entry = entered world.0 world.1 world.2 e.enters

  verdict : first_of (event_checks world.0 word) ≡ line_verdict addressed world
  verdict = rw (legal.0, legal.1, legal.2)

  step_by_lem : (v : Verdict) → line_verdict addressed world ≡ v → stepped step world word ≡ step_by v world.0 world.1 world.2 word
  unfolding event
  step_by_lem v is =
      step_is_event world.0 world.1 world.2 word e.enters
      ∙ ap (λ (v : Verdict). step_by v world.0 world.1 world.2 word) (verdict ∙ is)

  pub step_refused : (refusal : Refusal) → line_verdict addressed world ≡ Err refusal → stepped step world word ≡ refused refusal world.0 world.1 world.2
  step_refused refusal is = step_by_lem (Err refusal) is

  pub step_plays : line_verdict addressed world ≡ Ok tt → stepped step world word ≡ played addressed world.0 world.1 world.2
  step_plays is = step_by_lem (Ok tt) is ∙ ap (λ (o : Addressed). played o world.0 world.1 world.2) legal.2

  -- what holds of a world as it is, and as it is played, holds after a step
  led : (P : World → Type 0) → P world → P (led_to (played addressed world.0 world.1 world.2)) → P (after_one step world word)
  led P stays moves = go (line_verdict addressed world) refl
    where
      go : (v : Verdict) → line_verdict addressed world ≡ v → P (after_one step world word)
      go (Err refusal) is = rw (step_refused refusal is) stays
      go (Ok tt) is = rw (step_plays is) moves

  kept : Kept world.0 (stepped step world word)
  kept = step_keeps world.0 world.1 world.2 word e.typed e.enters

  pub count_kept : (after_one step world word).0.count ≡ world.0.count
  count_kept = kept.count

  pub board_kept : places_of (after_one step world word).0.chips ≡ places_of world.0.chips
  board_kept = kept.places

  pub rest_kept : (i : ℕ) → world.0.count ≤ i → chip_at (after_one step world word).0.chips i ≡ chip_at world.0.chips i
  unfolding played
  rest_kept i past =
      led (λ (next : World). chip_at next.0.chips i ≡ chip_at chips i) refl
      (the_rest_stays addressed count chips world.0.values world.1 world.2 (has_four e.typed) entry.array_fits entry.security_fits i (omega (arith, entry.all_placed)))

  -- played, each chip has made its own step
  pub each_moves : line_verdict addressed world ≡ Ok tt → (i : ℕ) → i < world.0.count
      → let mine = own addressed world.0.chips world.0.values world.1 world.2 i in alone i (after_one step world word) ≡ (only_bus (remembers (event_of addressed) world.0.started) mine.0.chip (values_after addressed world.0.count world.0.chips world.0.values), mine.1, mine.2)
  unfolding played
  each_moves is i below =
      let (chip_is, array_is, security_is) = each_chip_takes_its_own addressed count chips world.0.values world.1 world.2 (has_four e.typed) entry.array_fits entry.security_fits i (omega (arith, entry.all_placed)) in
      ap (λ (next : Made). alone i (led_to next)) (step_plays is)
      ∙ rw (
        places_stay addressed count chips world.0.values world.1 world.2 (has_four e.typed) entry.array_fits entry.security_fits,
        chip_is,
        array_is,
        security_is,
      )
