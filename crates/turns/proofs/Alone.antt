-- A chip alone on the line: where the whole bus passes the checks at entry, so does the bus of that chip only; and what it makes of an
-- event is the chip's own step on stores that are all its own.
use Prim.Native.Nat.{ℕ, ◌+◌, ◌<◌, ◌≤◌}
use native.Mathlib.Nat.{zero-add}
use native.Mathlib.Omega.{arith}
use mathlib.Core.Bool.{Bool, true, false, cond, ◌&&◌, ◌||◌}
use mathlib.Core.List.{List, [], ◌++◌, append-nil}
use mathlib.Core.Path.{◌≡◌, ◌∙◌, refl, sym, ap}
use lib.ListN.{length, take, drop, drop_of_length-le}
use lib.Seq.{take_all}
use borrow.Author.Tests.{not-false}
use Rattle.base.specs.Fold.{up_to}
use Rattle.base.specs.Store.{span}
use Rattle.base.proofs.logic.Laws.{and_left, and_right}
use Rattle.base.proofs.Store.{span_length}
use Rattle.parts.specs.declared.part.Geometry.{Geometry}
use Rattle.parts.specs.Part.{is_part, geometry_of}
use Rattle.control.specs.declared.Said.TheVariants.{Nothing}
use Rattle.chip.specs.declared.Chip.{Chip}
use Rattle.chip.specs.declared.Stepped.{Stepped}
use Rattle.chip.specs.declared.event.Event.{Event}
use Rattle.chip.specs.Chip as chip
use Rattle.wellformed.specs.Wellformed.{is_set_up, counters_fit, control_fits}
use Rattle.wellformed.specs.Wellformed as own
use Rattle.promises.proofs.Keeping.Lengths.{lengths_kept}
use Rattle.promises.proofs.Keeping.Values.{unloaded_blind}
use Rattle.std.specs.Prelude.{Ok}
use Rattle.refusal.specs.Checks.{first_of}
use Rattle.board.specs.declared.Place.{Place}
use Rattle.board.specs.Place.{place_at, placed}
use Rattle.board.specs.Board.{board_verdict}
use Rattle.board.specs.Shares.{figures_at}
use Rattle.board.proofs.Laws.{start_of, ends_before}
use Rattle.decode.specs.declared.Addressed.{Addressed}
use Rattle.decode.specs.Decode.{reaches, event_of}
use Rattle.lineup.specs.Chips.{chip_at, places_of}
use Rattle.lineup.proofs.Laws.{place_at_lem}
use Rattle.line.specs.Line.{heard, play}
use Rattle.bus.specs.Step.{entry_checks, bus_with}
use Rattle.bus.proofs.Entry.{Entered, entered}
use Rattle.promises.specs.Playing.{World}
use Rattle.promises.proofs.Formed.{Formed, formed_of, of_formed, of_entry}
use Rattle.load.specs.Load.{no_values}
use Rattle.turns.specs.Idle.{is_loading}
use Rattle.turns.specs.Seen.{seen}
use Rattle.turns.specs.Alone.{only_chips, only_bus, alone}

-- stores that are all its own
abbrev pub Fits : Chip → List ℕ → List ℕ → Type 0
Fits c array security = (length array ≡ (geometry_of c.control.part).array) × (length security ≡ (geometry_of c.control.part).security)

-- a share that is the whole store, exchanged for one as long
whole_share : (n : ℕ) (store : List ℕ) → length store ≡ n → take n (drop 0 store) ≡ store
whole_share n store long = take_all n store (omega (arith, long))

whole_patch : (values store : List ℕ) → length values ≡ length store → values ++ drop (length values) (drop 0 store) ≡ values
whole_patch values store long =
    let past : drop (length values) store ≡ [] = drop_of_length-le store {i = length values} (omega (arith, long)) in
    rw past (append-nil values)

module _ (addressed : Addressed) (c : Chip) (values array security : List ℕ) (fits : Fits c array security) (reached : reaches addressed 0 ≡ true) where
  abbrev taken : Stepped × List ℕ × List ℕ
  taken = chip.step c values array security (event_of addressed)

  pub alone_plays : play addressed 1 (only_chips c) values array security ≡ (record { chips = only_chips taken.0.chip; said = heard Nothing taken.0.said }, taken.1, taken.2)
  unfolding play up_to places_of
  alone_plays =
      rw (
        reached,
        whole_share _ array fits.0,
        whole_share _ security fits.1,
        whole_patch taken.1 array (lengths_kept c values array security (event_of addressed)).0,
        whole_patch taken.2 security (lengths_kept c values array security (event_of addressed)).1,
      )

-- of the values it has those of its own load, and it sees no others
pub held_same : (c : Chip) (values array security : List ℕ) (event : Event) → chip.step c (cond (is_loading c) values no_values) array security event ≡ chip.step c values array security event
held_same c values array security event = go (is_loading c) refl
  where
    go : (loading : Bool) → is_loading c ≡ loading → chip.step c (cond loading values no_values) array security event ≡ chip.step c values array security event
    go true is = refl
    go false is = unloaded_blind c no_values values array security event (not-false _ is)

pub only_unloaded : (started : Bool) (c : Chip) (values : List ℕ) → is_loading c ≡ false → only_bus started c values ≡ only_bus started c no_values
only_unloaded started c values none = rw none

-- all that it has can be seen
pub alone_seen : (k : ℕ) (world : World) → seen (alone k world) ≡ alone k world
unfolding up_to
alone_seen k world = ap (λ (values : List ℕ). (bus_with 1 world.0.started (only_chips (chip_at world.0.chips k)) values, (alone k world).1, (alone k world).2)) (twice (is_loading (chip_at world.0.chips k)))
  where
    twice : (loading : Bool) → cond (loading || false) (cond loading world.0.values no_values) no_values ≡ cond loading world.0.values no_values
    twice true = refl
    twice false = refl

-- the shares of a chip that the count fills are as long as its part says
module _ (world : World) (enters : first_of (entry_checks world.0 world.1 world.2) ≡ Ok tt) (k : ℕ) (below : k < world.0.count) where
  abbrev chips : List Chip
  chips = world.0.chips

  abbrev places : List Place
  places = places_of chips

  abbrev c : Chip
  c = chip_at chips k

  abbrev entry : Entered world.0 world.1 world.2
  entry = entered world.0 world.1 world.2 enters

  part_of : (place_at places k).part ≡ c.control.part
  part_of = ap (λ (p : Place). p.part) (place_at_lem chips k (omega (arith, entry.chips_most)))

  share_long : (size : Geometry → ℕ) (store : List ℕ) → length store ≡ start_of (λ (i : ℕ). size (figures_at places i)) (placed world.0.count)
      → length (span (start_of (λ (i : ℕ). size (figures_at places i)) k) (size (figures_at places k)) store) ≡ size (geometry_of c.control.part)
  share_long size store fits =
      let share : ℕ → ℕ = λ (i : ℕ). size (figures_at places i) in
      let inside : start_of share k + share k ≤ start_of share (placed world.0.count) = ends_before share k (placed world.0.count) (omega (arith, entry.all_placed)) in
      span_length (start_of share k) (share k) store (omega (arith, fits, inside)) ∙ ap (λ (part : ℕ). size (geometry_of part)) part_of

  pub shares_fit : Fits (chip_at world.0.chips k) (alone k world).1 (alone k world).2
  shares_fit = (share_long (λ g. g.array) world.1 entry.array_fits, share_long (λ g. g.security) world.2 entry.security_fits)

  formed : Formed world.0.count world.0.started chips
  formed = formed_of world.0.count world.0.started chips entry.formed

  fit : own.well_formed c ≡ true
  fit = formed.fit k (omega (arith, entry.all_placed))

  set_up_lem : board_verdict 1 (places_of (only_chips c)) ≡ Ok tt
  unfolding board_verdict places_of up_to own.well_formed
  set_up_lem =
      let known : is_set_up c.control ≡ true = and_left (is_set_up c.control) _ (and_left (is_set_up c.control && counters_fit c.control) _ (and_left (control_fits c.control) _ fit)) in
      rw (and_left (is_part c.control.part) _ known, and_right (is_part c.control.part) _ known)

  pub alone_enters : first_of (entry_checks (alone k world).0 (alone k world).1 (alone k world).2) ≡ Ok tt
  unfolding up_to places_of
  alone_enters =
      of_entry (alone k world).0 (alone k world).1 (alone k world).2 (
        of_formed 1 world.0.started (only_chips c) (
            record {
              set_up_lem = set_up_lem;
              fit = λ i first. let is : i ≡ 0 = omega arith in rw is fit;
              apart = λ i j first before. absurd (omega arith);
              heed = λ i first. let is : i ≡ 0 = omega arith in rw is (formed.heed k (omega (arith, entry.all_placed)));
            }
            ),
        shares_fit.0 ∙ sym (zero-add _),
        shares_fit.1 ∙ sym (zero-add _),
      )
