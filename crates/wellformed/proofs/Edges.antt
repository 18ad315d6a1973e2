-- Both sides of clauses of refusal 10, computed: the place in the ID (request E5), and each clause on a load (request E10). The first place and
-- the count at the page's end, a load on standby, and a counter that stands where the next byte runs on, and one place off. Then what an AT24CM01
-- does not have (request E7).
use Prim.Native.Nat.{ℕ}
use mathlib.Core.Bool.{Bool, true, false}
use mathlib.Core.List.{List, [], ◌∷◌, map}
use mathlib.Core.Path.{◌≡◌, refl}
use Rattle.parts.specs.Part.{geometry_of}
use Rattle.load.specs.Span.{empty_span}
use Rattle.control.specs.declared.Control.{Control}
use Rattle.control.specs.declared.phase.Phase.{Phase}
use Rattle.control.specs.declared.phase.Phase.TheVariants.{Standby, Busy, AwaitsAddress, AwaitsChoice, AwaitsWord, TakesData, SendsByte}
use Rattle.control.specs.declared.phase.Word.TheVariants.{ArrayFirst, ArraySecond, RegisterFirst, RegisterSecond}
use Rattle.control.specs.declared.phase.Data.{Data}
use Rattle.control.specs.declared.phase.Data.TheVariants.{ToArray, ToSecurity, ToConfiguration, ToLock, ToNowhere}
use Rattle.control.specs.declared.phase.Came.TheVariants.{Zero}
use Rattle.control.specs.declared.phase.Source.TheVariants.{FromArray, FromSecurity, FromConfiguration, FromId, FromNothing}
use Rattle.control.specs.declared.phase.Shown.TheVariants.{ShowsNothing}
use Rattle.control.specs.Control.{in_phase, showing, choosing, arraycounter_at, securitycounter_at, idlocked_now, configured, wp_at}
use Rattle.control.specs.Control as control
use Rattle.chip.specs.declared.Chip.{Chip}
use Rattle.chip.specs.Chip.{fresh}
use Rattle.wellformed.specs.Wellformed.{well_formed}

-- a 24CS32 that sends its ID from a place on
abbrev sends_id_from : ℕ → Chip
sends_id_from place = let c = fresh 2 0 in record { control = in_phase (SendsByte (FromId place)) c.control; span = c.span }

pub id_places_on_both_sides : map (λ (place : ℕ). well_formed (sends_id_from place)) (0 ∷ 2 ∷ 3 ∷ 255 ∷ []) ≡ true ∷ true ∷ false ∷ false ∷ []
unfolding well_formed geometry_of
id_places_on_both_sides = refl

-- a chip with so much loaded from a place on
abbrev loading : Control → ℕ → ℕ → Chip
loading c first count = record { control = c; span = record { first = first; count = count } }

-- taking some data
abbrev taking : Data → ℕ → Control
taking kind part = in_phase (TakesData kind) (control.fresh part 0)

-- taking array data, its counter at an address
abbrev array_at : ℕ → ℕ → Control
array_at part at = arraycounter_at at (taking ToArray part)

abbrev security_at : ℕ → ℕ → Control
security_at part at = securitycounter_at at (taking ToSecurity part)

-- the first place is below the page's size, of an empty load too: 31 and 32 on a 24CS32, and 255 on a 24CSM01
pub first_on_both_sides : map (λ (first : ℕ). well_formed (loading (array_at 2 0) first 0)) (0 ∷ 31 ∷ 32 ∷ 255 ∷ []) ≡ true ∷ true ∷ false ∷ false ∷ []
unfolding well_formed geometry_of
first_on_both_sides = refl

pub first_of_the_largest_page : well_formed (loading (array_at 1 0) 255 0) ≡ true
unfolding well_formed geometry_of
first_of_the_largest_page = refl

-- the count is at most the page's size: 32 and 33 on a 24CS32, 256 and 257 on a 24CSM01
pub count_on_both_sides : map (λ (count : ℕ). well_formed (loading (array_at 2 7) 7 count)) (0 ∷ 32 ∷ 33 ∷ []) ≡ true ∷ true ∷ false ∷ []
unfolding well_formed geometry_of
count_on_both_sides = refl

pub count_of_the_largest_page : map (λ (count : ℕ). well_formed (loading (array_at 1 7) 7 count)) (0 ∷ 256 ∷ 257 ∷ []) ≡ true ∷ true ∷ false ∷ []
unfolding well_formed geometry_of
count_of_the_largest_page = refl

-- only a chip taking data holds a load: one byte on standby, and one of data that is not loaded, which nothing reads (D22)
pub standby_on_both_sides : map (λ (count : ℕ). well_formed (loading (in_phase Standby (control.fresh 2 0)) 0 count)) (0 ∷ 1 ∷ []) ≡ true ∷ false ∷ []
unfolding well_formed geometry_of
standby_on_both_sides = refl

pub other_data_on_both_sides :
    map (λ (kind : Data). well_formed (loading (taking kind 2) 5 1)) (ToConfiguration Zero ∷ ToLock true ∷ ToNowhere ∷ ToArray ∷ ToSecurity ∷ [])
    ≡ true ∷ true ∷ true ∷ false ∷ false ∷ []
unfolding well_formed geometry_of
other_data_on_both_sides = refl

-- one byte at place 5: the counter stands at place 6 of whatever page; 20 bytes from place 31 on, which went round: at place 19; and with a
-- whole page it may stand anywhere
pub array_counter_on_both_sides :
    map (λ (at : ℕ). well_formed (loading (array_at 2 at) 5 1)) (5 ∷ 6 ∷ 7 ∷ 38 ∷ []) ≡ false ∷ true ∷ false ∷ true ∷ []
unfolding well_formed geometry_of
array_counter_on_both_sides = refl

pub wrapped_counter_on_both_sides :
    map (λ (at : ℕ). well_formed (loading (array_at 2 at) 31 20)) (18 ∷ 19 ∷ 20 ∷ []) ≡ false ∷ true ∷ false ∷ []
unfolding well_formed geometry_of
wrapped_counter_on_both_sides = refl

pub full_page_counter : map (λ (at : ℕ). well_formed (loading (array_at 2 at) 5 32)) (4 ∷ 5 ∷ 6 ∷ []) ≡ true ∷ true ∷ true ∷ []
unfolding well_formed geometry_of
full_page_counter = refl

pub security_counter_on_both_sides :
    map (λ (at : ℕ). well_formed (loading (security_at 1 at) 254 2)) (511 ∷ 256 ∷ 257 ∷ []) ≡ false ∷ true ∷ false ∷ []
unfolding well_formed geometry_of
security_counter_on_both_sides = refl

-- a fresh AT24CM01, and beside it a fresh 24CSM01, with one thing changed
abbrev on_both : (Control → Control) → Bool × Bool
on_both change =
    let formed : Control → Bool = λ c. well_formed (record { control = c; span = empty_span }) in
    (formed (change (control.fresh 3 0)), formed (change (control.fresh 1 0)))

-- what both have
pub array_side_on_both : map on_both (wp_at true ∷ arraycounter_at 0x1FFFF ∷ arraycounter_at 0x20000 ∷ showing ShowsNothing ∷ [])
    ≡ (true, true) ∷ (true, true) ∷ (false, false) ∷ (true, true) ∷ []
unfolding well_formed geometry_of
array_side_on_both = refl

-- its security counter is well formed exactly when 0, its registers are all unused bits, and it is never chosen
pub without_registers_on_both : map on_both (securitycounter_at 0 ∷ securitycounter_at 1 ∷ configured 2 0 ∷ configured 0 1 ∷ idlocked_now ∷ choosing false ∷ choosing true ∷ [])
    ≡ (true, true) ∷ (false, true) ∷ (false, true) ∷ (false, true) ∷ (false, true) ∷ (true, true) ∷ (false, true) ∷ []
unfolding well_formed geometry_of
without_registers_on_both = refl

abbrev in_phases : List Phase → List (Bool × Bool)
in_phases phases = map (λ (phase : Phase). on_both (in_phase phase)) phases

pub array_phases_on_both :
    in_phases (Standby ∷ Busy ∷ AwaitsAddress ∷ AwaitsWord (ArrayFirst true) ∷ AwaitsWord (ArraySecond true 0) ∷ TakesData ToArray ∷ SendsByte FromArray ∷ [])
    ≡ (true, true) ∷ (true, true) ∷ (true, true) ∷ (true, true) ∷ (true, true) ∷ (true, true) ∷ (true, true) ∷ []
unfolding well_formed geometry_of
array_phases_on_both = refl

pub register_phases_on_both :
    in_phases (AwaitsWord RegisterFirst ∷ AwaitsWord (RegisterSecond 0x08) ∷ TakesData ToSecurity ∷ TakesData (ToConfiguration Zero) ∷ TakesData (ToLock false)
    ∷ TakesData ToNowhere ∷ SendsByte FromSecurity ∷ SendsByte (FromConfiguration false) ∷ SendsByte FromNothing ∷ [])
    ≡ (false, true) ∷ (false, true) ∷ (false, true) ∷ (false, true) ∷ (false, true) ∷ (false, true) ∷ (false, true) ∷ (false, true) ∷ (false, true) ∷ []
unfolding well_formed geometry_of
register_phases_on_both = refl

pub identity_phases_on_both : in_phases (AwaitsChoice ∷ SendsByte (FromId 0) ∷ []) ≡ (false, true) ∷ (false, true) ∷ []
unfolding well_formed geometry_of
identity_phases_on_both = refl
