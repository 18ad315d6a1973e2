-- A chip's own part of what makes a state well formed, clause by clause (paper, "Well formed means").
use Rattle.std.specs.Prelude.{ℕ, Bool, true, cond, not, ◌&&◌, ◌||◌, eqb, ltb}
use Rattle.parts.specs.declared.part.Geometry.{Geometry}
use Rattle.parts.specs.Part.{is_part, geometry_of}
use Rattle.regions.specs.Page.{place_of}
use Rattle.load.specs.declared.Span.{Span}
use Rattle.load.specs.Span.{is_empty, inside_page, runs_on}
use Rattle.control.specs.declared.Control.{Control}
use Rattle.control.specs.declared.phase.Phase.{Phase}
use Rattle.control.specs.declared.phase.Phase.TheVariants.{Standby, Busy, AwaitsAddress, AwaitsChoice, AwaitsWord, TakesData, SendsByte}
use Rattle.control.specs.declared.phase.Word.{Word}
use Rattle.control.specs.declared.phase.Word.TheVariants.{ArrayFirst, ArraySecond, RegisterFirst, RegisterSecond}
use Rattle.control.specs.declared.phase.Data.{Data}
use Rattle.control.specs.declared.phase.Data.TheVariants.{ToArray, ToSecurity, ToConfiguration, ToLock, ToNowhere}
use Rattle.control.specs.declared.phase.Source.{Source}
use Rattle.control.specs.declared.phase.Source.TheVariants.{FromArray, FromSecurity, FromConfiguration, FromId, FromNothing}
use Rattle.control.specs.Phase.{is_busy, takes_data, is_sending, is_taking, awaits_address}
use Rattle.chip.specs.declared.Chip.{Chip}

-- set-up would pass 2 and 3
abbrev pub is_set_up : Control → Bool
is_set_up c = is_part c.part && ltb c.strap (geometry_of c.part).straps

-- every counter is inside its region; one that has no region is 0 (request E7)
abbrev pub counter_fits : ℕ → ℕ → Bool
counter_fits size at = cond (eqb size 0) (eqb at 0) (ltb at size)

abbrev pub counters_fit : Control → Bool
counters_fit c =
    counter_fits (geometry_of c.part).array c.arraycounter && counter_fits (geometry_of c.part).security c.securitycounter

-- and so is every place: what is sent, taken and awaited is something that the part has (request E7), and the place in the ID is one of its three bytes
abbrev pub source_fits : Geometry → Source → Bool
source_fits g FromArray = true
source_fits g FromSecurity = g.registers
source_fits g (FromConfiguration second) = g.registers
source_fits g (FromId place) = g.identifies && ltb place 3
source_fits g FromNothing = g.registers

abbrev pub data_fits : Geometry → Data → Bool
data_fits g ToArray = true
data_fits g ToSecurity = g.registers
data_fits g (ToConfiguration came) = g.registers
data_fits g (ToLock some) = g.registers
data_fits g ToNowhere = g.registers

abbrev pub word_fits : Geometry → Word → Bool
word_fits g (ArrayFirst a16) = true
word_fits g (ArraySecond a16 first) = true
word_fits g RegisterFirst = g.registers
word_fits g (RegisterSecond first) = g.registers

abbrev pub phase_fits : Geometry → Phase → Bool
phase_fits g Standby = true
phase_fits g Busy = true
phase_fits g AwaitsAddress = true
phase_fits g AwaitsChoice = g.identifies
phase_fits g (AwaitsWord word) = word_fits g word
phase_fits g (TakesData kind) = data_fits g kind
phase_fits g (SendsByte source) = source_fits g source

-- every register's unused bits and ECS are 0; of a part without registers all are unused, and so is the lock of its ID page (request E7)
abbrev pub unused_bits_clear : Control → Bool
unused_bits_clear c =
    cond (geometry_of c.part).registers (ltb c.config0 4) ((eqb c.config0 0 && eqb c.config1 0) && not c.idlocked)

-- a busy chip is not chosen; that it neither sends nor takes, the phase says
abbrev pub busy_not_chosen : Control → Bool
busy_not_chosen c = not (is_busy c.phase && c.chosen)

-- nor is a chip that does not identify itself (request E7)
abbrev pub only_able_chosen : Control → Bool
only_able_chosen c = not c.chosen || (geometry_of c.part).identifies

abbrev pub control_fits : Control → Bool
control_fits c =
    (is_set_up c && counters_fit c)
    && ((unused_bits_clear c && phase_fits (geometry_of c.part) c.phase) && (busy_not_chosen c && only_able_chosen c))

-- only a chip taking data bytes holds a load
abbrev pub only_data_loads : Control → Span → Bool
only_data_loads c span = is_empty span || takes_data c.phase

-- and the byte that would come next for the array or the security register runs on from those that came (request E10); other data is not loaded
abbrev pub next_data_runs_on : Data → Control → Span → Bool
next_data_runs_on ToArray c span = runs_on (geometry_of c.part).page span (place_of (geometry_of c.part) c.arraycounter)
next_data_runs_on ToSecurity c span = runs_on (geometry_of c.part).page span (place_of (geometry_of c.part) c.securitycounter)
next_data_runs_on (ToConfiguration came) c span = true
next_data_runs_on (ToLock some) c span = true
next_data_runs_on ToNowhere c span = true

abbrev pub next_runs_on : Phase → Control → Span → Bool
next_runs_on Standby c span = true
next_runs_on Busy c span = true
next_runs_on AwaitsAddress c span = true
next_runs_on AwaitsChoice c span = true
next_runs_on (AwaitsWord word) c span = true
next_runs_on (TakesData kind) c span = next_data_runs_on kind c span
next_runs_on (SendsByte source) c span = true

-- and every load position is inside the page
abbrev pub span_fits : Control → Span → Bool
span_fits c span = inside_page (geometry_of c.part).page span && (only_data_loads c span && next_runs_on c.phase c span)

unfoldable pub well_formed : Chip → Bool
well_formed c = control_fits c.control && span_fits c.control c.span

-- while a Start is remembered, no chip is sending or taking anything but an address byte, and a chip awaits an address byte only while it is
-- (request E8)
abbrev pub heeds_start : Bool → Phase → Bool
heeds_start started phase =
    cond started (not (is_sending phase) && (not (is_taking phase) || awaits_address phase)) (not (awaits_address phase))
