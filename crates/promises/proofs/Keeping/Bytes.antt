-- Bytes stay bytes under every event: a chip loads, stores and configures only what the host sent, and sends only what it holds, its ID
-- bytes, or FF.
use Prim.Native.Nat.{ℕ, zero, suc, ◌*◌}
use native.Mathlib.Omega.{arith}
use mathlib.Core.Bool.{Bool, cond, not, ◌&&◌}
use mathlib.Core.List.{List, [], ◌∷◌}
use mathlib.Core.Path.{subst}
use lib.ListN.{replicate}
use Rattle.base.specs.Every.{FitsByte, AllBytes}
use Rattle.base.proofs.logic.Laws.{either}
use Rattle.base.proofs.Fold.{up_keeps}
use Rattle.base.proofs.Every.{every_at, every_set}
use Rattle.parts.specs.declared.part.Geometry.{Geometry}
use Rattle.parts.specs.Part.{geometry_of}
use Rattle.parts.proofs.part.Laws.{sound_of}
use Rattle.regions.specs.Page.{page_of}
use Rattle.load.specs.Load.{Load, load_of, is_loaded, store_place, store_page}
use Rattle.control.specs.declared.Control.{Control}
use Rattle.control.specs.declared.Answered.{Answered}
use Rattle.control.specs.declared.phase.Phase.{Phase}
use Rattle.control.specs.declared.phase.Phase.TheVariants.{Standby, Busy, AwaitsAddress, AwaitsChoice, AwaitsWord, TakesData, SendsByte}
use Rattle.control.specs.declared.phase.Word.{Word}
use Rattle.control.specs.declared.phase.Word.TheVariants.{ArrayFirst, ArraySecond, RegisterFirst, RegisterSecond}
use Rattle.control.specs.declared.phase.Data.{Data}
use Rattle.control.specs.declared.phase.Data.TheVariants.{ToArray, ToSecurity, ToConfiguration, ToLock, ToNowhere}
use Rattle.control.specs.declared.phase.Came.{Came}
use Rattle.control.specs.declared.phase.Came.TheVariants.{Zero, One, Two, Three, More}
use Rattle.control.specs.declared.phase.Source.{Source}
use Rattle.control.specs.declared.phase.Source.TheVariants.{FromArray, FromSecurity, FromConfiguration, FromId, FromNothing}
use Rattle.control.specs.Phase.{is_busy}
use Rattle.control.specs.Bits.{configlock}
use Rattle.control.specs.Control.{in_phase}
use Rattle.addressing.specs.declared.Call.{Call}
use Rattle.addressing.specs.declared.Call.TheVariants.{ReadArray, WriteArray, ReadRegister, WriteRegister, HostF8, HostF9, Nobody}
use Rattle.addressing.specs.Address.{call_of, take_call, take_address}
use Rattle.addressing.proofs.Laws.{choice_either, busy_either}
use Rattle.wordaddress.specs.declared.Register.{Register}
use Rattle.wordaddress.specs.declared.Register.TheVariants.{Security, Configuration, Lock, Nowhere}
use Rattle.wordaddress.specs.WordAddress.{register_of, is_lock, take_named, take_word}
use Rattle.taking.specs.Taking.{came_more, take_data, take_in, take}
use Rattle.sending.specs.Sending.{no_byte, byte_from, moved_past, read_in, read}
use Rattle.sending.proofs.Laws.{read_either}
use Rattle.configuration.specs.Configuration.{confirms, stop_configuration}
use Rattle.cycle.specs.Stop.{writes_array, writes_security, stop_data, stop_in, stop}
use Rattle.cycle.proofs.Laws.{stop_either}
use Rattle.chip.specs.declared.Chip.{Chip}
use Rattle.chip.specs.declared.event.Event.{Event}
use Rattle.chip.specs.declared.event.Event.TheVariants.{Start, Stop, Sent, Read, Wp, CycleOver, PowerUp}
use Rattle.chip.specs.Chip as chip
use Rattle.promises.specs.ChipBytes.{bytes_came, bytes_in, ControlBytes, ChipBytes, SaidByte, EventByte, StepBytes}
use Rattle.promises.proofs.Keeping.Loads.{values_keep}
use Rattle.promises.proofs.Keeping.Shares.{shares_keep}

-- what a chip makes of a byte sent or read
abbrev Answers : Answered → Type 0
Answers answered = ControlBytes answered.control × SaidByte answered.said

-- in a phase that keeps none of what came
rests : (c : Control) → ControlBytes c → AllBytes (c.config0 ∷ c.config1 ∷ [])
rests c now = (now.0, (now.1.0, tt))

more_came : (came : Came) (byte : ℕ) → AllBytes (bytes_came came) → FitsByte byte → AllBytes (bytes_came (came_more came byte))
more_came Zero byte held sent = (sent, tt)
more_came (One first) byte held sent = (held.0, (sent, tt))
more_came (Two first second) byte held sent = (held.0, (held.1.0, (sent, tt)))
more_came (Three first second third) byte held sent = tt
more_came More byte held sent = tt

-- a byte sent: outside of the load only a word address's first and the configuration register's are kept
module _ (c : Control) (byte : ℕ) (now : ControlBytes c) (sent : FitsByte byte) where
  plain : AllBytes (c.config0 ∷ c.config1 ∷ []) × Unit {0}
  plain = (rests c now, tt)

  to_call : (call : Call) → Answers (take_call call c)
  to_call ReadArray = plain
  to_call (WriteArray a16) = plain
  to_call ReadRegister = plain
  to_call WriteRegister = plain
  to_call HostF8 = plain
  to_call HostF9 = either Answers c.chosen _ _ plain plain
  to_call Nobody = plain

  to_named : (first : ℕ) (register : Register) → Answers (take_named register first c byte)
  to_named first Security = plain
  to_named first Configuration = plain
  to_named first Lock = either Answers c.idlocked _ _ plain plain
  to_named first Nowhere = plain

  -- the first byte of a word address is kept
  first_kept : AllBytes (c.config0 ∷ c.config1 ∷ byte ∷ []) × Unit {0}
  first_kept = ((now.0, (now.1.0, (sent, tt))), tt)

  to_word : (word : Word) → Answers (take_word word c byte)
  to_word (ArrayFirst a16) = first_kept
  to_word (ArraySecond a16 first) = plain
  to_word RegisterFirst = either Answers (c.idlocked && is_lock (register_of byte)) _ _ plain first_kept
  to_word (RegisterSecond first) = to_named first (register_of first)

  to_data : (kind : Data) → AllBytes (bytes_in (TakesData kind)) → Answers (take_data kind c byte)
  to_data ToArray held = plain
  to_data ToSecurity held = plain
  to_data (ToConfiguration came) held = ((now.0, (now.1.0, more_came came byte held sent)), tt)
  to_data (ToLock some) held = either Answers c.idlocked _ _ plain plain
  to_data ToNowhere held = plain

  take_bytes : (first : Bool) (phase : Phase) → AllBytes (bytes_in phase) → Answers (take_in phase c first byte)
  unfolding take_address
  take_bytes first Standby held = (now, tt)
  take_bytes first Busy held = busy_either c first byte Answers (now, tt) (now, tt)
  take_bytes first AwaitsAddress held = to_call (call_of (geometry_of c.part) c.strap byte)
  take_bytes first AwaitsChoice held = choice_either c byte Answers plain plain
  take_bytes first (AwaitsWord word) held = to_word word
  take_bytes first (TakesData kind) held = to_data kind held
  take_bytes first (SendsByte source) held = (now, tt)

-- a byte read
module _ (c : Control) (array security : List ℕ) (now : ControlBytes c) where
  moved_bytes : (source : Source) → ControlBytes (moved_past source c)
  moved_bytes FromArray = now
  moved_bytes FromSecurity = now
  moved_bytes (FromConfiguration second) = rests c now
  moved_bytes (FromId place) = rests c now
  moved_bytes FromNothing = now

  read_bytes : (phase : Phase) (nack : Bool) → ControlBytes (read_in phase c array security nack).control
  read_bytes phase nack =
      read_either c array security nack (λ (x : Answered). ControlBytes x.control) now phase λ source sends.
      let moved = moved_bytes source in
      either ControlBytes nack (in_phase Standby (moved_past source c)) (moved_past source c) (rests (moved_past source c) moved) moved

  -- what is sent is a byte where the shares hold bytes
  module _ (in_array : AllBytes array) (in_security : AllBytes security) where
    byte_from_lem : (source : Source) → FitsByte (byte_from source c array security)
    byte_from_lem FromArray = every_at FitsByte array c.arraycounter no_byte in_array (omega arith)
    byte_from_lem FromSecurity = every_at FitsByte security c.securitycounter no_byte in_security (omega arith)
    byte_from_lem (FromConfiguration second) = either FitsByte second c.config1 c.config0 now.1.0 now.0
    byte_from_lem (FromId place) = every_at FitsByte (geometry_of c.part).id place no_byte (sound_of c.part).id_bytes (omega arith)
    byte_from_lem FromNothing = omega arith

    read_says : (phase : Phase) (nack : Bool) → SaidByte (read_in phase c array security nack).said
    read_says phase nack = read_either c array security nack (λ (x : Answered). SaidByte x.said) tt phase (λ source sends. byte_from_lem source)

-- Stop
page_stored : (g : Geometry) (at : ℕ) (load : Load) (store : List ℕ) → AllBytes load.values → AllBytes store → AllBytes (store_page g at load store)
unfolding store_page
page_stored g at load store in_load in_store =
    up_keeps (store_place g load (page_of g at * g.page)) AllBytes
    (λ place now so_far.
    either AllBytes (is_loaded g load place) _ now (every_set FitsByte now _ _ so_far (every_at FitsByte load.values place 0 in_load (omega arith))) so_far)
    g.page
    store
    in_store

module _ (c : Control) (load : Load) (array security : List ℕ) (now : ControlBytes c) where
  over : AllBytes (c.config0 ∷ c.config1 ∷ [])
  over = rests c now

  configured_bytes : (came : Came) → AllBytes (bytes_came came) → ControlBytes (stop_configuration came c)
  configured_bytes Zero held = over
  configured_bytes (One first) held = over
  configured_bytes (Two first second) held = over
  configured_bytes (Three first second third) held =
      either ControlBytes (confirms first third && not (configlock c)) _ _ (omega arith, (held.1.0, tt)) over
  configured_bytes More held = over

  data_stopped : (kind : Data) → AllBytes (bytes_in (TakesData kind)) → ControlBytes (stop_data kind c load array security).0
  data_stopped ToArray held = either (λ (x : Control × List ℕ). ControlBytes x.0) (writes_array c load.span) _ _ over over
  data_stopped ToSecurity held = either (λ (x : Control × List ℕ). ControlBytes x.0) (writes_security c load.span) _ _ over over
  data_stopped (ToConfiguration came) held = configured_bytes came held
  data_stopped (ToLock some) held = either ControlBytes (some && not c.idlocked) _ _ over over
  data_stopped ToNowhere held = over

  stop_bytes : (phase : Phase) → AllBytes (bytes_in phase) → ControlBytes (stop_in phase c load array security).0
  stop_bytes phase held =
      stop_either c load array security (λ (x : Control × List ℕ × List ℕ). ControlBytes x.0) phase (λ busy. now) over
      (λ kind takes. data_stopped kind (subst (λ (p : Phase). AllBytes (bytes_in p)) takes held))

-- both shares
abbrev Shares : List ℕ → List ℕ → Type 0
Shares array security = AllBytes array × AllBytes security

module _ (c : Control) (load : Load) (array security : List ℕ) (in_load : AllBytes load.values) (in_array : AllBytes array) (in_security : AllBytes security) where
  shares_stopped : (kind : Data) → Shares (stop_data kind c load array security).1 (stop_data kind c load array security).2
  shares_stopped ToArray =
      (either (λ (x : Control × List ℕ). AllBytes x.1) (writes_array c load.span) _ _ (page_stored (geometry_of c.part) c.arraycounter load array in_load in_array) in_array, in_security)
  shares_stopped ToSecurity =
      (in_array, either (λ (x : Control × List ℕ). AllBytes x.1) (writes_security c load.span) _ _ (page_stored (geometry_of c.part) c.securitycounter load security in_load in_security) in_security)
  shares_stopped (ToConfiguration came) = (in_array, in_security)
  shares_stopped (ToLock some) = (in_array, in_security)
  shares_stopped ToNowhere = (in_array, in_security)

-- the values: a byte sent is put among them or, as the first of a load, among those where none has come
zeros : (n : ℕ) → AllBytes (replicate n 0)
zeros zero = tt
zeros (suc n) = (omega arith, zeros n)

pub values_stay_bytes : (c : Chip) (values : List ℕ) → AllBytes values → (event : Event) → EventByte event → AllBytes (chip.values_after c event values)
values_stay_bytes c values in_values event brought =
    values_keep c values AllBytes in_values (zeros 256) event (λ first byte is held place so_far. every_set FitsByte held place byte so_far (subst EventByte is brought))

module _ (c : Chip) (values array security : List ℕ) (now : ChipBytes c) where
  stopped_bytes : ControlBytes (chip.stop c values array security).0.control
  unfolding stop
  stopped_bytes =
      either (λ (x : Chip × List ℕ × List ℕ). ControlBytes x.0.control) (is_busy c.control.phase) (c, array, security) _ now
      (stop_bytes c.control (load_of c.span values) array security now c.control.phase now.1.1)

  unless_busy : (x y : Chip) → ControlBytes x.control → ControlBytes y.control → ControlBytes (cond (is_busy c.control.phase) x y).control
  unless_busy x y = either (λ (d : Chip). ControlBytes d.control) (is_busy c.control.phase) x y

  -- whatever the values and the shares hold
  pub chip_keeps_bytes : (event : Event) → EventByte event → ChipBytes (chip.step c values array security event).0.chip
  unfolding chip.step take read
  chip_keeps_bytes Start brought = unless_busy c _ now (rests c.control now)
  chip_keeps_bytes Stop brought = stopped_bytes
  chip_keeps_bytes (Sent first byte) brought = (take_bytes c.control byte now brought first c.control.phase now.1.1).0
  chip_keeps_bytes (Read nack) brought = read_bytes c.control array security now c.control.phase nack
  chip_keeps_bytes (Wp level) brought = now
  chip_keeps_bytes CycleOver brought = unless_busy _ c (rests c.control now) now
  chip_keeps_bytes PowerUp brought = rests c.control now

  module _ (in_values : AllBytes values) (in_array : AllBytes array) (in_security : AllBytes security) where
    in_shares : (event : Event) → Shares (chip.step c values array security event).1 (chip.step c values array security event).2
    in_shares =
        shares_keep c values array security Shares (in_array, in_security)
        (shares_stopped c.control (load_of c.span values) array security in_values in_array in_security)

    in_said : (event : Event) → EventByte event → SaidByte (chip.step c values array security event).0.said
    unfolding chip.step take read
    in_said Start brought = tt
    in_said Stop brought = tt
    in_said (Sent first byte) brought = (take_bytes c.control byte now brought first c.control.phase now.1.1).1
    in_said (Read nack) brought = read_says c.control array security now in_array in_security c.control.phase nack
    in_said (Wp level) brought = tt
    in_said CycleOver brought = tt
    in_said PowerUp brought = tt

    pub bytes_stay_bytes : (event : Event) → EventByte event → StepBytes (chip.step c values array security event)
    bytes_stay_bytes event brought =
        let (array, security) = in_shares event in
        (chip_keeps_bytes event brought, in_said event brought, array, security)
