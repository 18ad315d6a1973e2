-- Twins stay twins under every event that asks of the array alone, and say the same. Most of what a chip does looks at its figures, and those that an
-- event of the array asks for are the same numbers; EWPM of both is 0, so that WP alone protects; and for a 1010 byte both have the same call.
use Prim.Native.Nat.{ℕ, ◌/◌, ◌%◌}
use native.Mathlib.Omega.{arith}
use mathlib.Core.Bool.{Bool, true, false, cond, not, ◌&&◌, false≢true}
use mathlib.Core.List.{List}
use mathlib.Core.Path.{◌≡◌, refl, ap, subst}
use lib.Dec.{eqb}
use lib.ListN.{get_or}
use borrow.Author.Tests.{eq-eqb, eqb-true, ne_eqb}
use Rattle.base.proofs.logic.Laws.{and_left, or_left, or_right, either}
use Rattle.parts.specs.Part.{geometry_24csm01, geometry_at24cm01, geometry_of}
use Rattle.parts.specs.Address.{answers}
use Rattle.load.specs.Span.{is_empty, dropped}
use Rattle.load.specs.Load.{load_of, store_page}
use Rattle.control.specs.declared.Control.{Control}
use Rattle.control.specs.declared.Answered.{Answered}
use Rattle.control.specs.declared.Said.TheVariants.{Byte}
use Rattle.control.specs.declared.phase.Phase.{Phase}
use Rattle.control.specs.declared.phase.Phase.TheVariants.{Standby, Busy, AwaitsAddress, AwaitsChoice, AwaitsWord, TakesData, SendsByte}
use Rattle.control.specs.declared.phase.Word.TheVariants.{ArrayFirst, ArraySecond, RegisterFirst, RegisterSecond}
use Rattle.control.specs.declared.phase.Data.TheVariants.{ToArray, ToSecurity, ToConfiguration, ToLock, ToNowhere}
use Rattle.control.specs.declared.phase.Source.TheVariants.{FromArray, FromSecurity, FromConfiguration, FromId, FromNothing}
use Rattle.control.specs.declared.phase.Shown.{Shown}
use Rattle.control.specs.Phase.{is_busy}
use Rattle.control.specs.Control.{in_phase, showing, choosing, arraycounter_at, securitycounter_at, wp_at}
use Rattle.control.specs.Exchange.{standby_now, powered_up}
use Rattle.control.specs.Bits.{ewpm}
use Rattle.control.specs.Said.{occupied, stays}
use Rattle.addressing.specs.declared.Call.{Call}
use Rattle.addressing.specs.declared.Call.TheVariants.{ReadArray, WriteArray, Nobody}
use Rattle.addressing.specs.Address.{call_by_form, if_able, call_of, take_call, take_address, is_named, take_busy}
use Rattle.protection.specs.Protection.{is_protected}
use Rattle.taking.specs.Taking.{take_in, take, span_in, span_after, values_in}
use Rattle.taking.specs.Taking as taking
use Rattle.sending.specs.Sending.{no_byte, moved_past, send, read_in, read}
use Rattle.cycle.specs.Stop.{writes_array, stop_data, stop_in, stop}
use Rattle.chip.specs.declared.Chip.{Chip}
use Rattle.chip.specs.declared.event.Event.{Event}
use Rattle.chip.specs.declared.event.Event.TheVariants.{Start, Stop, Sent, Read, Wp, CycleOver, PowerUp}
use Rattle.chip.specs.Chip as chip
use Rattle.wellformed.specs.Wellformed.{phase_fits, well_formed}
use Rattle.promises.proofs.Keeping.Fits.{Fits, apart}
use Rattle.turns.specs.Idle.{is_loading}
use Rattle.twins.specs.ArrayTurns.{is_array_byte}
use Rattle.twins.specs.Twins.{TwinControls, Twins, AsksArray, AsOne}

-- a 1010 byte asks both for the same: to read or to write the array, or nothing
both_called : (strap byte : ℕ) → is_array_byte byte ≡ true → (P : Call → Call → Type 0)
    → P ReadArray ReadArray → ((a16 : Bool) → P (WriteArray a16) (WriteArray a16)) → P Nobody Nobody
    → P (call_of geometry_at24cm01 strap byte) (call_of geometry_24csm01 strap byte)
unfolding call_of call_by_form
both_called strap byte is P reads writes nobody =
    let opening : byte / 16 ≡ 0b1010 = eqb-true _ _ is in
    let Both : Call → Type 0 = λ call. P (if_able geometry_at24cm01 call) (if_able geometry_24csm01 call) in
    rw (ne_eqb byte 0xF8 (λ same. omega arith), ne_eqb byte 0xF9 (λ same. omega arith), eq-eqb _ _ opening)
    (either Both (answers geometry_24csm01 strap (byte / 2 % 8)) _ _ (either Both (eqb (byte % 2) 1) _ _ reads (writes _)) nobody)

-- what a setter leaves of twins: WP level, array counter and phase are to stay the same, and neither is to be chosen
module _ {c d : Control} (t : TwinControls c d) where
  abbrev dressed : Control → Bool → ℕ → Phase → Bool → ℕ → Shown → Control
  dressed e level at phase picked beside shown = in_phase phase (choosing picked (showing shown (securitycounter_at beside (arraycounter_at at (wp_at level e)))))

  set : (m n : ℕ) (shown shows : Shown) {one other : Bool} {at by : ℕ} {p q : Phase} {x y : Bool} → one ≡ other → at ≡ by → p ≡ q → x ≡ false → y ≡ false
      → TwinControls (dressed c one at p x m shown) (dressed d other by q y n shows)
  set m n shown shows wp at phase old_unchosen new_unchosen =
      record {
        older = t.older;
        newer = t.newer;
        ewpm_clear = t.ewpm_clear;
        strap = t.strap;
        wp = wp;
        arraycounter = at;
        phase = phase;
        old_unchosen = old_unchosen;
        new_unchosen = new_unchosen;
      }

  in_phase_lem : (phase : Phase) → TwinControls (in_phase phase c) (in_phase phase d)
  in_phase_lem phase = set _ _ _ _ t.wp t.arraycounter refl t.old_unchosen t.new_unchosen

  counter_at : {one other : ℕ} → one ≡ other → TwinControls (arraycounter_at one c) (arraycounter_at other d)
  counter_at same = set _ _ _ _ t.wp same t.phase t.old_unchosen t.new_unchosen

  wp_at_lem : (level : Bool) → TwinControls (wp_at level c) (wp_at level d)
  wp_at_lem level = set _ _ _ _ refl t.arraycounter t.phase t.old_unchosen t.new_unchosen

  -- standby or busy, with any choice dropped
  ended : (phase : Phase) → TwinControls (in_phase phase (choosing false c)) (in_phase phase (choosing false d))
  ended phase = set _ _ _ _ t.wp t.arraycounter refl refl refl

  powered_up_lem : TwinControls (powered_up c) (powered_up d)
  powered_up_lem = set _ _ _ _ t.wp refl refl refl refl

-- two choices by the same test
pub both_either : {A B : Type 0} (P : A → B → Type 0) {one other : Bool} → one ≡ other → {x y : A} {u v : B}
    → (one ≡ true → P x u) → (one ≡ false → P y v) → P (cond one x y) (cond other u v)
both_either P {one} same {x} {y} {u} {v} first second = rw (← same) (go one refl)
  where
    go : (test : Bool) → one ≡ test → P (cond test x y) (cond test u v)
    go true is = first is
    go false is = second is

-- the phases of an AT24CM01 that is well formed
pub by_phase : (phase : Phase) → phase_fits geometry_at24cm01 phase ≡ true → (P : Phase → Type 0) → P Standby → P Busy → P AwaitsAddress
    → ((a16 : Bool) → P (AwaitsWord (ArrayFirst a16))) → ((a16 : Bool) (first : ℕ) → P (AwaitsWord (ArraySecond a16 first)))
    → P (TakesData ToArray) → P (SendsByte FromArray)
    → P phase
by_phase Standby fits P standby busy awaits first second takes sends = standby
by_phase Busy fits P standby busy awaits first second takes sends = busy
by_phase AwaitsAddress fits P standby busy awaits first second takes sends = awaits
by_phase AwaitsChoice fits P standby busy awaits first second takes sends = absurd (false≢true fits)
by_phase (AwaitsWord (ArrayFirst a16)) fits P standby busy awaits first second takes sends = first a16
by_phase (AwaitsWord (ArraySecond a16 byte)) fits P standby busy awaits first second takes sends = second a16 byte
by_phase (AwaitsWord RegisterFirst) fits P standby busy awaits first second takes sends = absurd (false≢true fits)
by_phase (AwaitsWord (RegisterSecond byte)) fits P standby busy awaits first second takes sends = absurd (false≢true fits)
by_phase (TakesData ToArray) fits P standby busy awaits first second takes sends = takes
by_phase (TakesData ToSecurity) fits P standby busy awaits first second takes sends = absurd (false≢true fits)
by_phase (TakesData (ToConfiguration came)) fits P standby busy awaits first second takes sends = absurd (false≢true fits)
by_phase (TakesData (ToLock some)) fits P standby busy awaits first second takes sends = absurd (false≢true fits)
by_phase (TakesData ToNowhere) fits P standby busy awaits first second takes sends = absurd (false≢true fits)
by_phase (SendsByte FromArray) fits P standby busy awaits first second takes sends = sends
by_phase (SendsByte FromSecurity) fits P standby busy awaits first second takes sends = absurd (false≢true fits)
by_phase (SendsByte (FromConfiguration second_byte)) fits P standby busy awaits first second takes sends = absurd (false≢true fits)
by_phase (SendsByte (FromId place)) fits P standby busy awaits first second takes sends = absurd (false≢true fits)
by_phase (SendsByte FromNothing) fits P standby busy awaits first second takes sends = absurd (false≢true fits)

-- two answers that are one: twins, that said the same
abbrev Same : Answered → Answered → Type 0
Same one other = TwinControls one.control other.control × (one.said ≡ other.said)

abbrev SameStop : Control × List ℕ × List ℕ → Control × List ℕ × List ℕ → Type 0
SameStop one other = TwinControls one.0 other.0 × (one.1 ≡ other.1)

module _ (old new : Chip) (twins : Twins old new) (formed : well_formed old ≡ true) where
  abbrev c : Control
  c = old.control

  abbrev d : Control
  d = new.control

  t : TwinControls c d
  t = twins.controls

  fits : Fits c
  unfolding well_formed
  fits = apart c (and_left _ _ formed)

  -- all its register bits are unused, and so 0
  ewpm_0 : ewpm c ≡ false
  ewpm_0 =
      let unused : ((eqb c.config0 0 && eqb c.config1 0) && not c.idlocked) ≡ true = rw t.older at fits.unused in
      let zero : c.config0 ≡ 0 = eqb-true _ _ (and_left _ _ (and_left (eqb c.config0 0 && eqb c.config1 0) _ unused)) in
      rw zero

  -- WP alone protects both
  protected_same : is_protected c ≡ is_protected d
  protected_same = rw (ewpm_0, t.ewpm_clear, t.wp)

  -- what holds of both in each of its phases holds of them as they are
  in_its_phase : (P : Phase → Phase → Type 0) → P Standby Standby → P Busy Busy → P AwaitsAddress AwaitsAddress
      → ((a16 : Bool) → P (AwaitsWord (ArrayFirst a16)) (AwaitsWord (ArrayFirst a16)))
      → ((a16 : Bool) (first : ℕ) → P (AwaitsWord (ArraySecond a16 first)) (AwaitsWord (ArraySecond a16 first)))
      → P (TakesData ToArray) (TakesData ToArray) → P (SendsByte FromArray) (SendsByte FromArray)
      → P c.phase d.phase
  in_its_phase P standby busy awaits first second takes sends =
      subst (P c.phase) t.phase
      (by_phase c.phase (rw t.older at fits.place) (λ (phase : Phase). P phase phase) standby busy awaits first second takes sends)

  -- a byte sent
  module _ (first : Bool) (byte : ℕ) where
    asked_same : is_array_byte byte ≡ true → (P : Call → Call → Type 0)
        → P ReadArray ReadArray → ((a16 : Bool) → P (WriteArray a16) (WriteArray a16)) → P Nobody Nobody
        → P (call_of (geometry_of c.part) c.strap byte) (call_of (geometry_of d.part) d.strap byte)
    asked_same is P = rw (t.older, t.newer, t.strap) (both_called d.strap byte is P)

    address_same : is_array_byte byte ≡ true → Same (take_address c byte) (take_address d byte)
    unfolding take_address
    address_same is =
        asked_same is (λ (one other : Call). Same (take_call one c) (take_call other d))
        (ended t _, refl)
        (λ a16. (ended t _, refl))
        (ended t _, refl)

    busy_same : (now : Bool) → (now ≡ true → is_array_byte byte ≡ true) → Same (take_busy c now byte) (take_busy d now byte)
    unfolding take_busy
    busy_same false is = (t, refl)
    busy_same true is =
        asked_same (is refl) (λ (one other : Call). Same (cond (is_named one) (occupied c) (stays c)) (cond (is_named other) (occupied d) (stays d)))
        (t, refl)
        (λ a16. (t, refl))
        (t, refl)

    take_same : AsksArray c.phase (Sent first byte) → Same (take c first byte) (take d first byte)
    unfolding take
    take_same =
        in_its_phase (λ (p q : Phase). AsksArray p (Sent first byte) → Same (take_in p c first byte) (take_in q d first byte))
        (λ asks. (t, refl))
        (λ asks. busy_same first (λ now. asks (or_left first _ now)))
        (λ asks. address_same (asks (or_right first _ refl)))
        (λ a16 asks. (in_phase_lem t _, refl))
        (λ a16 high asks. (in_phase_lem (counter_at t (rw (t.older, t.newer))) _, refl))
        (λ asks. (in_phase_lem (counter_at t (rw (t.older, t.newer, t.arraycounter))) _, refl))
        (λ asks. (t, refl))

    -- what is loaded then
    span_same : span_after old.span c ≡ span_after new.span d
    unfolding span_after
    span_same =
        in_its_phase (λ (p q : Phase). span_in p old.span c ≡ span_in q new.span d)
        twins.span twins.span twins.span (λ a16. twins.span) (λ a16 high. twins.span)
        (rw (t.older, t.newer, t.arraycounter, twins.span))
        twins.span

    -- and the values: a load that begins finds none of an earlier one
    values_same : (values others : List ℕ) → (is_loading old ≡ true → values ≡ others)
        → not (is_empty (span_after old.span c)) ≡ true → taking.values_after old.span c byte values ≡ taking.values_after new.span d byte others
    unfolding span_after taking.values_after
    values_same values others held =
        in_its_phase
        (λ (p q : Phase). not (is_empty (span_in p old.span c)) ≡ true → values_in p old.span c byte values ≡ values_in q new.span d byte others)
        held held held (λ a16. held) (λ a16 high. held)
        (λ loads.
        rw (t.older, t.newer, t.arraycounter, ← twins.span, both_either ◌≡◌ {one = is_empty old.span} refl (λ none. refl) (λ some. held (ap not some))))
        held

  -- a byte read
  module _ (array security register : List ℕ) where
    sent_same : (nack : Bool) → Same (send FromArray c array security nack) (send FromArray d array register nack)
    sent_same nack =
        let past : TwinControls (moved_past FromArray c) (moved_past FromArray d) = counter_at t (rw (t.older, t.newer, t.arraycounter)) in
        let sent = ap (λ (at : ℕ). Byte (get_or array at no_byte)) t.arraycounter in
        (both_either TwinControls {one = nack} refl (λ ends. in_phase_lem past Standby) (λ goes. past), sent)

    read_same : (nack : Bool) → Same (read c array security nack) (read d array register nack)
    unfolding read
    read_same nack =
        in_its_phase (λ (p q : Phase). Same (read_in p c array security nack) (read_in q d array register nack))
        (t, refl) (t, refl) (t, refl) (λ a16. (t, refl)) (λ a16 high. (t, refl)) (t, refl)
        (sent_same nack)

    -- a Stop
    module _ (values others : List ℕ) (held : is_loading old ≡ true → values ≡ others) where
      stored_same : values ≡ others
          → store_page (geometry_of c.part) c.arraycounter (load_of old.span values) array
          ≡ store_page (geometry_of d.part) d.arraycounter (load_of new.span others) array
      unfolding store_page
      stored_same same = rw (t.older, t.newer, t.arraycounter, twins.span, same)

      array_same : SameStop (stop_data ToArray c (load_of old.span values) array security) (stop_data ToArray d (load_of new.span others) array register)
      array_same =
          let same : writes_array c old.span ≡ writes_array d new.span = rw (protected_same, twins.span) in
          both_either (λ (one other : Control × List ℕ). TwinControls one.0 other.0 × (one.1 ≡ other.1)) same
          (λ writes. (ended t _, stored_same (held (and_left _ _ writes))))
          (λ keeps. (ended t _, refl))

      stop_same : SameStop (stop c (load_of old.span values) array security) (stop d (load_of new.span others) array register)
      unfolding stop
      stop_same =
          let standby : TwinControls (standby_now c) (standby_now d) = ended t Standby in
          in_its_phase (λ (p q : Phase). SameStop (stop_in p c (load_of old.span values) array security) (stop_in q d (load_of new.span others) array register))
          (standby, refl) (t, refl) (standby, refl) (λ a16. (standby, refl)) (λ a16 high. (standby, refl)) array_same (standby, refl)

  module _ (values others array security register : List ℕ) (held : is_loading old ≡ true → values ≡ others) where
    -- an event that says nothing
    abbrev Left : Chip × List ℕ × List ℕ → Chip × List ℕ × List ℕ → Type 0
    Left one other = AsOne (chip.quiet one.0, one.1, one.2) values (chip.quiet other.0, other.1, other.2) others

    left : {x y : Chip} {one other more most : List ℕ} → TwinControls x.control y.control → x.span ≡ y.span → one ≡ other
        → (is_loading x ≡ true → values ≡ others)
        → Left (x, one, more) (y, other, most)
    left controls span same held = record { twins = record { controls = controls; span = span }; said = refl; array = same; values = held }

    -- and leaves no load
    emptied : {e f : Control} {one other more most : List ℕ} → TwinControls e f → one ≡ other
        → Left (record { control = e; span = dropped old.span }, one, more) (record { control = f; span = dropped new.span }, other, most)
    emptied controls same = left controls (ap dropped twins.span) same (λ loads. absurd (false≢true loads))

    -- a busy chip, or one that is not
    by_busy : {A : Type 0} (P : A → A → Type 0) {x y u v : A} → P x u → P y v → P (cond (is_busy c.phase) x y) (cond (is_busy d.phase) u v)
    by_busy P busy ready = both_either P (ap is_busy t.phase) (λ is. busy) (λ is. ready)

    unmoved : Left (old, array, security) (new, array, register)
    unmoved = left t twins.span refl held

    abbrev LeftChips : Chip → Chip → Type 0
    LeftChips x y = Left (x, array, security) (y, array, register)

    pub step_same : (event : Event) → AsksArray old.control.phase event
        → AsOne (chip.step old values array security event) (chip.values_after old event values)
        (chip.step new others array register event) (chip.values_after new event others)
    unfolding chip.step chip.values_after
    step_same Start asks = by_busy LeftChips unmoved (emptied (in_phase_lem t AwaitsAddress) refl)
    step_same Stop asks = let (controls, same) = stop_same array security register values others held in by_busy Left unmoved (emptied controls same)
    step_same (Sent first byte) asks =
        let (controls, said) = take_same first byte asks in
        record {
          twins = record { controls = controls; span = span_same first byte };
          said = said;
          array = refl;
          values = values_same first byte values others held;
        }
    step_same (Read nack) asks =
        let (controls, said) = read_same array security register nack in
        record { twins = record { controls = controls; span = twins.span }; said = said; array = refl; values = held }
    step_same (Wp level) asks = left (wp_at_lem t level) twins.span refl held
    step_same CycleOver asks = by_busy LeftChips (left (in_phase_lem t Standby) twins.span refl held) unmoved
    step_same PowerUp asks = emptied (powered_up_lem t) refl
