-- Request E8 in words: to a byte sent the line replies 02 exactly when a Start is remembered and the byte names a chip that is busy. For such a byte is
-- the first after the Start, no other chip answers its code (4), and while a Start is remembered no chip takes anything but an address byte (10): so
-- no other chip says a word.
use Prim.Native.Nat.{ℕ, zero, suc, ◌<◌, ◌/◌, ◌%◌}
use native.Mathlib.Decide.{dec_lt}
use native.Mathlib.Omega.{arith}
use mathlib.Core.Bool.{Bool, true, false, cond, true≢false, false≢true}
use mathlib.Core.List.{List}
use mathlib.Core.Logic.{◌↔◌}
use mathlib.Core.Path.{◌≡◌, ◌∙◌, refl, sym, ap}
use lib.Dec.{eqb}
use Rattle.base.specs.Fold.{up_to}
use Rattle.parts.specs.declared.part.Geometry.{Geometry}
use Rattle.parts.specs.Part.{geometry_of}
use Rattle.parts.specs.Address.{answers, share_address}
use Rattle.parts.proofs.part.Laws.{sound_of}
use Rattle.parts.proofs.address.Laws.{share_exactly_when}
use Rattle.control.specs.declared.Control.{Control}
use Rattle.control.specs.declared.Said.{Said}
use Rattle.control.specs.declared.Said.TheVariants.{Nothing, Ack, Occupied, Byte}
use Rattle.control.specs.declared.phase.Phase.{Phase}
use Rattle.control.specs.declared.phase.Phase.TheVariants.{Standby, Busy, AwaitsAddress, AwaitsChoice, AwaitsWord, TakesData, SendsByte}
use Rattle.control.specs.Phase.{is_busy}
use Rattle.control.specs.Said.{reply_of}
use Rattle.control.proofs.phase.Laws.{busy_is}
use Rattle.addressing.specs.declared.Call.{Call}
use Rattle.addressing.specs.declared.Call.TheVariants.{HostF8, HostF9, Nobody}
use Rattle.addressing.specs.Address.{call_by_form, is_able, call_of, is_named, names, take_address, take_busy}
use Rattle.taking.specs.Taking.{take_in, take}
use Rattle.chip.specs.declared.Chip.{Chip}
use Rattle.chip.specs.declared.event.Event.TheVariants.{Sent}
use Rattle.chip.specs.Chip as chip
use Rattle.wellformed.specs.Wellformed.{heeds_start}
use Rattle.std.specs.Prelude.{Ok, Err}
use Rattle.refusal.specs.Verdict.{Answer}
use Rattle.refusal.specs.Checks.{first_of}
use Rattle.board.specs.Place.{placed}
use Rattle.decode.specs.declared.Addressed.{Addressed}
use Rattle.decode.specs.declared.Addressed.TheVariants.{ToAll}
use Rattle.decode.specs.Decode.{kind_of, value_of, addressed_of, event_of}
use Rattle.lineup.specs.Chips.{chip_at, control_at}
use Rattle.lineup.specs.Wellformed.{well_formed}
use Rattle.line.specs.Line.{heard, line_reply}
use Rattle.bus.specs.declared.Bus.{Bus}
use Rattle.bus.specs.Step.{step_checks, step}
use Rattle.bus.proofs.Entry.{Entered, entered}
use Rattle.bus.proofs.Typed.{OfItsType}
use Rattle.promises.specs.Own.{own, gathered}
use Rattle.promises.specs.Occupied.{CallsABusyChip}
use Rattle.promises.proofs.Formed.{none_holds, Formed, formed_of, unshared}
use Rattle.promises.proofs.Replies.{carried, none_carried, one_speaks}
use Rattle.promises.proofs.Sent.{is_byte, is_occupied, sent_no_byte, sent_occupied}
use Rattle.promises.proofs.Steps.{step_answers_for_all}

-- a byte that names a chip is neither F8h nor F9h, and has a code that the chip answers
named_code : (g : Geometry) (strap byte : ℕ) → is_named (call_of g strap byte) ≡ true
    → (eqb byte 0xF8 ≡ false) × (eqb byte 0xF9 ≡ false) × (answers g strap (byte / 2 % 8) ≡ true)
unfolding call_of call_by_form
named_code g strap byte named = go (eqb byte 0xF8) (eqb byte 0xF9) (answers g strap (byte / 2 % 8)) _ (asked (is_able g (call_by_form g strap byte)) (call_by_form g strap byte) named)
  where
    asked : (able : Bool) (call : Call) → is_named (cond able call Nobody) ≡ true → is_named call ≡ true
    asked true call is = is
    asked false call is = absurd (false≢true is)

    go : (f8 f9 here : Bool) (call : Call) → is_named (cond f8 HostF8 (cond f9 HostF9 (cond here call Nobody))) ≡ true → (f8 ≡ false) × (f9 ≡ false) × (here ≡ true)
    go true f9 here call is = absurd (false≢true is)
    go false true here call is = absurd (false≢true is)
    go false false true call is = (refl, refl, refl)
    go false false false call is = absurd (false≢true is)

-- to a chip that does not answer the code it is for nobody; while a Start is remembered such a chip is silent
module _ (c : Chip) (values array security : List ℕ) (byte : ℕ) (f8 : eqb byte 0xF8 ≡ false) (f9 : eqb byte 0xF9 ≡ false) (other : answers (geometry_of c.control.part) c.control.strap (byte / 2 % 8) ≡ false) where
  for_nobody : call_of (geometry_of c.control.part) c.control.strap byte ≡ Nobody
  unfolding call_of call_by_form
  for_nobody = rw (f8, f9, other)

  passed_over : (first : Bool) → first ≡ true → heeds_start first c.control.phase ≡ true → (chip.step c values array security (Sent first byte)).0.said ≡ Nothing
  unfolding chip.step take take_address take_busy
  passed_over first now heeds = rw now (go c.control.phase (rw now at heeds))
    where
      go : (phase : Phase) → heeds_start true phase ≡ true → (take_in phase c.control true byte).said ≡ Nothing
      go Standby heeds = refl
      go Busy heeds = rw for_nobody
      go AwaitsAddress heeds = rw for_nobody
      go AwaitsChoice heeds = absurd (false≢true heeds)
      go (AwaitsWord word) heeds = absurd (false≢true heeds)
      go (TakesData kind) heeds = absurd (false≢true heeds)
      go (SendsByte source) heeds = absurd (false≢true heeds)

-- a busy chip that is named by the first byte says so
says_so : (c : Chip) (values array security : List ℕ) (first : Bool) (byte : ℕ) → first ≡ true → is_busy c.control.phase ≡ true → names byte c.control ≡ true
    → (chip.step c values array security (Sent first byte)).0.said ≡ Occupied
unfolding chip.step take take_busy
says_so c values array security first byte now busy named = rw (now, busy_is c.control.phase busy, named)

-- where a line carries that a chip is busy, some chip has said so
who_says_so : (says : ℕ → Said) (n : ℕ) → is_occupied (carried says n) ≡ true → (i : ℕ) × ((i < n) × (says i ≡ Occupied))
unfolding up_to
who_says_so says zero is = absurd (false≢true is)
who_says_so says (suc n) is = go (says n) refl (who_says_so says n) is
  where
    go : (said : Said) → says n ≡ said → (is_occupied (carried says n) ≡ true → (i : ℕ) × ((i < n) × (says i ≡ Occupied)))
        → is_occupied (heard (carried says n) said) ≡ true → (i : ℕ) × ((i < suc n) × (says i ≡ Occupied))
    go Nothing here earlier is = let (i, (below, there)) = earlier is in (i, (omega arith, there))
    go Ack here earlier is = absurd (false≢true is)
    go Occupied here earlier is = (n, (omega arith, here))
    go (Byte byte) here earlier is = absurd (false≢true is)

module _ (count : ℕ) (started : Bool) (chips : List Chip) (formed : well_formed count started chips ≡ true) (byte : ℕ) (values array security : List ℕ) where
  abbrev sent : Addressed
  sent = ToAll (Sent started byte)

  abbrev says : ℕ → Said
  says i = (own sent chips values array security i).0.said

  clauses : Formed count started chips
  clauses = formed_of count started chips formed

  plain : is_byte (carried says (placed count)) ≡ false
  plain = none_carried says (λ i. sent_no_byte (chip_at chips i) _ _ _ started byte) (placed count)

  -- no two chips answer its code
  not_both : (i j : ℕ) → i < placed count → j < placed count → (j ≡ i → ⊥)
      → let code = byte / 2 % 8 in let c = control_at chips i in let d = control_at chips j in
      answers (geometry_of c.part) c.strap code ≡ true → (here : Bool) → answers (geometry_of d.part) d.strap code ≡ here → here ≡ false
  not_both i j below before differ mine false is = refl
  not_both i j below before differ mine true yours = go (dec_lt j i) (dec_lt i j)
    where
      shared : (c d : Control) → answers (geometry_of c.part) c.strap (byte / 2 % 8) ≡ true → answers (geometry_of d.part) d.strap (byte / 2 % 8) ≡ true
          → share_address (geometry_of c.part) c.strap (geometry_of d.part) d.strap ≡ true
      shared c d one two = (share_exactly_when _ c.strap _ d.strap (sound_of c.part) (sound_of d.part)).1 (byte / 2 % 8, (one, two))

      go : Dec (j < i) → Dec (i < j) → true ≡ false
      go (yes p) q = sym (shared (control_at chips i) (control_at chips j) mine yours) ∙ unshared clauses i j below p
      go (no p) (yes q) = sym (shared (control_at chips j) (control_at chips i) yours mine) ∙ unshared clauses j i before q
      go (no p) (no q) = absurd (differ (omega arith))

  pub occupied_exactly_when : (line_reply (Sent started byte) (gathered (ToAll (Sent started byte)) count chips values array security) ≡ 2) ↔ CallsABusyChip count started chips byte
  occupied_exactly_when = (to, from)
    where
      carries : (said : Said) → is_byte said ≡ false → reply_of 0 said ≡ 2 → is_occupied said ≡ true
      carries Nothing plain is = absurd (omega arith)
      carries Ack plain is = absurd (omega arith)
      carries Occupied plain is = refl
      carries (Byte b) plain is = absurd (true≢false plain)

      to : reply_of 0 (carried says (placed count)) ≡ 2 → CallsABusyChip count started chips byte
      to is =
          let (i, (below, here)) = who_says_so says (placed count) (carries (carried says (placed count)) plain is) in
          let (first, busy, named) = sent_occupied (chip_at chips i) _ _ _ started byte here in
          (first, (i, (below, (busy, named))))

      from : CallsABusyChip count started chips byte → reply_of 0 (carried says (placed count)) ≡ 2
      from (now, (i, (below, (busy, named)))) =
          let (f8, f9, mine) = named_code _ (control_at chips i).strap byte named in
          let others : (j : ℕ) → j < placed count → (j ≡ i → ⊥) → says j ≡ Nothing = λ j before differ.
          passed_over (chip_at chips j) _ _ _ byte f8 f9 (not_both i j below before differ mine _ refl) started now (clauses.heed j before) in
          ap (reply_of 0) (one_speaks says (placed count) i below others ∙ says_so (chip_at chips i) _ _ _ started byte now busy named)

-- the same of a step that is done
abbrev reply_in : Answer → ℕ
reply_in (Ok reply) = reply
reply_in (Err refusal) = 0

module _ (bus : Bus) (array security : List ℕ) (word : ℕ) (typed : OfItsType bus) (passes : first_of (step_checks bus array security word) ≡ Ok tt) (sends : kind_of word ≡ 3) where
  entry : Entered bus array security
  entry = let none = none_holds (step_checks bus array security word) passes in entered bus array security (rw (none.0, none.1.0))

  asks : addressed_of bus.started word ≡ ToAll (Sent bus.started (value_of word))
  unfolding addressed_of
  asks = rw sends

  abbrev said : Said
  said = gathered (ToAll (Sent bus.started (value_of word))) bus.count bus.chips bus.values array security

  replies : (step bus array security word).0.answer ≡ Ok (reply_of 0 said)
  replies =
      step_answers_for_all bus array security word typed passes
      ∙ ap (λ (o : Addressed). Ok (line_reply (event_of o) (gathered o bus.count bus.chips bus.values array security))) asks

  pub step_occupied_exactly_when : ((step bus array security word).0.answer ≡ Ok 2) ↔ CallsABusyChip bus.count bus.started bus.chips (value_of word)
  step_occupied_exactly_when =
      let line = occupied_exactly_when bus.count bus.started bus.chips entry.formed (value_of word) bus.values array security in
      (λ is. line.0 (ap reply_in (sym replies ∙ is)), λ called. replies ∙ ap Ok (line.1 called))
