-- What a Stop stores is the same for every load (request E10): for every load inside its page at whose counter the next byte runs on, as refusal 10
-- asks of every one, and for every list of bytes that then come.
use Prim.Native.Nat.{ℕ}
use mathlib.Core.Bool.{Bool, true, false, cond, ◌&&◌}
use mathlib.Core.List.{List, [], ◌∷◌}
use mathlib.Core.Path.{◌≡◌, ◌∙◌, refl, ap}
use lib.ListN.{length}
use Rattle.base.proofs.logic.Laws.{and_left, and_right, or_left}
use Rattle.parts.specs.declared.part.Geometry.{Geometry}
use Rattle.parts.specs.Part.{Sound, geometry_of}
use Rattle.parts.proofs.part.Laws.{sound_of}
use Rattle.regions.specs.Page.{next_in_page}
use Rattle.load.specs.declared.Span.{Span}
use Rattle.load.specs.Span.{is_empty, inside_page}
use Rattle.load.specs.Load.{Load, empty, emptied, with_byte, holds, store_page}
use Rattle.load.proofs.Spanning.{empty_span_inside, dropped_inside}
use Rattle.load.proofs.Laws.{put_inside, put_runs_on}
use Rattle.control.specs.declared.Control.{Control}
use Rattle.control.specs.declared.Said.{Said}
use Rattle.control.specs.declared.phase.Phase.TheVariants.{TakesData}
use Rattle.control.specs.declared.phase.Data.{Data}
use Rattle.control.specs.declared.phase.Data.TheVariants.{ToArray, ToSecurity}
use Rattle.control.specs.Control.{in_phase, arraycounter_at, securitycounter_at}
use Rattle.taking.specs.Taking as taking
use Rattle.cycle.specs.Stop.{writes_array, writes_security, stop}
use Rattle.chip.specs.declared.Stepped.{Stepped}
use Rattle.chip.specs.Chip.{step, values_after}
use Rattle.wellformed.specs.Wellformed.{control_fits, only_data_loads, next_data_runs_on, span_fits, well_formed}
use Rattle.loads.specs.Marked as marked
use Rattle.loads.specs.Loads.{marks_of, Accepted, loaded_from, marked_from, takes, sent_and_stopped, array_after, security_after, by_marks, array_by_marks, security_by_marks}
use Rattle.loads.proofs.Agree.{Alike, alike_stored, alike_put, stores_agree, empty_agrees, holds_agrees, put_agrees, emptied_agrees}

module _ (g : Geometry) (sound : Sound g) where
  stays_accepted : (at byte : ℕ) (load : Load) → Accepted g at load → Accepted g (next_in_page g at) (with_byte g at byte load)
  stays_accepted at byte load accepted =
      record { inside = put_inside g load.span accepted.inside sound at; next = put_runs_on g load.span accepted.inside sound at accepted.next }

  -- whatever bytes come, the load is inside its page, and the marks that it stands for are those that the bytes would have set
  pub stays_inside : (bytes : List ℕ) (at : ℕ) (load : Load) → Accepted g at load → inside_page g.page (loaded_from g at bytes load).span ≡ true
  stays_inside [] at load accepted = accepted.inside
  stays_inside (byte ∷ bytes) at load accepted = stays_inside bytes (next_in_page g at) (with_byte g at byte load) (stays_accepted at byte load accepted)

  pub bytes_agree : (bytes : List ℕ) (at : ℕ) (load : Load) → Accepted g at load → marks_of g (loaded_from g at bytes load) ≡ marked_from g at bytes (marks_of g load)
  bytes_agree [] at load accepted = refl
  bytes_agree (byte ∷ bytes) at load accepted =
      bytes_agree bytes (next_in_page g at) (with_byte g at byte load) (stays_accepted at byte load accepted)
      ∙ ap (marked_from g (next_in_page g at) bytes) (put_agrees g sound load accepted.inside at byte accepted.next)

  module _ (at : ℕ) (load : Load) (accepted : Accepted g at load) (bytes : List ℕ) where
    -- so both hold a byte or neither does, and both leave the same store, on the page of any address
    pub holds_the_same : holds (loaded_from g at bytes load).span ≡ marked.holds g (marked_from g at bytes (marks_of g load))
    holds_the_same =
        holds_agrees g sound (loaded_from g at bytes load) (stays_inside bytes at load accepted) ∙ ap (marked.holds g) (bytes_agree bytes at load accepted)

    pub stores_the_same : (page : ℕ) (store : List ℕ)
        → store_page g page (loaded_from g at bytes load) store ≡ marked.store_page g page (marked_from g at bytes (marks_of g load)) store
    stores_the_same page store =
        stores_agree g sound (loaded_from g at bytes load) (stays_inside bytes at load accepted) page store ∙ ap (λ (held : marked.Load). marked.store_page g page held store) (bytes_agree bytes at load accepted)

    -- and what a Stop leaves is the same
    pub stops_the_same : (free : Bool) (page : ℕ) (store : List ℕ)
        → cond (holds (loaded_from g at bytes load).span && free) (store_page g page (loaded_from g at bytes load) store) store
        ≡ by_marks free g page (marked_from g at bytes (marks_of g load)) store
    stops_the_same free page store = rw (holds_the_same, stores_the_same page store)

  -- an empty load, whatever its values
  empty_accepted : (at : ℕ) (load : Load) → inside_page g.page load.span ≡ true → is_empty load.span ≡ true → Accepted g at load
  empty_accepted at load inside none = record { inside = inside; next = or_left (is_empty load.span) _ none }

  -- from an empty load, any list of bytes from any address
  pub same_from_empty : (at : ℕ) (bytes : List ℕ) (page : ℕ) (store : List ℕ)
      → store_page g page (loaded_from g at bytes empty) store ≡ marked.store_page g page (marked_from g at bytes marked.empty) store
  same_from_empty at bytes page store =
      let inside = empty_span_inside g.page sound.page_some in
      stores_the_same at empty (empty_accepted at empty inside refl) bytes page store
      ∙ ap (λ (held : marked.Load). marked.store_page g page (marked_from g at bytes held) store) (empty_agrees g sound empty inside refl)

  -- and from one that was emptied, whatever stood in it
  bytes_alike : (bytes : List ℕ) (at : ℕ) (one other : marked.Load) → Alike g one other → Alike g (marked_from g at bytes one) (marked_from g at bytes other)
  bytes_alike [] at one other alike = alike
  bytes_alike (byte ∷ bytes) at one other alike = bytes_alike bytes (next_in_page g at) _ _ (alike_put g sound one other alike at byte)

  pub same_from_emptied : (load : Load) → inside_page g.page load.span ≡ true → length load.values ≡ 256
      → (at : ℕ) (bytes : List ℕ) (page : ℕ) (store : List ℕ)
      → store_page g page (loaded_from g at bytes (emptied load)) store ≡ marked.store_page g page (marked_from g at bytes (marked.emptied (marks_of g load))) store
  same_from_emptied load inside long at bytes page store =
      stores_the_same at (emptied load) (empty_accepted at (emptied load) (dropped_inside g.page load.span inside) refl) bytes page store
      ∙ alike_stored g _ _ (bytes_alike bytes at _ _ (emptied_agrees g sound load inside long)) page store

-- each byte of either kind is loaded and moves its counter on
array_sent : (bytes : List ℕ) (c : Control) (load : Load) (said : Said) (array security : List ℕ)
    → sent_and_stopped bytes (takes ToArray c load.span) load.values said array security
    ≡ (let held = loaded_from (geometry_of c.part) c.arraycounter bytes load in
    sent_and_stopped [] (record { control = array_after bytes c; span = held.span }) held.values said array security)
unfolding step values_after taking.take taking.span_after taking.values_after
array_sent [] c load said array security = refl
array_sent (byte ∷ bytes) c load said array security =
    let g = geometry_of c.part in array_sent bytes (arraycounter_at (next_in_page g c.arraycounter) c) (with_byte g c.arraycounter byte load) _ array security

security_sent : (bytes : List ℕ) (c : Control) (load : Load) (said : Said) (array security : List ℕ)
    → sent_and_stopped bytes (takes ToSecurity c load.span) load.values said array security
    ≡ (let held = loaded_from (geometry_of c.part) c.securitycounter bytes load in
    sent_and_stopped [] (record { control = security_after bytes c; span = held.span }) held.values said array security)
unfolding step values_after taking.take taking.span_after taking.values_after
security_sent [] c load said array security = refl
security_sent (byte ∷ bytes) c load said array security =
    let g = geometry_of c.part in security_sent bytes (securitycounter_at (next_in_page g c.securitycounter) c) (with_byte g c.securitycounter byte load) _ array security

-- the store of what a Stop comes to
store_of : {A : Type 0} (test : Bool) (a b : A) (x y : List ℕ) → (cond {A = A × List ℕ} test (a, x) (b, y)).1 ≡ cond test x y
store_of true a b x y = refl
store_of false a b x y = refl

-- what 10 asks of a chip that takes data
data_clauses : (kind : Data) (c : Control) (span : Span) → well_formed (takes kind c span) ≡ true
    → (inside_page (geometry_of c.part).page span ≡ true) × (next_data_runs_on kind (in_phase (TakesData kind) c) span ≡ true)
unfolding well_formed
data_clauses kind c span formed =
    let d : Control = in_phase (TakesData kind) c in
    let spans : span_fits d span ≡ true = and_right (control_fits d) _ formed in
    let rest : (only_data_loads d span && next_data_runs_on kind d span) ≡ true = and_right (inside_page (geometry_of c.part).page span) _ spans in
    (and_left _ _ spans, and_right (only_data_loads d span) _ rest)

-- what a Stop stores is the same for every load: of every chip that takes data and that 10 lets through, after every list of bytes
pub same_for_every_array_load : (c : Control) (load : Load) → well_formed (takes ToArray c load.span) ≡ true
    → (bytes : List ℕ) (said : Said) (array security : List ℕ)
    → (sent_and_stopped bytes (takes ToArray c load.span) load.values said array security).1
    ≡ array_by_marks (array_after bytes c) (marked_from (geometry_of c.part) c.arraycounter bytes (marks_of (geometry_of c.part) load)) array
unfolding step stop
same_for_every_array_load c load formed bytes said array security =
    let (inside, next) = data_clauses ToArray c load.span formed in
    let accepted : Accepted (geometry_of c.part) c.arraycounter load = record { inside = inside; next = next } in
    ap (λ (x : Stepped × List ℕ × List ℕ × List ℕ). x.1) (array_sent bytes c load said array security)
    ∙ store_of (writes_array (array_after bytes c) (loaded_from (geometry_of c.part) c.arraycounter bytes load).span) _ _ _ array
    ∙ stops_the_same _ (sound_of c.part) c.arraycounter load accepted bytes _ _ array

pub same_for_every_security_load : (c : Control) (load : Load) → well_formed (takes ToSecurity c load.span) ≡ true
    → (bytes : List ℕ) (said : Said) (array security : List ℕ)
    → (sent_and_stopped bytes (takes ToSecurity c load.span) load.values said array security).2
    ≡ security_by_marks (security_after bytes c) (marked_from (geometry_of c.part) c.securitycounter bytes (marks_of (geometry_of c.part) load)) security
unfolding step stop
same_for_every_security_load c load formed bytes said array security =
    let (inside, next) = data_clauses ToSecurity c load.span formed in
    let accepted : Accepted (geometry_of c.part) c.securitycounter load = record { inside = inside; next = next } in
    ap (λ (x : Stepped × List ℕ × List ℕ × List ℕ). x.2) (security_sent bytes c load said array security)
    ∙ store_of (writes_security (security_after bytes c) (loaded_from (geometry_of c.part) c.securitycounter bytes load).span) _ _ _ security
    ∙ stops_the_same _ (sound_of c.part) c.securitycounter load accepted bytes _ _ security
