-- One iteration of a loop over the chips is `chip_takes`: shares that are cut at the stores' ends are the spans of the definition, and what a
-- chip makes of the event on its shares lands in its place.
use Prim.Native.Nat.{ℕ, ◌+◌, ◌-◌, ◌*◌, ◌^◌, ◌<◌, ◌≤◌}
use native.Mathlib.Decide.{dec_le}
use native.Mathlib.Omega.{arith}
use mathlib.Core.Bool.{Bool, true, false, cond, ◌&&◌}
use mathlib.Core.List.{List, [], ◌++◌}
use mathlib.Core.Path.{◌≡◌, ◌∙◌, refl, sym, ap}
use lib.ListN.{length, take, drop, set}
use lib.Seq.{set-get_or}
use Rattle.base.specs.Fold.{up_to}
use Rattle.base.specs.Least.{least}
use Rattle.base.specs.Store.{span, patched}
use Rattle.base.proofs.Fold.{up_more, up_keeps}
use Rattle.base.proofs.Cut.{patched_same, least_step, span_cut, patched_cut}
use Rattle.base.proofs.number.Laws.{least_first, least_second, least_most}
use Rattle.base.proofs.logic.Laws.{either, first_one}
use Rattle.control.specs.declared.Said.{Said}
use Rattle.control.specs.Phase.{is_sending}
use Rattle.chip.specs.declared.Chip.{Chip}
use Rattle.chip.specs.declared.Stepped.{Stepped}
use Rattle.chip.specs.Chip.{quiet, taken, read, stop, moved, meets_nothing, step, values_after}
use Rattle.chip.specs.declared.event.Event.TheVariants.{Stop, Sent, Read}
use Rattle.parts.specs.Part.{geometry_of}
use Rattle.parts.proofs.part.Laws.{sound_of}
use Rattle.chip.proofs.Laws.{is_sent, moves_alone, only_sent_loads}
use Rattle.board.specs.declared.Place.{Place}
use Rattle.board.specs.Place.{place_at, placed}
use Rattle.board.specs.Shares.{figures_at, array_start, security_start}
use Rattle.decode.specs.declared.Addressed.{Addressed}
use Rattle.decode.specs.Decode.{reaches, event_of}
use Rattle.lineup.specs.Chips.{no_chip, chip_at, places_of}
use Rattle.lineup.proofs.Laws.{place_at_lem}
use Rattle.line.specs.Line as line
use Rattle.line.specs.declared.Ends.{Ends}
use Rattle.line.specs.Line.{chip_loads, share_ends, array_share, security_share, heard, OnLine, landed, chip_takes, hears}
use Rattle.line.proofs.Deaf.{deaf_to_sent, deaf_to_read, passed_by}

abbrev pub on_line : List Chip → Said → List ℕ → List ℕ → OnLine
on_line chips said array security = (record { chips = chips; said = said }, array, security)

-- where a cut share ends, from where it starts: behind its start, inside the store, and where the next one starts
module _ (start size len at end : ℕ) (begins : at ≡ least start len) (ends : end ≡ least (at + size) len) where
  share_ends_lem : end ≡ least (start + size) len
  share_ends_lem = ends ∙ ap (λ (from : ℕ). least (from + size) len) begins ∙ least_step start size len

  share_lies : (at ≤ end) × (end ≤ len)
  share_lies = go (dec_le (at + size) len)
    where
      go : Dec (at + size ≤ len) → (at ≤ end) × (end ≤ len)
      go (yes p) = let is : end ≡ at + size = ends ∙ least_first (at + size) len p in (omega arith, omega arith)
      go (no p) =
          let is : end ≡ len = ends ∙ least_second (at + size) len (omega arith) in
          (omega (arith, begins, least_most start len), omega arith)

-- the next share starts where this one ends
next_begins : (share : ℕ → ℕ) (i len most at end : ℕ) → at ≡ least (up_to (λ (j from : ℕ). from + share j) i 0) len → end ≡ least (at + share i) len → len ≡ most
    → end ≡ least (up_to (λ (j from : ℕ). from + share j) (i + 1) 0) most
next_begins share i len most at end begins ends same =
    share_ends_lem (up_to (λ (j from : ℕ). from + share j) i 0) (share i) len at end begins ends
    ∙ ap (λ (start : ℕ). least start len) (up_more (λ (j from : ℕ). from + share j) i 0 refl refl)
    ∙ ap (least (up_to (λ (j from : ℕ). from + share j) (i + 1) 0)) same

-- where the shares of chip i lie in stores of some lengths: where they start, and where `share_ends` has them end
pub record Cut (places : List Place) (i at from array security : ℕ) (ends : Ends) : Type 0 where
  pub array_begins : at ≡ least (array_start places i) array
  pub array_ends : ends.array ≡ least (at + (figures_at places i).array) array
  pub security_begins : from ≡ least (security_start places i) security
  pub security_ends : ends.security ≡ least (from + (figures_at places i).security) security

module _ {places : List Place} {i at from array security : ℕ} {ends : Ends} (cut : Cut places i at from array security ends) where
  pub array_end_lem : ends.array ≡ least (array_start places i + (figures_at places i).array) array
  array_end_lem = share_ends_lem _ _ _ _ _ cut.array_begins cut.array_ends

  pub array_lies : (at ≤ ends.array) × (ends.array ≤ array)
  array_lies = share_lies _ _ _ _ _ cut.array_begins cut.array_ends

  pub array_next : (most : ℕ) → array ≡ most → ends.array ≡ least (array_start places (i + 1)) most
  array_next most = next_begins (λ (k : ℕ). (figures_at places k).array) i array most at ends.array cut.array_begins cut.array_ends

  -- parts are small, so that sums of shares are
  pub array_small : at ≤ i * 2 ^ 24 → ends.array ≤ (i + 1) * 2 ^ 24
  array_small small = omega (arith, cut.array_ends, least_most (at + (figures_at places i).array) array, (sound_of (place_at places i).part).array_most)

  pub security_end_lem : ends.security ≡ least (security_start places i + (figures_at places i).security) security
  security_end_lem = share_ends_lem _ _ _ _ _ cut.security_begins cut.security_ends

  pub security_lies : (from ≤ ends.security) × (ends.security ≤ security)
  security_lies = share_lies _ _ _ _ _ cut.security_begins cut.security_ends

  pub security_next : (most : ℕ) → security ≡ most → ends.security ≡ least (security_start places (i + 1)) most
  security_next most = next_begins (λ (k : ℕ). (figures_at places k).security) i security most from ends.security cut.security_begins cut.security_ends

  pub security_small : from ≤ i * 2 ^ 24 → ends.security ≤ (i + 1) * 2 ^ 24
  security_small small = omega (arith, cut.security_ends, least_most (from + (figures_at places i).security) security, (sound_of (place_at places i).part).security_most)

-- a chip that the loop has not come to is as it came, so its part is the one on the board
pub cut_at : (chips next : List Chip) (i at from array security : ℕ) (ends : Ends) → i < 4 → chip_at next i ≡ chip_at chips i
    → at ≡ least (array_start (places_of chips) i) array
    → from ≡ least (security_start (places_of chips) i) security
    → ends ≡ share_ends (geometry_of (chip_at next i).control.part) at from array security
    → Cut (places_of chips) i at from array security ends
cut_at chips next i at from array security ends below same begins begins' is =
    let figured : geometry_of (chip_at next i).control.part ≡ figures_at (places_of chips) i = rw (place_at_lem chips i below) (ap (λ (c : Chip). geometry_of c.control.part) same) in
    record {
      array_begins = begins;
      array_ends = rw (← figured) (ap (λ (e : Ends). e.array) is);
      security_begins = begins';
      security_ends = rw (← figured) (ap (λ (e : Ends). e.security) is);
    }

-- a part that is lent from a cut start to a cut end, and handed back
module _ (start size from to : ℕ) (store : List ℕ) (begins : from ≡ least start (length store)) (ends : to ≡ least (start + size) (length store)) where
  pub lent : take (to - from) (drop from store) ≡ span start size store
  lent = rw (begins, ends) (span_cut start size store)

  pub back : (values : List ℕ) → length values ≡ length (take (to - from) (drop from store)) → take from store ++ (values ++ drop (to - from) (drop from store)) ≡ patched start values store
  back values kept = rw (begins, ends) (patched_cut start size store values (rw (begins, ends) at kept))

-- or handed back as it was
pub kept : (start size : ℕ) (store : List ℕ) {share : List ℕ} → share ≡ span start size store → store ≡ patched start share store
kept start size store is = rw is (sym (patched_same start size store))

-- what chip i makes of the event on some shares: its step, or it stays where it is not reached
abbrev pub takes_on : Addressed → List ℕ → ℕ → Chip → List ℕ → List ℕ → Stepped × List ℕ × List ℕ
takes_on addressed values i c share share' = cond (reaches addressed i) (step c values share share' (event_of addressed)) (quiet c, share, share')

module _ (addressed : Addressed) (values : List ℕ) (places : List Place) (i : ℕ) (chips : List Chip) (said : Said) (array security : List ℕ) where
  abbrev c : Chip
  c = chip_at chips i

  abbrev a : List ℕ
  a = array_share places i array

  abbrev s : List ℕ
  s = security_share places i security

  -- it lands, whether it is reached or put back as it is
  pub chip_lands : chip_takes addressed values places i (on_line chips said array security) ≡ landed places i (on_line chips said array security) (takes_on addressed values i c a s)
  chip_lands = go (reaches addressed i)
    where
      go : (reached : Bool) → cond reached (landed places i (on_line chips said array security) (step c values a s (event_of addressed))) (on_line chips said array security)
          ≡ landed places i (on_line chips said array security) (cond reached (step c values a s (event_of addressed)) (quiet c, a, s))
      go true = refl
      go false =
          rw (set-get_or chips i no_chip, patched_same (array_start places i) (figures_at places i).array array, patched_same (security_start places i) (figures_at places i).security security)

  -- on shares that were lent and handed back
  pub shares_land : (stepped : Stepped) (array' security' share share' after after' : List ℕ) (more : Said)
      → share ≡ array_share places i array
      → share' ≡ security_share places i security
      → array' ≡ patched (array_start places i) after array
      → security' ≡ patched (security_start places i) after' security
      → (stepped, after, after') ≡ takes_on addressed values i (chip_at chips i) share share'
      → more ≡ heard said stepped.said
      → on_line (set chips i stepped.chip) more array' security' ≡ chip_takes addressed values places i (on_line chips said array security)
  shares_land stepped array' security' share share' after after' more is is' put put' does says =
      let done : (stepped, after, after') ≡ takes_on addressed values i c a s = rw (is, is') at does in
      rw (put, put', says) (ap (landed places i (on_line chips said array security)) done) ∙ sym chip_lands

  -- where the event leaves the shares
  pub alone_lands : (stepped : Stepped) (more : Said) → (stepped, array_share places i array, security_share places i security) ≡ takes_on addressed values i (chip_at chips i) (array_share places i array) (security_share places i security)
      → more ≡ heard said stepped.said
      → on_line (set chips i stepped.chip) more array security ≡ chip_takes addressed values places i (on_line chips said array security)
  alone_lands stepped more does says =
      shares_land stepped array security a s a s more refl refl
      (sym (patched_same (array_start places i) (figures_at places i).array array))
      (sym (patched_same (security_start places i) (figures_at places i).security security))
      does
      says

  -- and where it is not reached, or the event means nothing to it, it stays
  pub passed_over : (quiet (chip_at chips i), array_share places i array, security_share places i security) ≡ takes_on addressed values i (chip_at chips i) (array_share places i array) (security_share places i security)
      → on_line chips said array security ≡ chip_takes addressed values places i (on_line chips said array security)
  passed_over stays = ap (λ (cs : List Chip). on_line cs said array security) (sym (set-get_or chips i no_chip)) ∙ alone_lands (quiet c) said stays refl

  pub not_reached : reaches addressed i ≡ false → on_line chips said array security ≡ chip_takes addressed values places i (on_line chips said array security)
  not_reached is = rw is refl

  -- an event that meets neither stores nor values moves the chip alone
  pub moves : meets_nothing (event_of addressed) ≡ true
      → (quiet (cond (reaches addressed i) (moved (chip_at chips i) (event_of addressed)) (chip_at chips i)), array_share places i array, security_share places i security)
      ≡ takes_on addressed values i (chip_at chips i) (array_share places i array) (security_share places i security)
  moves nothing = go (reaches addressed i)
    where
      go : (reached : Bool) → (quiet (cond reached (moved c (event_of addressed)) c), a, s) ≡ cond reached (step c values a s (event_of addressed)) (quiet c, a, s)
      go true = sym (moves_alone c values a s (event_of addressed) nothing)
      go false = refl

  pub reached_moves : meets_nothing (event_of addressed) ≡ true → reaches addressed i ≡ true → (next : Chip) → next ≡ moved (chip_at chips i) (event_of addressed)
      → on_line (set chips i next) said array security ≡ chip_takes addressed values places i (on_line chips said array security)
  reached_moves nothing is next does = alone_lands (quiet next) said (ap (λ (n : Chip). (quiet n, a, s)) (first_one _ _ is does) ∙ moves nothing) refl

  -- a byte sent leaves the shares, and may be loaded
  pub takes_byte : (first : Bool) (byte : ℕ) → event_of addressed ≡ Sent first byte → (stepped : Stepped) (before after : List ℕ)
      → (stepped, after) ≡ cond (reaches addressed i) (taken (chip_at chips i) first byte before) (quiet (chip_at chips i), before)
      → ((stepped, array_share places i array, security_share places i security) ≡ takes_on addressed values i (chip_at chips i) (array_share places i array) (security_share places i security))
      × (after ≡ cond (reaches addressed i) (values_after (chip_at chips i) (event_of addressed) before) before)
  unfolding step values_after
  takes_byte first byte is stepped before after = go (reaches addressed i)
    where
      go : (reached : Bool) → (stepped, after) ≡ cond reached (taken c first byte before) (quiet c, before)
          → ((stepped, a, s) ≡ cond reached (step c values a s (event_of addressed)) (quiet c, a, s)) × (after ≡ cond reached (values_after c (event_of addressed) before) before)
      go true does = rw is (ap (λ (x : Stepped × List ℕ). (x.0, a, s)) does, ap (λ (x : Stepped × List ℕ). x.1) does)
      go false does = (ap (λ (x : Stepped × List ℕ). (x.0, a, s)) does, ap (λ (x : Stepped × List ℕ). x.1) does)

  -- or means nothing to the chip
  pub deaf_to_byte : (first : Bool) (byte : ℕ) → event_of addressed ≡ Sent first byte → (reaches addressed i && hears first (chip_at chips i).control.phase) ≡ false → (before : List ℕ)
      → ((quiet (chip_at chips i), array_share places i array, security_share places i security) ≡ takes_on addressed values i (chip_at chips i) (array_share places i array) (security_share places i security))
      × (before ≡ cond (reaches addressed i) (values_after (chip_at chips i) (event_of addressed) before) before)
  deaf_to_byte first byte is deaf before = takes_byte first byte is (quiet c) before before (passed_by _ _ _ _ (deaf_to_sent c first byte before) deaf)

  -- a Stop, and a byte read, on shares that are lent
  pub takes_stop : event_of addressed ≡ Stop → (next : Chip) (share share' after after' : List ℕ)
      → (next, after, after') ≡ cond (reaches addressed i) (stop (chip_at chips i) values share share') (chip_at chips i, share, share')
      → (quiet next, after, after') ≡ takes_on addressed values i (chip_at chips i) share share'
  unfolding step
  takes_stop is next share share' after after' = go (reaches addressed i)
    where
      go : (reached : Bool) → (next, after, after') ≡ cond reached (stop c values share share') (c, share, share')
          → (quiet next, after, after') ≡ cond reached (step c values share share' (event_of addressed)) (quiet c, share, share')
      go true does = rw is (ap (λ (x : Chip × List ℕ × List ℕ). (quiet x.0, x.1, x.2)) does)
      go false does = ap (λ (x : Chip × List ℕ × List ℕ). (quiet x.0, x.1, x.2)) does

  pub takes_read : (nack : Bool) → event_of addressed ≡ Read nack → (stepped : Stepped) (share share' : List ℕ)
      → stepped ≡ cond (reaches addressed i) (read (chip_at chips i) share share' nack) (quiet (chip_at chips i))
      → (stepped, share, share') ≡ takes_on addressed values i (chip_at chips i) share share'
  unfolding step
  takes_read nack is stepped share share' = go (reaches addressed i)
    where
      go : (reached : Bool) → stepped ≡ cond reached (read c share share' nack) (quiet c)
          → (stepped, share, share') ≡ cond reached (step c values share share' (event_of addressed)) (quiet c, share, share')
      go true does = rw is (ap (λ (x : Stepped). (x, share, share')) does)
      go false does = ap (λ (x : Stepped). (x, share, share')) does

  -- or means nothing to the chip
  pub deaf_to_reading : (nack : Bool) → event_of addressed ≡ Read nack → (reaches addressed i && is_sending (chip_at chips i).control.phase) ≡ false
      → (quiet (chip_at chips i), array_share places i array, security_share places i security) ≡ takes_on addressed values i (chip_at chips i) (array_share places i array) (security_share places i security)
  deaf_to_reading nack is deaf = takes_read nack is (quiet c) a s (passed_by _ _ _ _ (deaf_to_read c a s nack) deaf)

-- an event that is no byte sent leaves the values
pub values_stay : (addressed : Addressed) (count : ℕ) (chips : List Chip) (values : List ℕ) → is_sent (event_of addressed) ≡ false → values ≡ line.values_after addressed count chips values
unfolding line.values_after
values_stay addressed count chips values other =
    up_keeps (chip_loads addressed chips) (λ (now : List ℕ). values ≡ now)
    (λ i now same. same ∙ either (λ (next : List ℕ). now ≡ next) (reaches addressed i) _ now (sym (only_sent_loads (chip_at chips i) now [] [] (event_of addressed) other)) refl)
    (placed count) values refl
