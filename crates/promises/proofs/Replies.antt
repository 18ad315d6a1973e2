-- What the line answers (paper, event table): to a byte sent 01 if any chip acknowledges, else 02 (request E8, see Occupied) or 00; to a byte read
-- the byte, FF if no chip sends. To a byte sent no chip says a byte, to a byte read only a chip that sends says anything, and at most one sends.
use Prim.Native.Nat.{ℕ, zero, suc, ◌<◌}
use native.Mathlib.Decide.{dec_lt}
use native.Mathlib.Omega.{arith}
use mathlib.Core.Bool.{Bool, true, false, ◌||◌, true≢false, false≢true}
use mathlib.Core.List.{List}
use mathlib.Core.Logic.{◌↔◌, ◌⊎◌, inl, inr}
use mathlib.Core.Path.{◌≡◌, ◌∙◌, refl, sym, ap}
use Rattle.base.specs.Fold.{up_to, any_below}
use Rattle.base.proofs.logic.Laws.{and_left, and_both, or_left, or_right}
use Rattle.base.proofs.Fold.{any_at, any_some}
use Rattle.control.specs.declared.Control.{Control}
use Rattle.control.specs.declared.Said.{Said}
use Rattle.control.specs.declared.Said.TheVariants.{Nothing, Ack, Occupied, Byte}
use Rattle.control.specs.Phase.{is_sending}
use Rattle.control.specs.Said.{reply_of}
use Rattle.chip.specs.declared.Chip.{Chip}
use Rattle.chip.specs.declared.Stepped.{Stepped}
use Rattle.chip.specs.declared.event.Event.TheVariants.{Sent, Read}
use Rattle.wellformed.specs.Beside.{side_by_side, is_active, not_both_active}
use Rattle.board.specs.Place.{placed}
use Rattle.decode.specs.declared.Addressed.TheVariants.{ToAll}
use Rattle.lineup.specs.Chips.{chip_at, control_at}
use Rattle.lineup.specs.Wellformed.{well_formed}
use Rattle.line.specs.Line.{unless_said, heard, line_reply}
use Rattle.line.proofs.Deaf.{read_stays}
use Rattle.promises.specs.Own.{own, gathered}
use Rattle.promises.proofs.Formed.{formed_of}
use Rattle.promises.proofs.Sent.{is_byte, sent_no_byte}

abbrev pub is_ack : Said → Bool
is_ack Nothing = false
is_ack Ack = true
is_ack Occupied = false
is_ack (Byte byte) = false

is_ack_lem : (said : Said) → is_ack said ≡ true → said ≡ Ack
is_ack_lem Nothing is = absurd (false≢true is)
is_ack_lem Ack is = refl
is_ack_lem Occupied is = absurd (false≢true is)
is_ack_lem (Byte byte) is = absurd (false≢true is)

-- reply 01 is an acknowledge, where it is no byte
acked : (said : Said) → is_byte said ≡ false → reply_of 0 said ≡ 1 → is_ack said ≡ true
acked Nothing other is = absurd (omega arith)
acked Ack other is = refl
acked Occupied other is = absurd (omega arith)
acked (Byte byte) other is = absurd (true≢false other)

pub after_silence : (said : Said) → heard Nothing said ≡ said
after_silence Nothing = refl
after_silence Ack = refl
after_silence Occupied = refl
after_silence (Byte byte) = refl

-- a chip that says it is busy adds no byte and takes no acknowledge away
unless_no_byte : (before : Said) → is_byte before ≡ false → is_byte (unless_said before Occupied) ≡ false
unless_no_byte Nothing is = refl
unless_no_byte Ack is = refl
unless_no_byte Occupied is = refl
unless_no_byte (Byte byte) is = is

unless_acks : (before : Said) → is_ack (unless_said before Occupied) ≡ is_ack before
unless_acks Nothing = refl
unless_acks Ack = refl
unless_acks Occupied = refl
unless_acks (Byte byte) = refl

-- what a line carries when n chips have spoken
module _ (says : ℕ → Said) where
  abbrev pub carried : ℕ → Said
  carried n = up_to (λ (i : ℕ) (said : Said). heard said (says i)) n Nothing

  module _ (no_byte_lem : (i : ℕ) → is_byte (says i) ≡ false) where
    pub none_carried : (n : ℕ) → is_byte (carried n) ≡ false
    unfolding up_to
    none_carried zero = refl
    none_carried (suc n) = go (says n) (no_byte_lem n) (none_carried n)
      where
        go : (said : Said) → is_byte said ≡ false → is_byte (carried n) ≡ false → is_byte (heard (carried n) said) ≡ false
        go Nothing is earlier = earlier
        go Ack is earlier = refl
        go Occupied is earlier = unless_no_byte (carried n) earlier
        go (Byte byte) is earlier = is

    acks_carried : (n : ℕ) → is_ack (carried n) ≡ any_below (λ (i : ℕ). is_ack (says i)) n
    unfolding up_to
    acks_carried zero = refl
    acks_carried (suc n) = go (says n) (no_byte_lem n) (acks_carried n)
      where
        go : (said : Said) → is_byte said ≡ false → is_ack (carried n) ≡ any_below (λ (i : ℕ). is_ack (says i)) n
            → is_ack (heard (carried n) said) ≡ (is_ack said || any_below (λ (i : ℕ). is_ack (says i)) n)
        go Nothing is earlier = earlier
        go Ack is earlier = refl
        go Occupied is earlier = unless_acks (carried n) ∙ earlier
        go (Byte byte) is earlier = absurd (true≢false is)

  pub silent_line : (n : ℕ) → ((i : ℕ) → i < n → says i ≡ Nothing) → carried n ≡ Nothing
  unfolding up_to
  silent_line zero silent = refl
  silent_line (suc n) silent = rw (silent n (omega arith)) (silent_line n (λ i below. silent i (omega arith)))

  pub one_speaks : (n i : ℕ) → i < n → ((j : ℕ) → j < n → (j ≡ i → ⊥) → says j ≡ Nothing) → carried n ≡ says i
  unfolding up_to
  one_speaks zero i below others = absurd (omega arith)
  one_speaks (suc n) i below others = go (dec_lt i n) (λ (p : i < n). one_speaks n i p (λ j before differ. others j (omega arith) differ))
    where
      go : Dec (i < n) → (i < n → carried n ≡ says i) → heard (carried n) (says n) ≡ says i
      go (yes p) earlier = rw (others n (omega arith) (λ (is : n ≡ i). absurd (omega arith))) (earlier p)
      go (no p) earlier =
          let last : n ≡ i = omega arith in
          rw (silent_line n (λ j before. others j (omega arith) (λ (is : j ≡ i). absurd (omega arith))), last) (after_silence (says i))

module _ (first : Bool) (byte count : ℕ) (chips : List Chip) (values array security : List ℕ) where
  abbrev says_to : ℕ → Said
  says_to i = (own (ToAll (Sent first byte)) chips values array security i).0.said

  abbrev acks : ℕ → Bool
  acks i = is_ack (says_to i)

  abbrev line : Said
  line = gathered (ToAll (Sent first byte)) count chips values array security

  no_byte_lem : (i : ℕ) → is_byte (says_to i) ≡ false
  no_byte_lem i = sent_no_byte (chip_at chips i) _ _ _ first byte

  line_no_byte : is_byte line ≡ false
  line_no_byte = none_carried says_to no_byte_lem (placed count)

  line_acks : is_ack line ≡ any_below acks (placed count)
  line_acks = acks_carried says_to no_byte_lem (placed count)

  pub acknowledged_exactly_when :
      (line_reply (Sent first byte) (gathered (ToAll (Sent first byte)) count chips values array security) ≡ 1)
      ↔ ((i : ℕ) × ((i < placed count) × ((own (ToAll (Sent first byte)) chips values array security i).0.said ≡ Ack)))
  acknowledged_exactly_when = (to, from)
    where
      to : reply_of 0 line ≡ 1 → (i : ℕ) × ((i < placed count) × (says_to i ≡ Ack))
      to is =
          let (i, (below, here)) = any_some acks (placed count) (sym line_acks ∙ acked line line_no_byte is) in
          (i, (below, is_ack_lem (says_to i) here))

      from : (i : ℕ) × ((i < placed count) × (says_to i ≡ Ack)) → reply_of 0 line ≡ 1
      from (i, (below, here)) = rw (is_ack_lem line (line_acks ∙ any_at acks (placed count) i below (ap is_ack here)))

  pub else_unanswered :
      (line_reply (Sent first byte) (gathered (ToAll (Sent first byte)) count chips values array security) ≡ 1)
      ⊎ ((line_reply (Sent first byte) (gathered (ToAll (Sent first byte)) count chips values array security) ≡ 2)
      ⊎ (line_reply (Sent first byte) (gathered (ToAll (Sent first byte)) count chips values array security) ≡ 0))
  else_unanswered = go line line_no_byte
    where
      go : (said : Said) → is_byte said ≡ false → (reply_of 0 said ≡ 1) ⊎ ((reply_of 0 said ≡ 2) ⊎ (reply_of 0 said ≡ 0))
      go Nothing other = inr (inr refl)
      go Ack other = inl refl
      go Occupied other = inr (inl refl)
      go (Byte b) other = absurd (true≢false other)

module _ (nack : Bool) (count : ℕ) (chips : List Chip) (values array security : List ℕ) where
  abbrev says_back : ℕ → Said
  says_back i = (own (ToAll (Read nack)) chips values array security i).0.said

  read_silent : (i : ℕ) → is_sending (control_at chips i).phase ≡ false → says_back i ≡ Nothing
  read_silent i deaf = ap (λ (x : Stepped × List ℕ × List ℕ). x.0.said) (read_stays (chip_at chips i) _ _ _ nack deaf)

  pub byte_of_the_one_that_sends : (i : ℕ) → i < placed count → is_sending (control_at chips i).phase ≡ true
      → ((j : ℕ) → j < placed count → (j ≡ i → ⊥) → is_sending (control_at chips j).phase ≡ false)
      → gathered (ToAll (Read nack)) count chips values array security ≡ (own (ToAll (Read nack)) chips values array security i).0.said
  byte_of_the_one_that_sends i below sends others =
      one_speaks says_back (placed count) i below (λ j before differ. read_silent j (others j before differ))

  pub nobody_sends : ((i : ℕ) → i < placed count → is_sending (control_at chips i).phase ≡ false)
      → line_reply (Read nack) (gathered (ToAll (Read nack)) count chips values array security) ≡ 0xFF
  nobody_sends none = ap (line_reply (Read nack)) (silent_line says_back (placed count) (λ i below. read_silent i (none i below)))

-- a chip that sends is active, and no two are
not_both : (c d : Control) → side_by_side c d ≡ true → is_sending c.phase ≡ true → is_sending d.phase ≡ true → ⊥
not_both c d beside sends sends' =
    let both = and_both (is_active c) (is_active d) (active c sends) (active d sends') in
    false≢true (rw both at (and_left (not_both_active c d) _ beside))
  where
    active : (c : Control) → is_sending c.phase ≡ true → is_active c ≡ true
    active c sends = or_right c.chosen _ (or_left (is_sending c.phase) _ sends)

pub at_most_one_sends : (count : ℕ) (started : Bool) (chips : List Chip) (i j : ℕ) → well_formed count started chips ≡ true → i < placed count → j < placed count
    → is_sending (control_at chips i).phase ≡ true
    → is_sending (control_at chips j).phase ≡ true
    → i ≡ j
at_most_one_sends count started chips i j formed below below' sends sends' = go (dec_lt j i) (dec_lt i j)
  where
    go : Dec (j < i) → Dec (i < j) → i ≡ j
    go (yes p) q = absurd (not_both (control_at chips i) (control_at chips j) ((formed_of count started chips formed).apart i j below p) sends sends')
    go (no p) (yes q) = absurd (not_both (control_at chips j) (control_at chips i) ((formed_of count started chips formed).apart j i below' q) sends' sends)
    go (no p) (no q) = omega arith

-- so on a well-formed line a byte read is that of the chip that sends
pub the_sender_is_heard : (nack : Bool) (count : ℕ) (started : Bool) (chips : List Chip) (values array security : List ℕ) (i : ℕ) → well_formed count started chips ≡ true → i < placed count
    → is_sending (control_at chips i).phase ≡ true
    → gathered (ToAll (Read nack)) count chips values array security ≡ (own (ToAll (Read nack)) chips values array security i).0.said
the_sender_is_heard nack count started chips values array security i formed below sends =
    byte_of_the_one_that_sends nack count chips values array security i below sends others
  where
    others : (j : ℕ) → j < placed count → (j ≡ i → ⊥) → is_sending (control_at chips j).phase ≡ false
    others j before differ = go (is_sending (control_at chips j).phase) refl
      where
        go : (sending : Bool) → is_sending (control_at chips j).phase ≡ sending → sending ≡ false
        go true is = absurd (differ (at_most_one_sends count started chips j i formed before below is sends))
        go false is = refl
