-- Two digits make a byte; so a record's addresses and places are small, and no sum of them wraps. A line that is framed stands whole in
-- the text: its LF is a character other than 0, and past the text's end there is none. And what storing a record's data leaves at each
-- address: places go up by one, so each address is set once or not at all.
use Prim.Native.Nat.{ℕ, zero, suc, ◌+◌, ◌*◌, ◌-◌, ◌^◌, ◌≤◌, ◌<◌}
use native.Mathlib.Decide.{dec_lt, ℕ_discrete}
use native.Mathlib.Omega.{arith}
use mathlib.Core.Bool.{Bool, true, false, cond, ◌&&◌}
use mathlib.Core.List.{List, ◌++◌, append_assoc}
use mathlib.Core.Path.{◌≡◌, ◌∙◌, refl, sym, ap}
use lib.Dec.{eqb}
use lib.ListN.{length, take, drop, get_or, set, length-set, length-drop, get_or-eq_default}
use lib.Seq.{get_or-drop, get_or-set_same, get_or-set_other, take_all, drop-drop, paste, paste-zero, paste-suc}
use borrow.Author.Tests.{ltb-true, eqb-true}
use Rattle.std.specs.List.{list_all}
use Rattle.base.specs.Fold.{up_to}
use Rattle.base.specs.Store.{patched}
use Rattle.base.proofs.Fold.{up_keeps, up_same, all_below-list}
use Rattle.base.proofs.logic.Laws.{and_right}
use Rattle.transcript.specs.Frame.{lf}
use Rattle.hexline.specs.Digit.{is_hex_digit}
use Rattle.hexline.specs.Fields.{colon, cr, char_at, byte_at, bytes_in, count_in, data_at, end_at, end_size, line_size, all_digits, is_framed, first_address, put_data}
use Rattle.hexline.proofs.digit.Laws.{value_fits}

pub byte_fits : (rest : List ℕ) (i : ℕ) → byte_at rest i < 256
unfolding byte_at
byte_fits rest i = omega (arith, value_fits (char_at rest (1 + 2 * i)), value_fits (char_at rest (2 + 2 * i)))

pub first_fits : (upper : ℕ) (rest : List ℕ) → upper < 65536 → first_address upper rest < 2 ^ 32
first_fits upper rest fits = omega (arith, byte_fits rest 1, byte_fits rest 2)

pub end_fits : (rest : List ℕ) → end_size rest ≤ 2
end_fits rest = most (eqb (char_at rest (end_at rest)) lf) (eqb (char_at rest (end_at rest)) cr && eqb (char_at rest (end_at rest + 1)) lf)
  where
    most : (lone pair : Bool) → cond lone 1 (cond pair 2 0) ≤ 2
    most true pair = omega arith
    most false true = omega arith
    most false false = omega arith

-- a character other than 0 stands inside the text
inside : (rest : List ℕ) (i c : ℕ) → 0 < c → char_at rest i ≡ c → i < length rest
inside rest i c some is = go (dec_lt i (length rest))
  where
    go : Dec (i < length rest) → i < length rest
    go (yes p) = p
    go (no p) = absurd (omega (arith, is, get_or-eq_default rest 0 {n = i} (omega arith)))

end_inside : (rest : List ℕ) → 0 < end_size rest → line_size rest ≤ length rest
end_inside rest some = go (eqb (char_at rest (end_at rest)) lf) refl (eqb (char_at rest (end_at rest)) cr && eqb (char_at rest (end_at rest + 1)) lf) refl some
  where
    go : (one : Bool) → eqb (char_at rest (end_at rest)) lf ≡ one
        → (two : Bool) → (eqb (char_at rest (end_at rest)) cr && eqb (char_at rest (end_at rest + 1)) lf) ≡ two
        → 0 < cond one 1 (cond two 2 0) → end_at rest + cond one 1 (cond two 2 0) ≤ length rest
    go true is two also more = omega (arith, inside rest (end_at rest) lf (omega arith) (eqb-true _ _ is))
    go false is true also more =
        omega (arith, inside rest (end_at rest + 1) lf (omega arith) (eqb-true _ _ (and_right (eqb (char_at rest (end_at rest)) cr) _ also)))
    go false is false also more = absurd (omega arith)

-- where the line ends in the text, its digits are the definition's
pub digits_all : (rest : List ℕ) → 0 < end_size rest → {end : ℕ} → end ≡ end_at rest → list_all is_hex_digit (take (end - 1) (drop 1 rest)) ≡ all_digits rest
digits_all rest some {end} is =
    let n : ℕ = 2 * bytes_in rest in
    let count : end - 1 ≡ n = omega (arith, is) in
    let fits : n ≤ length (drop 1 rest) = omega (arith, end_inside rest some, length-drop 1 rest) in
    ap (λ (m : ℕ). list_all is_hex_digit (take m (drop 1 rest))) count
    ∙ all_below-list is_hex_digit (drop 1 rest) 0 n fits
    ∙ up_same _ (λ (i : ℕ) (ok : Bool). is_hex_digit (char_at rest (1 + i)) && ok) n
    (λ i ok below. ap (λ (byte : ℕ). is_hex_digit byte && ok) (get_or-drop 1 rest i 0)) true

pub framed_fits : (rest : List ℕ) → is_framed rest ≡ true → line_size rest ≤ length rest
unfolding is_framed
framed_fits rest framed =
    end_inside rest (ltb-true _ _ (and_right (all_digits rest) _ (and_right (eqb (char_at rest 0) colon) _ framed)))

-- values stored one after the other, from a place on
module _ (f : ℕ → ℕ) (at : ℕ) where
  abbrev put : ℕ → List ℕ → List ℕ
  put n share = up_to (λ (i : ℕ) (so_far : List ℕ). set so_far (at + i) (f i)) n share

  put_length : (n : ℕ) (share : List ℕ) → length (put n share) ≡ length share
  put_length n share =
      up_keeps (λ (i : ℕ) (so_far : List ℕ). set so_far (at + i) (f i)) (λ (so_far : List ℕ). length so_far ≡ length share)
      (λ i so_far kept. length-set so_far (at + i) (f i) ∙ kept) n share refl

  put_here : (n : ℕ) (share : List ℕ) (j d : ℕ) → at ≤ j → j < at + n → j < length share → get_or (put n share) j d ≡ f (j - at)
  unfolding up_to
  put_here zero share j d from below room = absurd (omega arith)
  put_here (suc n) share j d from below room = go (ℕ_discrete j (at + n)) (λ before. put_here n share j d from before room)
    where
      go : Dec (j ≡ at + n) → (j < at + n → get_or (put n share) j d ≡ f (j - at)) → get_or (set (put n share) (at + n) (f n)) j d ≡ f (j - at)
      go (yes last) earlier =
          let i : n ≡ j - at = omega arith in
          rw (← last) (get_or-set_same (put n share) j (f n) d (omega (arith, put_length n share)) ∙ ap f i)
      go (no other) earlier = get_or-set_other (put n share) (at + n) j (f n) d other ∙ earlier (omega arith)

  put_elsewhere : (n : ℕ) (share : List ℕ) (j d : ℕ) → (at ≤ j → j < at + n → ⊥) → get_or (put n share) j d ≡ get_or share j d
  unfolding up_to
  put_elsewhere zero share j d outside = refl
  put_elsewhere (suc n) share j d outside =
      get_or-set_other (put n share) (at + n) j (f n) d (λ same. outside (omega arith) (omega arith))
      ∙ put_elsewhere n share j d (λ from below. outside from (omega arith))

  -- values that are those of a list: a copy of it
  put_pasted : (content share : List ℕ) → ((i : ℕ) → i < length content → f i ≡ get_or content i 0) → at + length content ≤ length share
      → (n : ℕ) → n ≤ length content → put n share ≡ paste share at content n
  unfolding up_to
  put_pasted content share same room zero most = paste-zero share at content
  put_pasted content share same room (suc n) most =
      ap (λ (so_far : List ℕ). set so_far (at + n) (f n)) (put_pasted content share same room n (omega arith))
      ∙ ap (set (paste share at content n) (at + n)) (same n most)
      ∙ paste-suc share at content n 0 (omega arith) most

  put_patched : (content share : List ℕ) → ((i : ℕ) → i < length content → f i ≡ get_or content i 0) → at + length content ≤ length share
      → put (length content) share ≡ patched at content share
  put_patched content share same room =
      put_pasted content share same room (length content) (omega arith)
      ∙ append_assoc (take at share) (take (length content) content) (drop (at + length content) share)
      ∙ ap (λ (all : List ℕ). take at share ++ (all ++ drop (at + length content) share)) (take_all (length content) content (omega arith))
      ∙ ap (λ (rest : List ℕ). take at share ++ (content ++ rest)) (sym (drop-drop (length content) at share))

-- the data of a record
module _ (upper : ℕ) (rest : List ℕ) where
  pub put_data_length : (share : List ℕ) → length (put_data upper rest share) ≡ length share
  unfolding put_data
  put_data_length share = put_length (data_at rest) (first_address upper rest) (count_in rest) share

  -- an address that the record names holds its byte
  pub put_data_named : (share : List ℕ) (j d : ℕ) → first_address upper rest ≤ j → j < first_address upper rest + count_in rest → j < length share
      → get_or (put_data upper rest share) j d ≡ data_at rest (j - first_address upper rest)
  unfolding put_data
  put_data_named share j d from below room = put_here (data_at rest) (first_address upper rest) (count_in rest) share j d from below room

  -- any other is as it was
  pub put_data_unnamed : (share : List ℕ) (j d : ℕ) → (first_address upper rest ≤ j → j < first_address upper rest + count_in rest → ⊥)
      → get_or (put_data upper rest share) j d ≡ get_or share j d
  unfolding put_data
  put_data_unnamed share j d outside = put_elsewhere (data_at rest) (first_address upper rest) (count_in rest) share j d outside

  -- a record whose data is a list of bytes puts that list in its place
  pub put_data_patched : (content share : List ℕ) → count_in rest ≡ length content → ((i : ℕ) → i < length content → data_at rest i ≡ get_or content i 0)
      → first_address upper rest + length content ≤ length share → put_data upper rest share ≡ patched (first_address upper rest) content share
  unfolding put_data
  put_data_patched content share count same room = rw count (put_patched (data_at rest) (first_address upper rest) content share same room)
