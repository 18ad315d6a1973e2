-- The rest of a text on a tape, which is moved to the tape's start.
use Prim.Native.Nat.{ℕ, ◌+◌, ◌-◌, ◌≤◌, min}
use native.Mathlib.Decide.{dec_le}
use native.Mathlib.Omega.{arith}
use native.Mathlib.Nat.{zero-add, min-eq_left, min-eq_right}
use mathlib.Core.List.{List, ◌++◌}
use mathlib.Core.Path.{◌≡◌, ◌∙◌, sym, ap}
use lib.ListN.{length, take, drop, length-drop, drop_of_length-le}
use Rattle.std.proofs.lemmas.List.{drop-take, length-take, take_min}
use Rattle.std.specs.List.{copy_within}
use Rattle.conversation.specs.Tape.{text_on, rest_of, keep_rest}

drop_cut : (n : ℕ) (xs : List ℕ) → drop (min n (length xs)) xs ≡ drop n xs
drop_cut n xs = go (dec_le n (length xs))
  where
    go : Dec (n ≤ length xs) → drop (min n (length xs)) xs ≡ drop n xs
    go (yes p) = ap (λ (k : ℕ). drop k xs) (min-eq_left p)
    go (no p) =
        let all : length xs ≤ min n (length xs) = omega (arith, min-eq_right {n = length xs} {m = n} (omega arith)) in
        drop_of_length-le xs all ∙ sym (drop_of_length-le xs {i = n} (omega arith))

-- the rest of a text, cut where the text ends
module _ (tape : List ℕ) (filled used : ℕ) where
  abbrev end : ℕ
  end = length (text_on tape filled)

  abbrev from : ℕ
  from = min used end

  abbrev rest : List ℕ
  rest = rest_of tape filled used

  pub length_rest : length rest ≡ end - from
  length_rest = length-drop used (text_on tape filled) ∙ omega arith

  cut : take (end - from) (drop from tape) ≡ rest
  cut =
      let within : from + (end - from) ≡ end = omega arith in
      sym (drop-take from (end - from) tape)
      ∙ ap (λ (n : ℕ). drop from (take n tape)) (within ∙ length-take filled tape)
      ∙ ap (drop from) (take_min filled tape)
      ∙ drop_cut used (text_on tape filled)

  -- how much it is, and the tape
  pub moved : (end - from, copy_within tape from end 0) ≡ keep_rest tape filled used
  moved =
      ap (λ (xs : List ℕ). (end - from, xs ++ drop (0 + (end - from)) tape)) cut
      ∙ ap (λ (n : ℕ). (end - from, rest ++ drop n tape)) (zero-add (end - from))
      ∙ ap (λ (n : ℕ). (n, rest ++ drop n tape)) (sym length_rest)
