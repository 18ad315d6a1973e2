-- What is checked of a record, in the request's order: 20, 21, 22, 23 (request E1).
use Rattle.std.specs.Prelude.{ℕ, ◌+◌, Bool, not, ◌&&◌, ◌||◌, List, [], ◌∷◌, eqb, ltb}
use Rattle.refusal.specs.declared.Refusal.{Refusal}
use Rattle.refusal.specs.declared.Refusal.TheVariants.{BadRecord, WrongSum, UnknownType, PastArray}
use Rattle.hexline.specs.Fields.{data_kind, end_kind, upper_kind, count_in, kind_in, sum_in, is_framed, first_address}

-- a length that is bad for its type: an end record has no data, a record of type 04 has two bytes
abbrev pub bad_length : List ℕ → Bool
bad_length rest =
    (eqb (kind_in rest) end_kind && not (eqb (count_in rest) 0)) || (eqb (kind_in rest) upper_kind && not (eqb (count_in rest) 2))

-- bad digit or length
abbrev pub bad_record : List ℕ → Bool
bad_record rest = not (is_framed rest) || bad_length rest

-- the check byte makes the sum of all bytes 0
abbrev pub wrong_sum : List ℕ → Bool
wrong_sum rest = not (eqb (sum_in rest) 0)

abbrev pub unknown_type : List ℕ → Bool
unknown_type rest = not (eqb (kind_in rest) data_kind || (eqb (kind_in rest) end_kind || eqb (kind_in rest) upper_kind))

-- a data byte lies past the array; a record without data names no address
abbrev pub past_array : ℕ → ℕ → List ℕ → Bool
past_array size upper rest =
    eqb (kind_in rest) data_kind && (ltb 0 (count_in rest) && ltb size (first_address upper rest + count_in rest))

-- of an array of this size, where the upper 16 address bits are these
abbrev pub record_checks : ℕ → ℕ → List ℕ → List (Bool × Refusal)
record_checks size upper rest =
    (bad_record rest, BadRecord)
    ∷ (wrong_sum rest, WrongSum)
    ∷ (unknown_type rest, UnknownType)
    ∷ (past_array size upper rest, PastArray)
    ∷ []
