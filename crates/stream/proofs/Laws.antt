-- Writes, one behind the other, append a text from its start.
use Rattle.std.proofs.Common.{◌≡◌, ℕ, ◌+◌, ◌-◌, List, ◌++◌, Option, None, Some, Result, Ok, Err, length, take, drop, arith, sym, ap, ◌∙◌, subst, append_assoc, append-nil}
use Rattle.std.proofs.Math.Seq.{take-add}
use Rattle.std.proofs.lemmas.List.{take_min, take_rest}
use Rattle.std.specs.Io.KnownBytes.{Appends, Keeps, WriteAppends}
use Rattle.stream.specs.Came.{Counts}

appended : (a b c : Option (List ℕ)) (xs ys : List ℕ) → Appends a b xs → Appends b c ys → Appends a c (xs ++ ys)
appended None b c xs ys p q = tt
appended (Some x) None c xs ys p q = absurd p
appended (Some x) (Some y) None xs ys p q = absurd q
appended (Some x) (Some y) (Some z) xs ys p q = q ∙ ap (λ l. l ++ ys) p ∙ append_assoc x xs ys

kept : (a b c : Option (List ℕ)) (xs : List ℕ) → Appends a b xs → Keeps b c → Appends a c xs
kept None b c xs p q = tt
kept (Some x) None c xs p q = absurd p
kept (Some x) (Some y) None xs p q = absurd q
kept (Some x) (Some y) (Some z) xs p q = q ∙ p

-- Nothing is appended so far.
pub none_yet : (a : Option (List ℕ)) (text : List ℕ) → Appends a a (take 0 text)
none_yet None text = tt
none_yet (Some x) text = sym (append-nil x)

one_more_of_rest : {E : Type 0} (a b c : Option (List ℕ)) (done : ℕ) (text : List ℕ) (answer : Result ℕ E) (size : ℕ) → Appends a b (take done text) → WriteAppends b c answer (drop done text) → Counts answer (length (drop done text)) size → Appends a c (take (done + size) text)
one_more_of_rest a b c done text (Ok n) size p q e =
    let more = appended a b c (take done text) (take n (drop done text)) p q in
    let same : take (done + size) text ≡ take done text ++ take n (drop done text) =
    take-add done size text ∙ ap (λ l. take done text ++ l) (ap (λ k. take k (drop done text)) e ∙ take_min n (drop done text)) in
    subst (Appends a c) (sym same) more
one_more_of_rest a b c done text (Err x) size p q e =
    let same : done ≡ done + size = omega (arith, e) in
    subst (λ k. Appends a c (take k text)) same (kept a b c (take done text) p q)

-- One write more, of all that is left.
pub one_more : {E : Type 0} (a b c : Option (List ℕ)) (done : ℕ) (text : List ℕ) (answer : Result ℕ E) (size : ℕ) → Appends a b (take done text) → WriteAppends b c answer (take (length text - done) (drop done text)) → Counts answer (length (take (length text - done) (drop done text))) size → Appends a c (take (done + size) text)
one_more a b c done text answer size p q e =
    let left = take_rest text done in
    one_more_of_rest a b c done text answer size p (subst (WriteAppends b c answer) left q) (subst (λ l. Counts answer (length l) size) left e)
