-- Spans, over any page: no place is met before the first, each is met once and less than a page later, and the next place is met next. So a byte
-- that runs on covers its own place more and no other, and the byte at the next place runs on again.
use Prim.Native.Nat.{ℕ, ◌+◌, ◌<◌, ◌≤◌}
use native.Mathlib.Decide.{dec_lt, dec_le, ℕ_discrete}
use native.Mathlib.Omega.{arith}
use mathlib.Core.Bool.{Bool, true, false, cond, ◌||◌}
use mathlib.Core.Path.{◌≡◌, ◌∙◌, sym, ap}
use lib.Dec.{eqb, ltb, leb}
use borrow.Author.Tests.{ltb-true, leb-true, eqb-true, lt-ltb, le-ltb, le-leb, lt-leb, eq-eqb, ne_eqb}
use Rattle.base.proofs.logic.Laws.{and_left, and_right, and_both, or_left, or_right, either}
use Rattle.base.proofs.number.Laws.{least_first, least_second, least_most}
use Rattle.regions.specs.Page.{next_in}
use Rattle.load.specs.declared.Span.{Span}
use Rattle.load.specs.Span.{empty_span, is_empty, dropped, grown, met_at, covers, inside_page, runs_on}

-- a number below the next one is below this one or is it
one_more : (m n : ℕ) → ltb m (n + 1) ≡ (ltb m n || eqb m n)
one_more m n = go (dec_lt m n) (ℕ_discrete m n)
  where
    go : Dec (m < n) → Dec (m ≡ n) → ltb m (n + 1) ≡ (ltb m n || eqb m n)
    go (yes p) same = rw (lt-ltb m n p) (lt-ltb m (n + 1) (omega arith))
    go (no p) (yes q) = rw (le-ltb m n (omega arith), eq-eqb m n q) (lt-ltb m (n + 1) (omega arith))
    go (no p) (no q) = rw (le-ltb m n (omega arith), ne_eqb m n q) (le-ltb m (n + 1) (omega arith))

module _ (page : ℕ) (span : Span) where
  pub met_before : (place : ℕ) → place < span.first → met_at page span place ≡ place + page
  met_before place before = rw (lt-ltb _ _ before)

  pub met_from : (place : ℕ) → span.first ≤ place → met_at page span place ≡ place
  met_from place from = rw (le-ltb _ _ from)

  -- what holds on both sides of the first holds where a place is met
  met_either : (P : ℕ → Type 0) (place : ℕ) → (place < span.first → P (place + page)) → (span.first ≤ place → P place) → P (met_at page span place)
  met_either P place before from = go (dec_lt place span.first)
    where
      go : Dec (place < span.first) → P (met_at page span place)
      go (yes p) = rw (met_before place p) (before p)
      go (no p) = rw (met_from place (omega arith)) (from (omega arith))

  -- each place is met less than a page after the first
  pub met_below : (place : ℕ) → place < page → met_at page span place < span.first + page
  met_below place below = met_either (λ (m : ℕ). m < span.first + page) place (λ p. omega arith) (λ p. omega arith)

pub empty_span_inside : (page : ℕ) → 0 < page → inside_page page empty_span ≡ true
empty_span_inside page some = and_both (ltb 0 page) (leb 0 page) (lt-ltb 0 page some) (le-leb 0 page (omega arith))

-- a span that is inside its page
module _ (page : ℕ) (span : Span) (inside : inside_page page span ≡ true) where
  pub first_below : span.first < page
  first_below = ltb-true _ _ (and_left _ _ inside)

  pub count_most : span.count ≤ page
  count_most = leb-true _ _ (and_right (ltb span.first page) _ inside)

  pub dropped_inside : inside_page page (dropped span) ≡ true
  dropped_inside = and_both (ltb span.first page) (leb 0 page) (lt-ltb _ _ first_below) (le-leb 0 page (omega arith))

  pub met_after_first : (place : ℕ) → span.first ≤ met_at page span place
  met_after_first place = met_either page span (λ (m : ℕ). span.first ≤ m) place (λ p. omega (arith, first_below)) (λ p. p)

  -- no two places are met at once
  pub met_same : (one other : ℕ) → one < page → other < page → eqb (met_at page span one) (met_at page span other) ≡ eqb one other
  met_same one other below beside = go (ℕ_discrete one other)
    where
      apart : (one ≡ other → ⊥) → met_at page span one ≡ met_at page span other → ⊥
      apart differ =
          met_either page span (λ (m : ℕ). m ≡ met_at page span other → ⊥) one
          (λ p. met_either page span (λ (m : ℕ). one + page ≡ m → ⊥) other (λ q same. differ (omega (arith, same))) (λ q same. omega (arith, same)))
          (λ p. met_either page span (λ (m : ℕ). one ≡ m → ⊥) other (λ q same. omega (arith, same)) (λ q same. differ same))

      go : Dec (one ≡ other) → eqb (met_at page span one) (met_at page span other) ≡ eqb one other
      go (yes p) = eq-eqb _ _ (ap (met_at page span) p) ∙ sym (eq-eqb one other p)
      go (no p) = ne_eqb _ _ (apart p) ∙ sym (ne_eqb one other p)

  -- the next place, going round the page, is met next, but from the last back to the first
  pub met_next : (place : ℕ) → place < page → met_at page span place + 1 < span.first + page → met_at page span (next_in page place) ≡ met_at page span place + 1
  met_next place below short = go (dec_lt (place + 1) page) (dec_lt place span.first)
    where
      go : Dec (place + 1 < page) → Dec (place < span.first) → met_at page span (next_in page place) ≡ met_at page span place + 1
      go (yes p) (yes q) =
          let met = met_before page span place q in
          rw (lt-ltb _ _ p) (met_before page span (place + 1) (omega (arith, met)) ∙ omega (arith, met))
      go (yes p) (no q) =
          rw (lt-ltb _ _ p) (met_from page span (place + 1) (omega arith) ∙ ap (λ (m : ℕ). m + 1) (sym (met_from page span place (omega arith))))
      go (no p) q =
          let over : page ≤ place + 1 = omega arith in
          let met = met_from page span place (omega (arith, first_below)) in
          rw (le-ltb _ _ over) (met_before page span 0 (omega (arith, met)) ∙ omega (arith, met))

  -- a span of no byte covers no place, a full one each of them, and any other its first
  pub covers_none : span.count ≡ 0 → (place : ℕ) → covers page span place ≡ false
  covers_none none place = le-ltb (met_at page span place) (span.first + span.count) (omega (arith, none, met_after_first place))

  pub covers_all : page ≤ span.count → (place : ℕ) → place < page → covers page span place ≡ true
  covers_all full place below = lt-ltb (met_at page span place) (span.first + span.count) (omega (arith, met_below page span place below))

  pub covers_first : 0 < span.count → covers page span span.first ≡ true
  covers_first some = lt-ltb (met_at page span span.first) (span.first + span.count) (omega (arith, met_from page span span.first (omega arith)))

-- the three ways in which a byte runs on
pub runs_on_ways : (page : ℕ) (span : Span) (place : ℕ) (G : Type 0) → runs_on page span place ≡ true
    → (span.count ≡ 0 → G) → (page ≤ span.count → G) → (0 < span.count → span.count < page → met_at page span place ≡ span.first + span.count → G) → G
runs_on_ways page span place G runs empty full next = go (ℕ_discrete span.count 0) (dec_le page span.count)
  where
    go : Dec (span.count ≡ 0) → Dec (page ≤ span.count) → G
    go (yes p) q = empty p
    go (no p) (yes q) = full q
    go (no p) (no q) =
        let some : 0 < span.count = omega arith in
        let short : span.count < page = omega arith in
        next some short (eqb-true _ _ (rw (ne_eqb span.count 0 p, lt-leb page span.count short) at runs))

module _ (page : ℕ) (span : Span) (place : ℕ) where
  abbrev next : Span
  next = grown page place span

  begins : span.count ≡ 0 → next.first ≡ place
  begins none = rw (eq-eqb span.count 0 none)

  goes_on : 0 < span.count → next.first ≡ span.first
  goes_on some = rw (ne_eqb span.count 0 (λ none. omega (arith, none)))

  counts : span.count < page → next.count ≡ span.count + 1
  counts short = least_first (span.count + 1) page (omega arith)

  counts_no_more : page ≤ span.count → next.count ≡ page
  counts_no_more full = least_second (span.count + 1) page (omega arith)

  -- it stays inside its page
  pub grown_inside : place < page → inside_page page span ≡ true → inside_page page next ≡ true
  grown_inside below inside =
      and_both _ _ (go (ℕ_discrete span.count 0)) (le-leb _ _ (least_most (span.count + 1) page).1)
    where
      go : Dec (span.count ≡ 0) → ltb next.first page ≡ true
      go (yes p) = rw (begins p) (lt-ltb _ _ below)
      go (no p) = rw (goes_on (omega arith)) (and_left _ _ inside)

  module _ (below : place < page) (inside : inside_page page span ≡ true) (runs : runs_on page span place ≡ true) where
    -- its own place and no other is covered more
    pub covers_grown : (other : ℕ) → other < page → covers page next other ≡ (covers page span other || eqb other place)
    covers_grown other beside =
        runs_on_ways page span place (covers page next other ≡ (covers page span other || eqb other place)) runs
        (λ none. rw (covers_none page span inside none other) (alone none))
        (λ full. rw (covers_all page span inside full other beside) (covers_all page next (grown_inside below inside) (omega (arith, counts_no_more full)) other beside))
        (λ some short follows. more some short follows)
      where
        alone : span.count ≡ 0 → covers page next other ≡ eqb other place
        alone none =
            let held = grown_inside below inside in
            let met : met_at page next place ≡ place = met_from page next place (omega (arith, begins none)) in
            ap (ltb (met_at page next other)) (omega (arith, begins none, counts (omega (arith, none)), none))
            ∙ one_more (met_at page next other) place
            ∙ ap (λ (b : Bool). b || eqb (met_at page next other) place) (le-ltb (met_at page next other) place (omega (arith, begins none, met_after_first page next held other)))
            ∙ ap (eqb (met_at page next other)) (sym met)
            ∙ met_same page next held other place beside below

        more : 0 < span.count → span.count < page → met_at page span place ≡ span.first + span.count
            → covers page next other ≡ (covers page span other || eqb other place)
        more some short follows =
            ap (λ (first : ℕ). ltb (cond (ltb other first) (other + page) other) (first + next.count)) (goes_on some)
            ∙ ap (ltb (met_at page span other)) (omega (arith, counts short))
            ∙ one_more (met_at page span other) (span.first + span.count)
            ∙ ap (λ (b : Bool). covers page span other || b)
            (ap (eqb (met_at page span other)) (sym follows) ∙ met_same page span inside other place beside below)

    -- and the byte at the next place runs on
    pub grown_runs_on : runs_on page next (next_in page place) ≡ true
    grown_runs_on = or_right (is_empty next) _ (go (dec_le page next.count))
      where
        follows : next.count < page → met_at page next place + 1 ≡ next.first + next.count → met_at page next (next_in page place) ≡ next.first + next.count
        follows short met = met_next page next (grown_inside below inside) place below (omega (arith, met)) ∙ met

        met : next.count < page → met_at page next place + 1 ≡ next.first + next.count
        met short =
            runs_on_ways page span place (met_at page next place + 1 ≡ next.first + next.count) runs
            (λ none. omega (arith, met_from page next place (omega (arith, begins none)), begins none, counts (omega (arith, none, below)), none))
            (λ full. absurd (omega (arith, counts_no_more full)))
            (λ some not_full after.
            let same : met_at page next place ≡ met_at page span place = ap (λ (first : ℕ). cond (ltb place first) (place + page) place) (goes_on some) in
            omega (arith, same, after, goes_on some, counts not_full))

        go : Dec (page ≤ next.count) → (leb page next.count || eqb (met_at page next (next_in page place)) (next.first + next.count)) ≡ true
        go (yes p) = or_left (leb page next.count) _ (le-leb _ _ p)
        go (no p) = let short : next.count < page = omega arith in or_right (leb page next.count) _ (eq-eqb _ _ (follows short (met short)))

-- a span that has grown is not empty: a page has at least one byte
pub grown_some : (page place : ℕ) (span : Span) → 0 < page → is_empty (grown page place span) ≡ false
grown_some page place span some =
    either (λ (count : ℕ). eqb count 0 ≡ false) (leb (span.count + 1) page) (span.count + 1) page
    (ne_eqb (span.count + 1) 0 (λ is. omega (arith, is)))
    (ne_eqb page 0 (λ is. omega (arith, is)))
