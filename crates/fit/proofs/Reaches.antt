-- Levels that cut the points at every level below top are the max-min values. Assumes nothing.
use Rattle.std.proofs.Common.{◌≡◌, ℕ, zero, suc, ◌+◌, ◌-◌, ◌<◌, ◌≤◌, List, ◌++◌, length, get_or, take, drop, ℤ, pos, refl, ap, ◌∙◌, subst, ⊎_elim, arith, length-append}
use Rattle.std.specs.List.{AllByRecursion}
use Rattle.std.proofs.lemmas.List.FromFn.{fill_by_all}
use Rattle.std.proofs.ByRecursion.{All-get_or}
use Rattle.std.proofs.lemmas.List.{length-drop, get_or_append_left, get_or-append_right, take_at, drop_at, drop-append-le}
use Rattle.std.proofs.lemmas.Int.{ints}
use Rattle.std.proofs.lemmas.Bool.{cases_lt}
use Rattle.fit.specs.Best.{total, best_level}
use Rattle.fit.specs.MaxMin.{part, least, greatest, max_min, fitted}
use Rattle.fit.proofs.Bests.{Rises, best_is}
use Rattle.fit.proofs.Cuts.{Cut}
use Rattle.fit.proofs.Signs.{fronts_take, backs_drop}

greatest_over : (g : ℕ → ℕ) (n j c : ℕ) → j ≤ n → c ≤ g j → c ≤ greatest g n
unfolding greatest
greatest_over g zero j c h k = let e : j ≡ 0 = omega arith in subst (λ x. c ≤ g x) e k
greatest_over g (suc n) j c h k =
    ⊎_elim
    (λ lt. omega (arith, greatest_over g n j c (omega arith) k))
    (λ ge. let e : j ≡ suc n = omega arith in omega (arith, subst (λ x. c ≤ g x) e k))
    (cases_lt j (suc n))

greatest_under : (g : ℕ → ℕ) (n c : ℕ) → ((j : ℕ) → j ≤ n → g j ≤ c) → greatest g n ≤ c
unfolding greatest
greatest_under g zero c h = h 0 (omega arith)
greatest_under g (suc n) c h = omega (arith, greatest_under g n c (λ j k. h j (omega arith)), h (suc n) (omega arith))

least_under : (g : ℕ → ℕ) (i n k c : ℕ) → i ≤ k → k ≤ i + n → g k ≤ c → least g i n ≤ c
unfolding least
least_under g i zero k c h t le = let e : k ≡ i = omega arith in subst (λ x. g x ≤ c) e le
least_under g i (suc n) k c h t le =
    ⊎_elim
    (λ lt. omega (arith, least_under g (suc i) n k c lt (omega arith) le))
    (λ ge. let e : k ≡ i = omega arith in omega (arith, subst (λ x. g x ≤ c) e le))
    (cases_lt i k)

least_over : (g : ℕ → ℕ) (i n c : ℕ) → ((k : ℕ) → i ≤ k → k ≤ i + n → c ≤ g k) → c ≤ least g i n
unfolding least
least_over g i zero c h = h i (omega arith) (omega arith)
least_over g i (suc n) c h = omega (arith, least_over g (suc i) n c (λ k a b. h k (omega arith) (omega arith)), h i (omega arith) (omega arith))

module _ {P : Type 0} (low high : List P) where
  -- the points from the cut on, up to k
  part_high : (k : ℕ) → part (low ++ high) (length low) k ≡ take (suc k - length low) high
  unfolding part
  part_high k = ap (take (suc k - length low)) (drop_at low high (length low) refl)

  -- the points from j up to the cut
  part_low : (j k : ℕ) → j ≤ length low → suc k ≡ length low → part (low ++ high) j k ≡ drop j low
  unfolding part
  part_low j k h e =
      ap (take (suc k - j)) (drop-append-le j low high h) ∙ take_at (drop j low) high (suc k - j) (length-drop j low ∙ omega arith)

module _ {P : Type 0} (step : P → ℕ → ℤ) (top : ℕ) (rises : Rises step top) (ps : List P) (ls : List ℕ) (within : AllByRecursion (λ l. l ≤ top) ls) (even : length ls ≡ length ps) (cut : (m : ℕ) → m < top → Cut (λ p. step p m) m ps ls) (i : ℕ) (at : i < length ps) where
  over : (l : ℕ) → l < get_or ls i 0 → l < top → suc l ≤ max_min step top ps i
  unfolding max_min
  over l h t =
      let c = cut l t in
      let f : P → ℤ = λ p. step p l in
      let n = length c.low in
      let long = ap length c.points ∙ length-append c.low c.high in
      let inside : n ≤ i =
      ⊎_elim
      (λ (lt : i < n).
      absurd (omega (arith, All-get_or (λ x. x ≤ l) c.lows i 0 (omega (arith, c.low_even)) c.under, ap (λ x. get_or x i 0) c.levels, get_or_append_left c.lows c.highs 0 i (omega (arith, c.low_even)))))
      (λ ge. ge)
      (cases_lt i n) in
      let neg : (k : ℕ) → i ≤ k → k ≤ i + (length ps - suc i) → suc l ≤ best_level step top (part ps n k) =
      λ k a b.
      let is : part ps n k ≡ take (suc k - n) c.high = ap (λ x. part x n k) c.points ∙ part_high c.low c.high k in
      let less = fronts_take f (pos 0) (suc k - n) c.high (omega arith) (omega (arith, long)) c.fronts in
      ⊎_elim
      (λ lt. lt)
      (λ ge. absurd (omega (arith, ints, less, ap (total f) is, (best_is step top rises (part ps n k)).above l ge t)))
      (cases_lt l (best_level step top (part ps n k))) in
      greatest_over (λ j. least (λ k. best_level step top (part ps j k)) i (length ps - suc i)) i n (suc l) inside
      (least_over (λ k. best_level step top (part ps n k)) i (length ps - suc i) (suc l) neg)

  under : (l : ℕ) → get_or ls i 0 ≤ l → l < top → max_min step top ps i ≤ l
  unfolding max_min
  under l h t =
      let c = cut l t in
      let f : P → ℤ = λ p. step p l in
      let n = length c.low in
      let long = ap length c.points ∙ length-append c.low c.high in
      let inside : i < n =
      ⊎_elim
      (λ lt. lt)
      (λ (ge : n ≤ i).
      absurd (omega (arith, All-get_or (λ x. l < x) c.highs (i - n) 0 (omega (arith, c.high_even, long)) c.over, ap (λ x. get_or x i 0) c.levels, get_or-append_right c.lows c.highs n i 0 c.low_even ge)))
      (cases_lt i n) in
      let up : (j : ℕ) → j ≤ i → least (λ k. best_level step top (part ps j k)) i (length ps - suc i) ≤ l =
      λ j a.
      let k : ℕ = n - 1 in
      let is : part ps j k ≡ drop j c.low = ap (λ x. part x j k) c.points ∙ part_low c.low c.high j k (omega arith) (omega arith) in
      let more = backs_drop f (pos 0) j c.low (omega arith) c.backs in
      least_under (λ k. best_level step top (part ps j k)) i (length ps - suc i) k l (omega arith) (omega (arith, long))
      (⊎_elim
      (λ lt. absurd (omega (arith, ints, more, ap (total f) is, (best_is step top rises (part ps j k)).below l lt)))
      (λ ge. ge)
      (cases_lt l (best_level step top (part ps j k)))) in
      greatest_under (λ j. least (λ k. best_level step top (part ps j k)) i (length ps - suc i)) i l up

  most : max_min step top ps i ≤ top
  unfolding max_min
  most =
      greatest_under (λ j. least (λ k. best_level step top (part ps j k)) i (length ps - suc i)) i top
      (λ j a. least_under (λ k. best_level step top (part ps j k)) i (length ps - suc i) i top (omega arith) (omega arith) (best_is step top rises (part ps j i)).within)

  pub reaches : get_or ls i 0 ≡ max_min step top ps i
  reaches =
      let v = get_or ls i 0 in
      let fits : v ≤ top = All-get_or (λ l. l ≤ top) ls i 0 (omega arith) within in
      let at_least : v ≤ max_min step top ps i =
      ⊎_elim (λ (some : 0 < v). omega (arith, over (v - 1) (omega arith) (omega arith))) (λ none. omega arith) (cases_lt 0 v) in
      let at_most : max_min step top ps i ≤ v = ⊎_elim (λ (lt : v < top). under v (omega arith) lt) (λ ge. omega (arith, most)) (cases_lt v top) in
      omega arith

-- a stack's levels are the fitted ones
pub reaches_all : {P : Type 0} (step : P → ℕ → ℤ) (top : ℕ) → Rises step top → (ps : List P) (ls : List ℕ) → AllByRecursion (λ l. l ≤ top) ls → length ls ≡ length ps → ((m : ℕ) → m < top → Cut (λ p. step p m) m ps ls) → ls ≡ fitted step top ps
unfolding fitted
reaches_all step top rises ps ls within even cut =
    fill_by_all (max_min step top ps) ls (length ps) 0 even (λ k h. reaches step top rises ps ls within even cut k h)
