-- Levels that cut the points at every level below top are the cheapest, and the least of the cheapest. The lists are
-- compared cut off at a height that rises from 0 to top: from m to m + 1 a list gains the steps at m of its points above
-- m, which in a never-falling list are a back of the points. Assumes nothing.
use Rattle.std.proofs.Common.{◌≡◌, ℕ, zero, suc, ◌<◌, ◌≤◌, min, cond, ltb, ◌⊎◌, List, [], ◌∷◌, ◌++◌, map, length, ℤ, pos, ◌+ℤ◌, ◌≤ℤ◌, ◌<ℤ◌, sym, refl, ap, ◌∙◌, subst, inl, inr, ⊎_elim, arith, length-append}
use Rattle.std.specs.List.{AllZip, AllByRecursion}
use Rattle.std.proofs.lemmas.Int.{ints}
use Rattle.std.proofs.lemmas.Bool.{cases_lt, lt-ltb, le-ltb, cond-true, cond-false}
use Rattle.fit.specs.Best.{total}
use Rattle.fit.specs.Cheapest.{cost_of, NeverFalls, Table, LeastCheapest}
use Rattle.fit.specs.Pooling.{Fronts, Backs}
use Rattle.fit.proofs.Cuts.{Cut}
use Rattle.fit.proofs.Signs.{total_append}

-- the sum of f over the points whose level is above m
abbrev gain : {P : Type 0} → (P → ℤ) → ℕ → List P → List ℕ → ℤ
gain f m [] ls = pos 0
gain f m (p ∷ ps) [] = pos 0
gain f m (p ∷ ps) (l ∷ ls) = cond (ltb m l) (f p) (pos 0) +ℤ gain f m ps ls

rising_rest : (l : ℕ) (ls : List ℕ) → NeverFalls (l ∷ ls) → NeverFalls ls
rising_rest l [] r = tt
rising_rest l (m ∷ ls) r = r.1

rising_over : (m l : ℕ) (ls : List ℕ) → m < l → NeverFalls (l ∷ ls) → AllByRecursion (λ x. m < x) (l ∷ ls)
rising_over m l [] h r = (h, tt)
rising_over m l (x ∷ ls) h r = (h, rising_over m x ls (omega (arith, r.0)) r.1)

each_over : (m : ℕ) (ls ms : List ℕ) → length ms ≡ length ls → AllByRecursion (λ x. m < x) ms → AllZip (λ x y. m < x → m < y) ls ms
each_over m [] [] e o = tt
each_over m [] (y ∷ ms) e o = absurd (omega arith)
each_over m (x ∷ ls) [] e o = absurd (omega arith)
each_over m (x ∷ ls) (y ∷ ms) e o = (λ _. o.0, each_over m ls ms (omega arith) o.1)

module _ {P : Type 0} (f : P → ℤ) (m : ℕ) where
  gain_over : (p : P) (ps : List P) (l : ℕ) (ls : List ℕ) → m < l → gain f m (p ∷ ps) (l ∷ ls) ≡ f p +ℤ gain f m ps ls
  gain_over p ps l ls h = ap (λ x. x +ℤ gain f m ps ls) (cond-true (ltb m l) (f p) (pos 0) (lt-ltb m l h))

  gain_under : (p : P) (ps : List P) (l : ℕ) (ls : List ℕ) → l ≤ m → gain f m (p ∷ ps) (l ∷ ls) ≡ pos 0 +ℤ gain f m ps ls
  gain_under p ps l ls h = ap (λ x. x +ℤ gain f m ps ls) (cond-false (ltb m l) (f p) (pos 0) (le-ltb m l h))

  gain_all : (ps : List P) (ls : List ℕ) → length ls ≡ length ps → AllByRecursion (λ l. m < l) ls → gain f m ps ls ≡ total f ps
  gain_all [] ls e o = refl
  gain_all (p ∷ ps) [] e o = absurd (omega arith)
  gain_all (p ∷ ps) (l ∷ ls) e o = gain_over p ps l ls o.0 ∙ ap (λ x. f p +ℤ x) (gain_all ps ls (omega arith) o.1)

  -- the gain of the list whose cut is at the end of low
  gain_cut : (low high : List P) (lows highs : List ℕ) → length lows ≡ length low → length highs ≡ length high → AllByRecursion (λ l. l ≤ m) lows → AllByRecursion (λ l. m < l) highs → gain f m (low ++ high) (lows ++ highs) ≡ total f high
  gain_cut [] high [] highs d e u o = gain_all high highs e o
  gain_cut [] high (l ∷ lows) highs d e u o = absurd (omega arith)
  gain_cut (p ∷ low) high [] highs d e u o = absurd (omega arith)
  gain_cut (p ∷ low) high (l ∷ lows) highs d e u o =
      omega (arith, ints, gain_under p (low ++ high) l (lows ++ highs) u.0, gain_cut low high lows highs (omega arith) e u.1 o)

  -- to leave out a front that is below 0 costs more
  high_gain : (a : ℤ) (ps : List P) (ls : List ℕ) → length ls ≡ length ps → NeverFalls ls → Fronts f a ps → AllByRecursion (λ l. m < l) ls ⊎ ((a +ℤ total f ps) <ℤ gain f m ps ls)
  high_gain a [] [] e r w = inl tt
  high_gain a [] (l ∷ ls) e r w = absurd (omega arith)
  high_gain a (p ∷ ps) [] e r w = absurd (omega arith)
  high_gain a (p ∷ ps) (l ∷ ls) e r w =
      ⊎_elim
      (λ (lt : m < l). inl (rising_over m l ls lt r))
      (λ (ge : l ≤ m).
      let none = gain_under p ps l ls ge in
      ⊎_elim
      (λ o. inr (omega (arith, ints, none, gain_all ps ls (omega arith) o, w.0)))
      (λ more. inr (omega (arith, ints, none, more)))
      (high_gain (a +ℤ f p) ps ls (omega arith) (rising_rest l ls r) w.1))
      (cases_lt m l)

  -- a never-falling list gains at least as much, and as little only where it is above m wherever the cut list is
  beats : (low high : List P) (lows highs ms : List ℕ) → length lows ≡ length low → length highs ≡ length high → length ms ≡ length (low ++ high) → NeverFalls ms → AllByRecursion (λ l. l ≤ m) lows → Backs f low (pos 0) → Fronts f (pos 0) high → (total f high ≤ℤ gain f m (low ++ high) ms) × (gain f m (low ++ high) ms ≤ℤ total f high → AllZip (λ x y. m < x → m < y) (lows ++ highs) ms)
  beats [] high [] highs ms d e g r u b w =
      ⊎_elim
      (λ o. (omega (arith, ints, gain_all high ms g o), λ _. each_over m highs ms (omega arith) o))
      (λ (more : (pos 0 +ℤ total f high) <ℤ gain f m high ms). (omega (arith, ints), λ le. absurd (omega (arith, ints))))
      (high_gain (pos 0) high ms g r w)
  beats [] high (l ∷ lows) highs ms d e g r u b w = absurd (omega arith)
  beats (p ∷ low) high [] highs ms d e g r u b w = absurd (omega arith)
  beats (p ∷ low) high (l ∷ lows) highs [] d e g r u b w = absurd (omega arith)
  beats (p ∷ low) high (l ∷ lows) highs (x ∷ ms) d e g r u b w =
      ⊎_elim
      (λ (lt : m < x).
      let o = rising_over m x ms lt r in
      let whole = gain_all (p ∷ (low ++ high)) (x ∷ ms) g o in
      (omega (arith, ints, whole, total_append f low high, b.0), λ _. each_over m (l ∷ (lows ++ highs)) (x ∷ ms) (omega (arith, length-append lows highs, length-append low high)) o))
      (λ (ge : x ≤ m).
      let rest = beats low high lows highs ms (omega arith) e (omega arith) (rising_rest x ms r) u.1 b.1 w in
      let none = gain_under p (low ++ high) x ms ge in
      (omega (arith, ints, none, rest.0), λ le. (λ h. absurd (omega (arith, u.0)), rest.1 (omega (arith, ints, none)))))
      (cases_lt m x)

  cut_beats : (ps : List P) (ls ms : List ℕ) → Cut f m ps ls → length ms ≡ length ps → NeverFalls ms → (gain f m ps ls ≤ℤ gain f m ps ms) × (gain f m ps ms ≤ℤ gain f m ps ls → AllZip (λ x y. m < x → m < y) ls ms)
  cut_beats ps ls ms c e r =
      let all = beats c.low c.high c.lows c.highs ms c.low_even c.high_even (e ∙ ap length c.points) r c.under c.backs c.fronts in
      let own = gain_cut c.low c.high c.lows c.highs c.low_even c.high_even c.under c.over in
      let mine : gain f m ps ls ≡ total f c.high = (λ i. gain f m (c.points i) (c.levels i)) ∙ own in
      let theirs = ap (λ x. gain f m x ms) c.points in
      (omega (arith, ints, mine, theirs, all.0), λ le. subst (λ x. AllZip (λ x y. m < x → m < y) x ms) (sym c.levels) (all.1 (omega (arith, ints, mine, theirs))))

-- the levels cut off at m
abbrev capped : ℕ → List ℕ → List ℕ
capped m ls = map (λ l. min l m) ls

capped_none : (ls : List ℕ) (m : ℕ) → AllByRecursion (λ l. l ≤ m) ls → capped m ls ≡ ls
capped_none [] m h = refl
capped_none (l ∷ ls) m h = let e : min l m ≡ l = omega (arith, h.0) in (λ i. e i ∷ capped_none ls m h.1 i)

module _ {P : Type 0} (cost step : P → ℕ → ℤ) (top : ℕ) (steps : (p : P) (l : ℕ) → l < top → cost p (suc l) ≡ cost p l +ℤ step p l) where
  capped_more : (m : ℕ) → m < top → (ps : List P) (ls : List ℕ) → cost_of cost ps (capped (suc m) ls) ≡ cost_of cost ps (capped m ls) +ℤ gain (λ p. step p m) m ps ls
  capped_more m t [] ls = refl
  capped_more m t (p ∷ ps) [] = refl
  capped_more m t (p ∷ ps) (l ∷ ls) =
      ⊎_elim
      (λ (lt : m < l).
      omega (arith, ints, gain_over (λ p. step p m) m p ps l ls lt, capped_more m t ps ls, steps p m t, ap (cost p) {x = min l (suc m)} {y = suc m} (omega arith), ap (cost p) {x = min l m} {y = m} (omega arith)))
      (λ (ge : l ≤ m).
      omega (arith, ints, gain_under (λ p. step p m) m p ps l ls ge, capped_more m t ps ls, ap (cost p) {x = min l (suc m)} {y = min l m} (omega arith)))
      (cases_lt m l)

  capped_zero : (ps : List P) (ls ms : List ℕ) → length ls ≡ length ms → cost_of cost ps (capped 0 ls) ≡ cost_of cost ps (capped 0 ms)
  capped_zero [] ls ms e = refl
  capped_zero (p ∷ ps) [] [] e = refl
  capped_zero (p ∷ ps) [] (x ∷ ms) e = absurd (omega arith)
  capped_zero (p ∷ ps) (l ∷ ls) [] e = absurd (omega arith)
  capped_zero (p ∷ ps) (l ∷ ls) (x ∷ ms) e =
      omega (arith, ints, capped_zero ps ls ms (omega arith), ap (cost p) {x = min l 0} {y = min x 0} (omega arith))

  each_zero : (ls ms : List ℕ) → length ls ≡ length ms → AllZip (λ x y. min x 0 ≤ min y 0) ls ms
  each_zero [] [] e = tt
  each_zero [] (y ∷ ms) e = absurd (omega arith)
  each_zero (x ∷ ls) [] e = absurd (omega arith)
  each_zero (x ∷ ls) (y ∷ ms) e = (omega arith, each_zero ls ms (omega arith))

  each_more : (m : ℕ) (ls ms : List ℕ) → AllZip (λ x y. min x m ≤ min y m) ls ms → AllZip (λ x y. m < x → m < y) ls ms → AllZip (λ x y. min x (suc m) ≤ min y (suc m)) ls ms
  each_more m [] [] a b = tt
  each_more m [] (y ∷ ms) a b = a
  each_more m (x ∷ ls) [] a b = a
  each_more m (x ∷ ls) (y ∷ ms) a b = (
    ⊎_elim (λ (lt : m < x). omega (arith, b.0 lt)) (λ (ge : x ≤ m). omega (arith, a.0)) (cases_lt m x),
    each_more m ls ms a.1 b.1,
  )

  each_all : (ls ms : List ℕ) → AllByRecursion (λ l. l ≤ top) ls → AllZip (λ x y. min x top ≤ min y top) ls ms → AllZip (λ x y. x ≤ y) ls ms
  each_all [] [] w a = tt
  each_all [] (y ∷ ms) w a = a
  each_all (x ∷ ls) [] w a = a
  each_all (x ∷ ls) (y ∷ ms) w a = (omega (arith, w.0, a.0), each_all ls ms w.1 a.1)

  module _ (ps : List P) (ls ms : List ℕ) (cut : (m : ℕ) → m < top → Cut (λ p. step p m) m ps ls) (mine : Table top ps ls) (theirs : Table top ps ms) where
    up_to : (m : ℕ) → m ≤ top → (cost_of cost ps (capped m ls) ≤ℤ cost_of cost ps (capped m ms)) × (cost_of cost ps (capped m ms) ≤ℤ cost_of cost ps (capped m ls) → AllZip (λ x y. min x m ≤ min y m) ls ms)
    up_to zero t =
        let even : length ls ≡ length ms = mine.one_each ∙ sym theirs.one_each in
        (omega (arith, ints, capped_zero ps ls ms even), λ _. each_zero ls ms even)
    up_to (suc m) t =
        let before = up_to m (omega arith) in
        let more = cut_beats (λ p. step p m) m ps ls ms (cut m t) theirs.one_each theirs.rising in
        let l = capped_more m t ps ls in
        let r = capped_more m t ps ms in (
          omega (arith, ints, before.0, more.0, l, r),
          λ le.
              each_more m ls ms (before.1 (omega (arith, ints, more.0, l, r))) (more.1 (omega (arith, ints, before.0, l, r))),
        )

    at_top : (cost_of cost ps ls ≤ℤ cost_of cost ps ms) × (cost_of cost ps ms ≤ℤ cost_of cost ps ls → AllZip (λ x y. x ≤ y) ls ms)
    at_top =
        let all = up_to top (omega arith) in
        let l = ap (cost_of cost ps) (capped_none ls top mine.within) in
        let r = ap (cost_of cost ps) (capped_none ms top theirs.within) in
        (omega (arith, ints, all.0, l, r), λ le. each_all ls ms mine.within (all.1 (omega (arith, ints, l, r))))

  pub least_cheapest : (ps : List P) (ls : List ℕ) → ((m : ℕ) → m < top → Cut (λ p. step p m) m ps ls) → Table top ps ls → LeastCheapest cost top ps ls
  least_cheapest ps ls cut mine = record {
    table = mine;
    cheapest = λ ms theirs. (at_top ps ls ms cut mine theirs).0;
    least = λ ms theirs e. (at_top ps ls ms cut mine theirs).1 (omega (arith, ints));
  }
