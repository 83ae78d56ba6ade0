-- The best level parts the levels below top, and is the only level that does. Assumes nothing.
use Rattle.std.proofs.Common.{◌≡◌, ℕ, zero, suc, ◌+◌, ◌-◌, ◌<◌, ◌≤◌, true, false, cond, List, [], ◌∷◌, ℤ, pos, negsuc, ◌≤ℤ◌, ◌<ℤ◌, sym, refl, ap, subst, ⊎_elim, arith}
use lib.Signed.{non_neg, ≤ℤ_refl}
use Rattle.std.proofs.lemmas.Int.{ints}
use Rattle.std.proofs.lemmas.Bool.{cases_lt}
use Rattle.fit.specs.Best.{summed_step, first_up, best_level}

-- v parts the levels below top: the summed step of ps is below 0 under it, and 0 or more from it on
pub record Best {P : Type 0} (step : P → ℕ → ℤ) (top : ℕ) (ps : List P) (v : ℕ) : Type 0 where
  pub within : v ≤ top
  pub below : (l : ℕ) → l < v → summed_step step ps l <ℤ pos 0
  pub above : (l : ℕ) → v ≤ l → l < top → pos 0 ≤ℤ summed_step step ps l

-- no step below top is greater than the next
abbrev pub Rises : {P : Type 0} → (P → ℕ → ℤ) → ℕ → Type 0
Rises {P} step top = (p : P) (l : ℕ) → suc l < top → step p l ≤ℤ step p (suc l)

pub rises_below : {P : Type 0} (step : P → ℕ → ℤ) (m n : ℕ) → n ≤ m → Rises step m → Rises step n
rises_below step m n h rises p l k = rises p l (omega arith)

module _ {P : Type 0} (step : P → ℕ → ℤ) (top : ℕ) (rises : Rises step top) where
  summed_next : (ps : List P) (l : ℕ) → suc l < top → summed_step step ps l ≤ℤ summed_step step ps (suc l)
  summed_next [] l h = ≤ℤ_refl _
  summed_next (p ∷ ps) l h = omega (arith, ints, rises p l h, summed_next ps l h)

  pub summed_rises : (ps : List P) (l m : ℕ) → l ≤ m → m < top → summed_step step ps l ≤ℤ summed_step step ps m
  summed_rises ps l zero h t =
      let e : l ≡ 0 = omega arith in
      subst (λ x. summed_step step ps l ≤ℤ summed_step step ps x) e (≤ℤ_refl _)
  summed_rises ps l (suc m) h t =
      ⊎_elim
      (λ k. omega (arith, ints, summed_rises ps l m (omega arith) (omega arith), summed_next ps m t))
      (λ k. let e : l ≡ suc m = omega arith in subst (λ x. summed_step step ps l ≤ℤ summed_step step ps x) e (≤ℤ_refl _))
      (cases_lt l (suc m))

-- v is where s stops being below 0, looked for from l over n levels
pub record Found (s : ℕ → ℤ) (l n v : ℕ) : Type 0 where
  pub from : l ≤ v
  pub to : v ≤ l + n
  pub below : (m : ℕ) → l ≤ m → m < v → s m <ℤ pos 0
  pub here : v < l + n → pos 0 ≤ℤ s v

by_sign : (z : ℤ) {X : Type 0} → (non_neg z ≡ true → pos 0 ≤ℤ z → X) → (non_neg z ≡ false → z <ℤ pos 0 → X) → X
by_sign (pos n) yes' no' = yes' refl (omega (arith, ints))
by_sign (negsuc n) yes' no' = no' refl (omega (arith, ints))

pub found : (s : ℕ → ℤ) (l n : ℕ) → Found s l n (first_up s l n)
unfolding first_up
found s l zero = record { from = omega arith; to = omega arith; below = λ m h k. absurd (omega arith); here = λ h. absurd (omega arith) }
found s l (suc n) =
    by_sign (s l)
    (λ e h.
    subst (λ b. Found s l (suc n) (cond b l (first_up s (suc l) n))) (sym e)
    (record { from = omega arith; to = omega arith; below = λ m j k. absurd (omega arith); here = λ _. h }))
    (λ e h.
    let rest = found s (suc l) n in
    subst (λ b. Found s l (suc n) (cond b l (first_up s (suc l) n))) (sym e)
    (record {
      from = omega arith;
      to = omega arith;
      below = λ m j k. ⊎_elim (λ lt. rest.below m lt k) (λ le. let e : l ≡ m = omega arith in subst (λ x. s x <ℤ pos 0) e h) (cases_lt l m);
      here = λ lt. rest.here (omega arith);
    }))

found_only : (s : ℕ → ℤ) (l n v : ℕ) → Found s l n v → v ≡ first_up s l n
found_only s l n v b =
    let w = first_up s l n in
    let c = found s l n in
    ⊎_elim
    (λ lt. absurd (omega (arith, ints, c.below v b.from lt, b.here (omega (arith, c.to)))))
    (λ le.
    ⊎_elim
    (λ lt. absurd (omega (arith, ints, b.below w c.from lt, c.here (omega (arith, b.to)))))
    (λ ge. omega arith)
    (cases_lt w v))
    (cases_lt v w)

pub first_up_none : (s : ℕ → ℤ) (l n : ℕ) → n ≡ 0 → first_up s l n ≡ l
unfolding first_up
first_up_none s l n e = ap (first_up s l) e

-- a search may leave out what lies above a level that is 0 or more
pub first_up_down : (s : ℕ → ℤ) (from to m : ℕ) → from ≤ m → m < to → pos 0 ≤ℤ s m → first_up s from (m - from) ≡ first_up s from (to - from)
first_up_down s from to m h k up =
    let v = first_up s from (m - from) in
    let f = found s from (m - from) in
    found_only s from (to - from) v (record {
      from = f.from;
      to = omega (arith, f.to);
      below = f.below;
      here = λ _.
          ⊎_elim
          (λ (lt : v < m). f.here (omega arith))
          (λ (ge : m ≤ v). let same : m ≡ v = omega (arith, f.to) in subst (λ x. pos 0 ≤ℤ s x) same up)
          (cases_lt v m);
    })

module _ {P : Type 0} (step : P → ℕ → ℤ) (top : ℕ) (rises : Rises step top) where
  pub best_is : (ps : List P) → Best step top ps (best_level step top ps)
  unfolding best_level
  best_is ps =
      let f = found (summed_step step ps) 0 top in
      record {
        within = omega (arith, f.to);
        below = λ l h. f.below l (omega arith) h;
        above = λ l h t. omega (arith, ints, f.here (omega arith), summed_rises step top rises ps (first_up (summed_step step ps) 0 top) l h t);
      }

  -- and the levels up to one that is below 0
  pub first_up_up : (ps : List P) (from to m : ℕ) → to ≤ top → from ≤ m → m < to → summed_step step ps m <ℤ pos 0 → first_up (summed_step step ps) (m + 1) (to - (m + 1)) ≡ first_up (summed_step step ps) from (to - from)
  first_up_up ps from to m t h k neg =
      let s = summed_step step ps in
      let f = found s (m + 1) (to - (m + 1)) in
      found_only s from (to - from) (first_up s (m + 1) (to - (m + 1))) (record {
        from = omega (arith, f.from);
        to = omega (arith, f.to);
        below = λ l a b.
            ⊎_elim
            (λ (lt : m < l). f.below l (omega arith) b)
            (λ (le : l ≤ m). omega (arith, ints, neg, summed_rises step top rises ps l m le (omega arith)))
            (cases_lt m l);
        here = λ lt. f.here (omega (arith, f.to));
      })

  pub best_only : (ps : List P) (v : ℕ) → Best step top ps v → v ≡ best_level step top ps
  unfolding best_level
  best_only ps v b =
      found_only (summed_step step ps) 0 top v (record {
        from = omega arith;
        to = omega (arith, b.within);
        below = λ l h. b.below l;
        here = λ lt. b.above v (omega arith) (omega arith);
      })
