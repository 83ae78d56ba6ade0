-- One point at its best level is pooled, and so are two neighbouring pooled runs at the best level of both where the
-- second was the lower. Assumes nothing.
use Rattle.std.proofs.Common.{◌≡◌, ℕ, ◌-◌, ◌<◌, ◌≤◌, List, [], ◌∷◌, ◌++◌, ℤ, pos, ◌+ℤ◌, sym, subst, ⊎_elim, arith, length-append}
use Rattle.std.proofs.lemmas.Int.{ints}
use Rattle.std.proofs.lemmas.Bool.{cases_lt}
use Rattle.fit.specs.Best.{total, summed_step, first_up}
use Rattle.fit.specs.Pooling.{Fronts, Backs, Pooled}
use Rattle.fit.proofs.Bests.{Best, Rises, Found, found, summed_rises}
use Rattle.fit.proofs.Signs.{total_append, fronts_under, fronts_append, fronts_total, fronts_by_backs, backs_over, backs_append, backs_total, backs_by_fronts}

module _ {P : Type 0} (step : P → ℕ → ℤ) (top : ℕ) where
  pub pooled_one : (p : P) (v : ℕ) → Best step top (p ∷ []) v → Pooled step top (p ∷ []) v
  pooled_one p v b = record {
    some = omega arith;
    within = b.within;
    fronts = λ l h. (omega (arith, ints, b.below l h), tt);
    backs = λ l h t. (omega (arith, ints, b.above l h t), tt);
  }

  module _ (xs ys : List P) (a b v : ℕ) (pa : Pooled step top xs a) (pb : Pooled step top ys b) (falls : b < a) (best : Best step top (xs ++ ys) v) where
    fronts : (l : ℕ) → l < v → Fronts (λ p. step p l) (pos 0) (xs ++ ys)
    fronts l h =
        let f : P → ℤ = λ p. step p l in
        let all = total_append f xs ys in
        let neg = best.below l h in
        let low = fronts_total f (pos 0) xs pa.some in
        ⊎_elim
        (λ (lt : l < b).
        let fa = pa.fronts l (omega arith) in
        fronts_append f (pos 0) xs ys fa (fronts_under f (pos 0 +ℤ total f xs) (pos 0) ys (omega (arith, ints, low fa)) (pb.fronts l lt)))
        (λ (ge : b ≤ l).
        let t : l < top = omega (arith, best.within) in
        let back = pb.backs l ge t in
        ⊎_elim
        (λ (lt : l < a). fronts_append f (pos 0) xs ys (pa.fronts l lt) (fronts_by_backs f (pos 0 +ℤ total f xs) ys (omega (arith, ints)) back))
        (λ (up : a ≤ l). absurd (omega (arith, ints, backs_total f (pos 0) xs (omega (arith, ints)) (pa.backs l up t), backs_total f (pos 0) ys (omega (arith, ints)) back)))
        (cases_lt l a))
        (cases_lt l b)

    backs : (l : ℕ) → v ≤ l → l < top → Backs (λ p. step p l) (xs ++ ys) (pos 0)
    backs l h t =
        let f : P → ℤ = λ p. step p l in
        let all = total_append f xs ys in
        let up = best.above l h t in
        ⊎_elim
        (λ (lt : l < a).
        let fa = pa.fronts l lt in
        ⊎_elim
        (λ (low : l < b).
        absurd (omega (arith, ints, fronts_total f (pos 0) xs pa.some fa, fronts_total f (pos 0) ys pb.some (pb.fronts l low))))
        (λ (ge : b ≤ l).
        backs_append f (pos 0) xs ys (backs_by_fronts f (pos 0) (total f ys +ℤ pos 0) xs (omega (arith, ints)) (omega (arith, ints)) fa) (pb.backs l ge t))
        (cases_lt l b))
        (λ (ge : a ≤ l).
        let back = pb.backs l (omega arith) t in
        backs_append f (pos 0) xs ys (backs_over f (pos 0) (total f ys +ℤ pos 0) xs (backs_total f (pos 0) ys (omega (arith, ints)) back) (pa.backs l ge t)) back)
        (cases_lt l a)

    pub pooled_both : Pooled step top (xs ++ ys) v
    pooled_both = record {
      some = omega (arith, length-append xs ys, pa.some);
      within = best.within;
      fronts = fronts;
      backs = backs;
    }

-- the best level of both lies between their levels, so it is enough to search there
pub joint_best : {P : Type 0} (step : P → ℕ → ℤ) (top : ℕ) → Rises step top → (xs ys : List P) (a b v : ℕ) → Pooled step top xs a → Pooled step top ys b → b < a → v ≡ first_up (summed_step step (xs ++ ys)) b (a - b) → Best step top (xs ++ ys) v
joint_best {P} step top rises xs ys a b v pa pb falls is =
    let s = summed_step step (xs ++ ys) in
    let f : Found s b (a - b) v = subst (Found s b (a - b)) (sym is) (found s b (a - b)) in
    record {
      within = omega (arith, f.to, pa.within);
      below = λ l h.
          let at : P → ℤ = λ p. step p l in
          ⊎_elim
          (λ (lt : l < b). omega (arith, ints, total_append at xs ys, fronts_total at (pos 0) xs pa.some (pa.fronts l (omega arith)), fronts_total at (pos 0) ys pb.some (pb.fronts l lt)))
          (λ (ge : b ≤ l). f.below l ge h)
          (cases_lt l b);
      above = λ l h t.
          let at : P → ℤ = λ p. step p l in
          ⊎_elim
          (λ (lt : v < a). omega (arith, ints, f.here (omega arith), summed_rises step top rises (xs ++ ys) v l h t))
          (λ (ge : a ≤ v). omega (arith, ints, total_append at xs ys, backs_total at (pos 0) xs (omega (arith, ints)) (pa.backs l (omega arith) t), backs_total at (pos 0) ys (omega (arith, ints)) (pb.backs l (omega arith) t)))
          (cases_lt v a);
    }
