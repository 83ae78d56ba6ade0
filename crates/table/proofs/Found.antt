-- The row that a conversion finds, and what each finding answers. Assumes nothing.
use Rattle.std.proofs.Common.{◌≡◌, ℕ, zero, suc, ◌<◌, ◌≤◌, leb, ltb, cond, List, [], ◌∷◌, length, Some, None, sym, refl, ap, ◌∙◌, subst, ⊎_elim, arith}
use Rattle.std.specs.List.{slice_get, position_or_len, position}
use Rattle.std.specs.Option.{unwrap_or}
use Rattle.std.proofs.lemmas.Bool.{cases_lt, le-leb, lt-leb, lt-ltb, le-ltb, cond-true, cond-false}
use Rattle.table.specs.Rows.{count_at}
use Rattle.table.specs.Convert.{first_at_least}

pub nth_none : {X : Type 0} (xs : List X) (i : ℕ) → slice_get xs i ≡ None → length xs ≤ i
nth_none [] i e = omega arith
nth_none (x ∷ xs) zero e = absurd (cc)
nth_none (x ∷ xs) (suc i) e = omega (arith, nth_none xs i e)

first_le : (rs : List (ℕ × ℕ)) (c : ℕ) → first_at_least rs c ≤ length rs
first_le [] c = omega arith
first_le (r ∷ rs) c =
    ⊎_elim
    (λ (lt : r.0 < c). omega (arith, cond-false _ 0 (suc (first_at_least rs c)) (lt-leb c r.0 lt), first_le rs c))
    (λ (le : c ≤ r.0). omega (arith, cond-true _ 0 (suc (first_at_least rs c)) (le-leb c r.0 le)))
    (cases_lt r.0 c)

-- std's search, by a test, comes to the same row
first_is : (rs : List (ℕ × ℕ)) (c : ℕ) → position_or_len (λ r. leb c r.0) rs ≡ first_at_least rs c
first_is [] c = refl
first_is (r ∷ rs) c =
    ⊎_elim
    (λ (lt : r.0 < c). let no = lt-leb c r.0 lt in rw (no, first_is rs c) (omega arith))
    (λ (le : c ≤ r.0). let yes = le-leb c r.0 le in rw yes refl)
    (cases_lt r.0 c)

pub first_from_position : (rs : List (ℕ × ℕ)) (c : ℕ) → unwrap_or (position (λ r. leb c r.0) rs) (length rs) ≡ first_at_least rs c
first_from_position rs c =
    ap (λ n. unwrap_or (cond (ltb n (length rs)) (Some n) None) (length rs)) (first_is rs c)
    ∙ ⊎_elim
    (λ (lt : first_at_least rs c < length rs). ap (λ o. unwrap_or o (length rs)) (cond-true _ _ _ (lt-ltb (first_at_least rs c) (length rs) lt)))
    (λ (le : length rs ≤ first_at_least rs c). ap (λ o. unwrap_or o (length rs)) (cond-false _ _ _ (le-ltb (first_at_least rs c) (length rs) le)) ∙ omega (arith, first_le rs c))
    (cases_lt (first_at_least rs c) (length rs))

-- the row found reaches the count, and no row before it does
pub first_reaches : (rs : List (ℕ × ℕ)) (c : ℕ) → first_at_least rs c < length rs → c ≤ count_at rs (first_at_least rs c)
first_reaches [] c h = absurd (omega arith)
first_reaches (r ∷ rs) c h =
    ⊎_elim
    (λ (lt : r.0 < c).
    let e : first_at_least (r ∷ rs) c ≡ suc (first_at_least rs c) = cond-false _ _ _ (lt-leb c r.0 lt) in
    subst (λ n. c ≤ count_at (r ∷ rs) n) (sym e) (first_reaches rs c (omega (arith, e))))
    (λ (le : c ≤ r.0).
    let e : first_at_least (r ∷ rs) c ≡ 0 = cond-true _ _ _ (le-leb c r.0 le) in
    subst (λ n. c ≤ count_at (r ∷ rs) n) (sym e) le)
    (cases_lt r.0 c)

pub first_lower : (rs : List (ℕ × ℕ)) (c j : ℕ) → j < first_at_least rs c → count_at rs j < c
first_lower [] c j h = absurd (omega arith)
first_lower (r ∷ rs) c zero h =
    ⊎_elim
    (λ (lt : r.0 < c). lt)
    (λ (le : c ≤ r.0).
    let e : first_at_least (r ∷ rs) c ≡ 0 = cond-true _ _ _ (le-leb c r.0 le) in absurd (omega (arith, e)))
    (cases_lt r.0 c)
first_lower (r ∷ rs) c (suc j) h =
    ⊎_elim
    (λ (lt : r.0 < c).
    let e : first_at_least (r ∷ rs) c ≡ suc (first_at_least rs c) = cond-false _ _ _ (lt-leb c r.0 lt) in
    first_lower rs c j (omega (arith, e)))
    (λ (le : c ≤ r.0).
    let e : first_at_least (r ∷ rs) c ≡ 0 = cond-true _ _ _ (le-leb c r.0 le) in absurd (omega (arith, e)))
    (cases_lt r.0 c)

pub first_mono : (rs : List (ℕ × ℕ)) (c d : ℕ) → c ≤ d → first_at_least rs d < length rs → first_at_least rs c ≤ first_at_least rs d
first_mono rs c d le h =
    ⊎_elim
    (λ (lt : first_at_least rs d < first_at_least rs c). absurd (omega (arith, first_lower rs c (first_at_least rs d) lt, first_reaches rs d h)))
    (λ (ge : first_at_least rs c ≤ first_at_least rs d). ge)
    (cases_lt (first_at_least rs d) (first_at_least rs c))
