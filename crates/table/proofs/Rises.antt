-- By rising rows a higher count never gets a lower level. Assumes nothing.
use Rattle.std.proofs.Common.{◌≡◌, ℕ, ◌-◌, ◌*◌, ◌<◌, ◌≤◌, Bool, true, false, cond, ◌||◌, leb, List, length, Ok, Err, Result, sym, refl, ap, ◌∙◌, subst, ⊎_elim, mul-le-mul_left, arith}
use Rattle.std.proofs.lemmas.Bool.{cases_lt, cases_eq, leb-true, ltb-true, le-leb, eq-eqb, ne_eqb, cond-true, cond-false, or_right}
use Rattle.fault.specs.declared.Question.{Question}
use Rattle.fault.specs.declared.Question.TheVariants.{ConvertEmpty, ConvertBelow, ConvertAbove, ConvertFalls}
use Rattle.fault.specs.declared.Fault.{Fault}
use Rattle.fault.specs.Numbers.{outside_text}
use Rattle.table.specs.Rows.{count_at, level_at}
use Rattle.table.specs.Convert.{first_at_least, straight_line, found_level, conversion, Rising, Orderly}
use Rattle.table.proofs.Found.{first_reaches, first_mono}
use Rattle.table.proofs.Lines.{part_le, quotient_mono}

-- an accepted call had each question answered yes
pub yes_all : {X : Type 0} (b : Bool) (r : Result X Fault) (e : Fault) (x : X) → cond b r (Err e) ≡ Ok x → (b ≡ true) × (r ≡ Ok x)
yes_all true r e x h = (refl, h)
yes_all false r e x h = absurd (cc)

-- a call refused by one question had the others before it answered yes
yes_before : {X : Type 0} (b : Bool) (r : Result X Fault) (e d : Fault) → (e ≡ d → ⊥) → cond b r (Err e) ≡ Err d → (b ≡ true) × (r ≡ Err d)
yes_before true r e d ne h = (refl, h)
yes_before false r e d ne h = absurd (ne (cc))

question_same : (p q : Question) → outside_text p ≡ outside_text q → p ≡ q
question_same p q e = ap (λ (f : Fault). f.question) e

not_empty : outside_text ConvertEmpty ≡ outside_text ConvertFalls → ⊥
not_empty h = let e = question_same ConvertEmpty ConvertFalls h in cc

not_below : outside_text ConvertBelow ≡ outside_text ConvertFalls → ⊥
not_below h = let e = question_same ConvertBelow ConvertFalls h in cc

not_above : outside_text ConvertAbove ≡ outside_text ConvertFalls → ⊥
not_above h = let e = question_same ConvertAbove ConvertFalls h in cc

ok_same : {X : Type 0} (x y : X) → ◌≡◌ {A = Result X Fault} (Ok x) (Ok y) → x ≡ y
ok_same x y e = cc

ok_or_err : {X : Type 0} (x : X) (e : Fault) → ◌≡◌ {A = Result X Fault} (Ok x) (Err e) → ⊥
ok_or_err x e h = cc

module _ (rs : List (ℕ × ℕ)) (rising : Rising rs) where
  levels : (i j : ℕ) → i ≤ j → j < length rs → level_at rs i ≤ level_at rs j
  levels i j le h =
      ⊎_elim
      (λ (lt : i < j). (rising i j lt h).1)
      (λ (ge : j ≤ i). let e : i ≡ j = omega arith in omega (arith, ap (level_at rs) e))
      (cases_lt i j)

  module _ (c : ℕ) (entered : count_at rs 0 ≤ c) (there : first_at_least rs c < length rs) where
    -- the row found is not the first unless it has the very count
    inner : (count_at rs (first_at_least rs c) ≡ c → ⊥) → 0 < first_at_least rs c
    inner ne =
        ⊎_elim
        (λ (lt : 0 < first_at_least rs c). lt)
        (λ (le : first_at_least rs c ≤ 0).
        let z : first_at_least rs c ≡ 0 = omega arith in
        absurd (ne (omega (arith, ap (count_at rs) z, first_reaches rs c there))))
        (cases_lt 0 (first_at_least rs c))

    exact : count_at rs (first_at_least rs c) ≡ c → found_level rs c (first_at_least rs c) ≡ level_at rs (first_at_least rs c)
    exact e = cond-true _ _ _ (eq-eqb (count_at rs (first_at_least rs c)) c e)

    on_line : (count_at rs (first_at_least rs c) ≡ c → ⊥) → found_level rs c (first_at_least rs c) ≡ straight_line (count_at rs (first_at_least rs c - 1)) (level_at rs (first_at_least rs c - 1)) (count_at rs (first_at_least rs c)) (level_at rs (first_at_least rs c)) c
    on_line ne = cond-false _ _ _ (ne_eqb (count_at rs (first_at_least rs c)) c ne)

    at_most : found_level rs c (first_at_least rs c) ≤ level_at rs (first_at_least rs c)
    at_most =
        let i = first_at_least rs c in
        ⊎_elim
        (λ (e : count_at rs i ≡ c). omega (arith, exact e))
        (λ (ne : count_at rs i ≡ c → ⊥).
        omega (
          arith,
          on_line ne,
          inner ne,
          levels (i - 1) i (omega arith) there,
          part_le (level_at rs i - level_at rs (i - 1)) (c - count_at rs (i - 1)) (count_at rs i - count_at rs (i - 1)) (omega (arith, first_reaches rs c there)),
        ))
        (cases_eq (count_at rs i) c)

    at_least : level_at rs (first_at_least rs c - 1) ≤ found_level rs c (first_at_least rs c)
    at_least =
        let i = first_at_least rs c in
        ⊎_elim
        (λ (e : count_at rs i ≡ c). omega (arith, exact e, levels (i - 1) i (omega arith) there))
        (λ (ne : count_at rs i ≡ c → ⊥). omega (arith, on_line ne))
        (cases_eq (count_at rs i) c)

  abbrev line : ℕ → ℕ → ℕ
  line i c = straight_line (count_at rs (i - 1)) (level_at rs (i - 1)) (count_at rs i) (level_at rs i) c

  -- two counts between the same two rows
  same_row : (c d : ℕ) → c ≤ d → count_at rs 0 ≤ c → (i : ℕ) → i < length rs → first_at_least rs c ≡ i → first_at_least rs d ≡ i → found_level rs c i ≤ found_level rs d i
  same_row c d le enter i there at_c at-d =
      let within_c : first_at_least rs c < length rs = omega arith in
      let within_d : first_at_least rs d < length rs = omega arith in
      let reach : d ≤ count_at rs i = subst (λ n. d ≤ count_at rs n) at-d (first_reaches rs d within_d) in
      let most : found_level rs c i ≤ level_at rs i = subst (λ n. found_level rs c n ≤ level_at rs n) at_c (at_most c enter within_c) in
      ⊎_elim
      (λ (e : count_at rs i ≡ d). omega (arith, most, cond-true _ (level_at rs i) (line i d) (eq-eqb (count_at rs i) d e)))
      (λ (ne : count_at rs i ≡ d → ⊥).
      let ne_c : count_at rs i ≡ c → ⊥ = λ e. ne (omega arith) in
      let after : 0 < i = subst (λ n. (count_at rs n ≡ c → ⊥) → 0 < n) at_c (inner c enter within_c) ne_c in
      let wide = (rising (i - 1) i (omega arith) there).0 in
      let more = quotient_mono
      ((level_at rs i - level_at rs (i - 1)) * (c - count_at rs (i - 1)))
      ((level_at rs i - level_at rs (i - 1)) * (d - count_at rs (i - 1)))
      (count_at rs i - count_at rs (i - 1))
      (omega arith)
      (mul-le-mul_left (level_at rs i - level_at rs (i - 1)) (omega arith)) in
      omega (
        arith,
        more,
        cond-false _ (level_at rs i) (line i c) (ne_eqb (count_at rs i) c ne_c),
        cond-false _ (level_at rs i) (line i d) (ne_eqb (count_at rs i) d ne),
      ))
      (cases_eq (count_at rs i) d)

  pub higher_level : (c d : ℕ) → c ≤ d → count_at rs 0 ≤ c → first_at_least rs c < length rs → first_at_least rs d < length rs → found_level rs c (first_at_least rs c) ≤ found_level rs d (first_at_least rs d)
  higher_level c d le enter there there-d =
      let i = first_at_least rs c in
      let j = first_at_least rs d in
      ⊎_elim
      (λ (lt : i < j).
      omega (
        arith,
        at_most c enter there,
        levels i (j - 1) (omega arith) (omega arith),
        at_least d (omega arith) there-d,
      ))
      (λ (ge : j ≤ i).
      let e : i ≡ j = omega (arith, first_mono rs c d le there-d) in
      subst (λ n. found_level rs c i ≤ found_level rs d n) e (same_row c d le enter i there refl (sym e)))
      (cases_lt i j)

  pub yes_falls : (c : ℕ) → count_at rs 0 ≤ c → first_at_least rs c < length rs → (leb (count_at rs (first_at_least rs c)) c || leb (level_at rs (first_at_least rs c - 1)) (level_at rs (first_at_least rs c))) ≡ true
  yes_falls c enter there =
      let i = first_at_least rs c in
      or_right _ _ (le-leb (level_at rs (i - 1)) (level_at rs i) (levels (i - 1) i (omega arith) there))

  -- what an accepted conversion says
  accepted : (c l : ℕ) → conversion rs c ≡ Ok l → (count_at rs 0 ≤ c) × (first_at_least rs c < length rs) × (found_level rs c (first_at_least rs c) ≡ l)
  unfolding conversion
  accepted c l e =
      let q0 = yes_all _ _ _ l e in
      let q1 = yes_all _ _ _ l q0.1 in
      let q2 = yes_all _ _ _ l q1.1 in
      let q3 = yes_all _ _ _ l q2.1 in
      (leb-true (count_at rs 0) c q1.0, ltb-true (first_at_least rs c) (length rs) q2.0, ok_same _ _ q3.1)

  falls_never : (c : ℕ) → conversion rs c ≡ Err (outside_text ConvertFalls) → ⊥
  unfolding conversion
  falls_never c e =
      let q0 = yes_before _ _ _ _ not_empty e in
      let q1 = yes_before _ _ _ _ not_below q0.1 in
      let q2 = yes_before _ _ _ _ not_above q1.1 in
      let rise = yes_falls c (leb-true (count_at rs 0) c q1.0) (ltb-true (first_at_least rs c) (length rs) q2.0) in
      ok_or_err _ _ (sym (cond-true _ _ _ rise) ∙ q2.1)

  pub orderly : Orderly rs
  orderly = record {
    higher = λ c d l m le e f.
        let p = accepted c l e in
        let q = accepted d m f in
        omega (arith, higher_level c d le p.0 p.1 q.1, p.2, q.2);
    never_falls = falls_never;
  }
