-- What a conversion answers at each of its ways out. Assumes nothing.
use Rattle.std.proofs.Common.{◌≡◌, ℕ, ◌-◌, ◌<◌, ◌≤◌, cond, ◌||◌, ltb, leb, List, length, Some, None, Ok, Err, sym, ap, ◌∙◌, subst, ⊎_elim, arith}
use Rattle.std.specs.List.{slice_get}
use Rattle.std.proofs.lemmas.Option.{slice_get_within, get_or_from_slice_get}
use Rattle.std.proofs.lemmas.Bool.{cases_lt, le-leb, lt-leb, lt-ltb, le-ltb, eq-eqb, ne_eqb, cond-true, cond-false, or_left, or_right, or_from}
use Rattle.fault.specs.declared.Question.TheVariants.{ConvertEmpty, ConvertBelow, ConvertAbove, ConvertFalls}
use Rattle.fault.specs.Numbers.{outside_text}
use Rattle.table.specs.Rows.{count_at, level_at}
use Rattle.table.specs.Convert.{first_at_least, straight_line, found_level, conversion}
use Rattle.table.proofs.Found.{nth_none, first_reaches, first_lower}

module _ (rs : List (ℕ × ℕ)) where
  count_is : (i : ℕ) (r : ℕ × ℕ) → slice_get rs i ≡ Some r → count_at rs i ≡ r.0
  count_is i r e = ap (λ (x : ℕ × ℕ). x.0) (get_or_from_slice_get rs i r (0, 0) e)

  level_is : (i : ℕ) (r : ℕ × ℕ) → slice_get rs i ≡ Some r → level_at rs i ≡ r.1
  level_is i r e = ap (λ (x : ℕ × ℕ). x.1) (get_or_from_slice_get rs i r (0, 0) e)

  pub answer_empty : (c : ℕ) → slice_get rs 0 ≡ None → conversion rs c ≡ Err (outside_text ConvertEmpty)
  unfolding conversion
  answer_empty c e = cond-false _ _ _ (le-ltb 0 (length rs) (nth_none rs 0 e))

  pub answer_below : (c : ℕ) (f : ℕ × ℕ) → slice_get rs 0 ≡ Some f → c < f.0 → conversion rs c ≡ Err (outside_text ConvertBelow)
  unfolding conversion
  answer_below c f e h =
      cond-true _ _ _ (lt-ltb 0 (length rs) (slice_get_within rs 0 f e))
      ∙ cond-false _ _ _ (lt-leb (count_at rs 0) c (omega (arith, count_is 0 f e)))

-- past the first two questions: row 0 is f, and the search has come to place i
pub record Entered (rs : List (ℕ × ℕ)) (c i : ℕ) (f : ℕ × ℕ) : Type 0 where
  pub first : slice_get rs 0 ≡ Some f
  pub above : f.0 ≤ c
  pub found : i ≡ first_at_least rs c

module _ {rs : List (ℕ × ℕ)} {c i : ℕ} {f : ℕ × ℕ} (h : Entered rs c i f) where
  from_found : conversion rs c ≡ cond (ltb i (length rs)) (cond (leb (count_at rs i) c || leb (level_at rs (i - 1)) (level_at rs i)) (Ok (found_level rs c i)) (Err (outside_text ConvertFalls))) (Err (outside_text ConvertAbove))
  unfolding conversion
  from_found =
      cond-true _ _ _ (lt-ltb 0 (length rs) (slice_get_within rs 0 f h.first))
      ∙ (cond-true _ _ _ (le-leb (count_at rs 0) c (omega (arith, count_is rs 0 f h.first)))
      ∙ ap (λ n. cond (ltb n (length rs)) (cond (leb (count_at rs n) c || leb (level_at rs (n - 1)) (level_at rs n)) (Ok (found_level rs c n)) (Err (outside_text ConvertFalls))) (Err (outside_text ConvertAbove))) (sym h.found))

  pub answer_above : slice_get rs i ≡ None → conversion rs c ≡ Err (outside_text ConvertAbove)
  answer_above e = from_found ∙ cond-false _ _ _ (le-ltb i (length rs) (nth_none rs i e))

  -- the row found is r
  module _ (r : ℕ × ℕ) (there : slice_get rs i ≡ Some r) where
    within : conversion rs c ≡ cond (leb (count_at rs i) c || leb (level_at rs (i - 1)) (level_at rs i)) (Ok (found_level rs c i)) (Err (outside_text ConvertFalls))
    within = from_found ∙ cond-true _ _ _ (lt-ltb i (length rs) (slice_get_within rs i r there))

    pub answer_exact : r.0 ≡ c → conversion rs c ≡ Ok r.1
    answer_exact e =
        within
        ∙ (cond-true _ _ _ (or_left _ _ (le-leb (count_at rs i) c (omega (arith, count_is rs i r there))))
        ∙ ap Ok (cond-true _ _ _ (eq-eqb (count_at rs i) c (count_is rs i r there ∙ e)) ∙ level_is rs i r there))

    pub reached : c ≤ r.0
    reached =
        omega (
          arith,
          count_is rs i r there,
          subst (λ n. n < length rs → c ≤ count_at rs n) (sym h.found) (first_reaches rs c) (slice_get_within rs i r there),
        )

    -- a row past the count has another before it, of a lower count
    module _ (beyond : r.0 ≡ c → ⊥) where
      pub not_first : 0 < i
      not_first =
          ⊎_elim
          (λ (lt : 0 < i). lt)
          (λ (le : i ≤ 0).
          let z : i ≡ 0 = omega arith in
          absurd (beyond (omega (arith, h.above, reached, count_is rs i r there, ap (count_at rs) z, count_is rs 0 f h.first))))
          (cases_lt 0 i)

      pub past : c < r.0
      past =
          ⊎_elim
          (λ (lt : c < r.0). lt)
          (λ (le : r.0 ≤ c). absurd (beyond (omega (arith, reached))))
          (cases_lt c r.0)

      module _ (b : ℕ × ℕ) (before : slice_get rs (i - 1) ≡ Some b) where
        pub lower : b.0 < c
        lower =
            omega (
              arith,
              count_is rs (i - 1) b before,
              first_lower rs c (i - 1) (omega (arith, not_first, h.found)),
            )

        pub answer_falls : r.1 < b.1 → conversion rs c ≡ Err (outside_text ConvertFalls)
        answer_falls falls =
            within
            ∙ cond-false _ _ _
            (or_from _ _
            (lt-leb (count_at rs i) c (omega (arith, past, count_is rs i r there)))
            (lt-leb (level_at rs (i - 1)) (level_at rs i) (omega (arith, level_is rs i r there, level_is rs (i - 1) b before))))

        line : straight_line (count_at rs (i - 1)) (level_at rs (i - 1)) (count_at rs i) (level_at rs i) c ≡ straight_line b.0 b.1 r.0 r.1 c
        line =
            ap (λ (x : ℕ × ℕ). straight_line x.0 x.1 (count_at rs i) (level_at rs i) c) (get_or_from_slice_get rs (i - 1) b (0, 0) before)
            ∙ ap (λ (x : ℕ × ℕ). straight_line b.0 b.1 x.0 x.1 c) (get_or_from_slice_get rs i r (0, 0) there)

        pub answer_between : b.1 ≤ r.1 → conversion rs c ≡ Ok (straight_line b.0 b.1 r.0 r.1 c)
        answer_between rises =
            within
            ∙ (cond-true _ _ _ (or_right _ _ (le-leb (level_at rs (i - 1)) (level_at rs i) (omega (arith, level_is rs i r there, level_is rs (i - 1) b before))))
            ∙ ap Ok (cond-false _ _ _ (ne_eqb (count_at rs i) c (λ e. beyond (sym (count_is rs i r there) ∙ e))) ∙ line))
