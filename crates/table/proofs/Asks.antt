-- What the questions to a block answer at each way out. Assumes nothing.
use Rattle.std.proofs.Common.{◌≡◌, ℕ, zero, suc, ◌+◌, ◌≤◌, Bool, true, false, ◌&&◌, ◌||◌, eqb, leb, ◌⊎◌, inl, inr, ⊎_elim, List, [], ◌∷◌, length, get_or, drop, Ok, Err, sym, refl, ap, ◌∙◌, arith}
use Rattle.std.proofs.lemmas.Bool.{cond-true, cond-false, and_parts, or_cases, leb-true, eqb-true}
use Rattle.fault.specs.declared.Question.TheVariants.{OpenSums, OpenLayout, OpenOrder}
use Rattle.table.specs.Opening.{rows_read, block_rows, row_after, row_follows, least_after, first_stray, sums_right, count_right, body_right, in_block, block_answer}

pub length_rows_read : (n : ℕ) (bs : List ℕ) → length (rows_read n bs) ≡ n
length_rows_read zero bs = refl
length_rows_read (suc n) bs = ap suc (length_rows_read n (drop 8 bs))

pub stray_le : (least : ℕ × ℕ) (rs : List (ℕ × ℕ)) → first_stray least rs ≤ length rs
stray_le least [] = omega arith
stray_le least (r ∷ rs) = go (row_follows least r) refl (stray_le (row_after r) rs)
  where
    go : (b : Bool) → row_follows least r ≡ b → first_stray (row_after r) rs ≤ length rs → first_stray least (r ∷ rs) ≤ suc (length rs)
    go true e h = omega (arith, cond-true _ (suc (first_stray (row_after r) rs)) 0 e)
    go false e h = omega (arith, cond-false _ (suc (first_stray (row_after r) rs)) 0 e)

pub count_parts : (left before n : ℕ) → count_right left before n ≡ true → (1 ≤ n) × (n ≤ 62) × ((left ≡ 0) ⊎ (n ≡ 62)) × (before + n ≤ 1024)
count_parts left before n e =
    let least = and_parts (leb 1 n) (leb n 62 && ((eqb left 0 || eqb n 62) && leb (before + n) 1024)) e in
    let most = and_parts (leb n 62) ((eqb left 0 || eqb n 62) && leb (before + n) 1024) least.1 in
    let last = and_parts (eqb left 0 || eqb n 62) (leb (before + n) 1024) most.1 in (
      leb-true 1 n least.0,
      leb-true n 62 most.0,
      ⊎_elim
          (λ (none : eqb left 0 ≡ true). inl (eqb-true left 0 none))
          (λ (all : eqb n 62 ≡ true). inr (eqb-true n 62 all))
          (or_cases (eqb left 0) (eqb n 62) last.0),
      leb-true (before + n) 1024 last.1,
    )

module _ (left k : ℕ) (rs : List (ℕ × ℕ)) (b : List ℕ) where
  abbrev stray : ℕ
  stray = first_stray (least_after (0, 0) rs) (block_rows b)

  pub answer_sums : sums_right b ≡ false → Err (in_block OpenSums k 0) ≡ block_answer left k rs b
  unfolding block_answer
  answer_sums s = sym (cond-false _ _ _ s)

  pub answer_layout : sums_right b ≡ true → (count_right left (length rs) (get_or b 2 0) && body_right k b (block_rows b)) ≡ false → Err (in_block OpenLayout k 0) ≡ block_answer left k rs b
  unfolding block_answer
  answer_layout s l = sym (cond-true _ _ _ s ∙ cond-false _ _ _ l)

  pub answer_order : sums_right b ≡ true → (count_right left (length rs) (get_or b 2 0) && body_right k b (block_rows b)) ≡ true → eqb stray (length (block_rows b)) ≡ false → Err (in_block OpenOrder k (stray + 1)) ≡ block_answer left k rs b
  unfolding block_answer
  answer_order s l o = sym (cond-true _ _ _ s ∙ (cond-true _ _ _ l ∙ cond-false _ _ _ o))

  pub answer_taken : sums_right b ≡ true → (count_right left (length rs) (get_or b 2 0) && body_right k b (block_rows b)) ≡ true → eqb stray (length (block_rows b)) ≡ true → Ok tt ≡ block_answer left k rs b
  unfolding block_answer
  answer_taken s l o = sym (cond-true _ _ _ s ∙ (cond-true _ _ _ l ∙ cond-true _ _ _ o))
