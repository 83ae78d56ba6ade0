-- Texts and their pieces. Assumes nothing.
use Rattle.std.proofs.Common.{◌≡◌, ℕ, suc, ◌+◌, ◌<◌, ◌≤◌, Bool, true, false, not, cond, eqb, ltb, List, [], ◌∷◌, length, take, drop, Some, None, Option, MatchOption, is_some, unwrap_or, sym, refl, ap, ◌∙◌, arith}
use Rattle.std.specs.List.{position_or_len, sum_by}
use Rattle.std.proofs.lemmas.List.Recursion.{is_position_or_len}
use Rattle.std.proofs.lemmas.List.Sums.{prefix_len-le-length, sum_by-cons}
use Rattle.std.proofs.lemmas.Bool.{false≢true, ltb-false}
use Rattle.lines.specs.Pieces.{onto, pieces, before, lines_of}

pub before_is : (s : ℕ) (bs : List ℕ) → before s bs ≡ position_or_len (λ b. eqb b s) bs
before_is s bs = is_position_or_len (before s) (λ b. eqb b s) refl (λ b bs. grind arith) bs

pub before_within : (s : ℕ) (bs : List ℕ) → before s bs ≤ length bs
before_within s bs = omega (arith, before_is s bs, prefix_len-le-length (λ b. not (eqb b s)) bs)

-- where a search for the byte that ends a piece ends
by_test : (t : Bool) (n : ℕ) (r : Option ℕ) → r ≡ cond t (Some n) None → MatchOption r (t ≡ false) (λ i. i ≡ n)
by_test true n None e = absurd (false≢true (ap is_some e))
by_test true n (Some i) e = ap (λ o. unwrap_or o 0) e
by_test false n None e = refl
by_test false n (Some i) e = absurd (false≢true (sym (ap is_some e)))

pub before_found : (s : ℕ) (bs : List ℕ) (r : Option ℕ) → r ≡ cond (ltb (position_or_len (λ b. eqb b s) bs) (length bs)) (Some (position_or_len (λ b. eqb b s) bs)) None → MatchOption r (before s bs ≡ length bs) (λ i. i ≡ before s bs)
before_found s bs None e = omega (arith, before_within s bs, before_is s bs, ltb-false _ _ (by_test _ _ None e))
before_found s bs (Some i) e = by_test _ _ (Some i) e ∙ sym (before_is s bs)

-- a text that is not empty is its first piece and the pieces of the rest
step_at : (t : Bool) (s b : ℕ) (bs : List ℕ) → cond t ([] ∷ pieces s bs) (onto b (pieces s bs)) ≡ take (cond t 0 (suc (before s bs))) (b ∷ bs) ∷ pieces s (drop (suc (cond t 0 (suc (before s bs)))) (b ∷ bs))
step_at true s b bs = refl
step_at false s b [] = refl
step_at false s b (x ∷ xs) = ap (onto b) (step_at (eqb x s) s x xs)

pub pieces_step : (s b : ℕ) (bs : List ℕ) → pieces s (b ∷ bs) ≡ take (before s (b ∷ bs)) (b ∷ bs) ∷ pieces s (drop (suc (before s (b ∷ bs))) (b ∷ bs))
pieces_step s b bs = step_at (eqb b s) s b bs

pub pieces_first : (s : ℕ) (bs : List ℕ) → 0 < length bs → pieces s bs ≡ take (before s bs) bs ∷ pieces s (drop (suc (before s bs)) bs)
pieces_first s [] h = absurd (omega (arith, h))
pieces_first s (b ∷ bs) h = pieces_step s b bs

-- the first line of an input, and the lines behind it
pub lines_first : (bs : List ℕ) → lines_of bs ≡ take (before 10 bs) bs ∷ pieces 10 (drop (suc (before 10 bs)) bs)
lines_first [] = refl
lines_first (b ∷ bs) = pieces_step 10 b bs

-- each piece takes its bytes and one more; the last may end with the text
onto_takes : (b : ℕ) (ps : List (List ℕ)) (n : ℕ) → sum_by (λ p. length p + 1) ps ≤ n + 1 → sum_by (λ p. length p + 1) (onto b ps) ≤ n + 2
onto_takes b [] n h = omega arith
onto_takes b (p ∷ ps) n h = omega (arith, h, sum_by-cons (λ (q : List ℕ). length q + 1) (b ∷ p) ps, sum_by-cons (λ (q : List ℕ). length q + 1) p ps)

taken_by : (t : Bool) (s b : ℕ) (bs : List ℕ) → sum_by (λ p. length p + 1) (pieces s bs) ≤ length bs + 1 → sum_by (λ p. length p + 1) (cond t ([] ∷ pieces s bs) (onto b (pieces s bs))) ≤ length bs + 2
taken_by true s b bs h = omega (arith, h, sum_by-cons (λ (q : List ℕ). length q + 1) [] (pieces s bs))
taken_by false s b bs h = onto_takes b (pieces s bs) (length bs) h

pub pieces_take : (s : ℕ) (bs : List ℕ) → sum_by (λ p. length p + 1) (pieces s bs) ≤ length bs + 1
pieces_take s [] = omega arith
pieces_take s (b ∷ bs) = omega (arith, taken_by (eqb b s) s b bs (pieces_take s bs))

pub no_more_pieces : (ps : List (List ℕ)) → length ps ≤ sum_by (λ p. length p + 1) ps
no_more_pieces [] = omega arith
no_more_pieces (p ∷ ps) = omega (arith, no_more_pieces ps, sum_by-cons (λ (q : List ℕ). length q + 1) p ps)
