-- A table's text can be read in one way only. Assumes nothing.
use Rattle.std.proofs.Common.{◌≡◌, ℕ, suc, ◌+◌, ◌%◌, ◌^◌, ◌<◌, ◌≤◌, List, [], ◌∷◌, ◌++◌, length, decimal, sym, refl, ap, ◌∙◌, arith}
use Rattle.std.proofs.lemmas.List.{append_assoc, length-append}
use Rattle.std.proofs.lemmas.Fmt.{decimal_by_steps, decimal_injective}
use Rattle.table.specs.Text.{row_text, table_text, OneReading}
use Rattle.table.proofs.Written.{length_spaced}

-- digits stand above the space and the newline
abbrev High : List ℕ → Type 0
High [] = Unit {0}
High (x ∷ xs) = (48 ≤ x) × High xs

high_push : (xs : List ℕ) (x : ℕ) → High xs → 48 ≤ x → High (xs ++ (x ∷ []))
high_push [] x h e = (e, tt)
high_push (y ∷ xs) x h e = (h.0, high_push xs x h.1 e)

high_decimal : (n : ℕ) → n < 2 ^ 64 → High (decimal n)
high_decimal n fits =
    decimal_by_steps (λ m ds. High ds) (λ m small. (omega arith, tt)) (λ m ds big h. high_push ds (48 + m % 10) h (omega arith)) n fits

-- two texts cut at the first byte b that each has
cut : (b : ℕ) (xs ys ts us : List ℕ) → b < 48 → High xs → High ys → xs ++ (b ∷ ts) ≡ ys ++ (b ∷ us) → (xs ≡ ys) × (ts ≡ us)
cut b [] [] ts us low hx hy e = (refl, cc)
cut b [] (y ∷ ys) ts us low hx hy e = let s : b ≡ y = cc in absurd (omega (arith, hy.0))
cut b (x ∷ xs) [] ts us low hx hy e = let s : x ≡ b = cc in absurd (omega (arith, hx.0))
cut b (x ∷ xs) (y ∷ ys) ts us low hx hy e =
    let s : x ≡ y = cc in
    let t : xs ++ (b ∷ ts) ≡ ys ++ (b ∷ us) = cc in
    let p = cut b xs ys ts us low hx.1 hy.1 t in
    (ap (λ z. z ∷ xs) s ∙ ap (λ zs. y ∷ zs) p.0, p.1)

-- a row's text with what comes behind it
row_then : (r : ℕ × ℕ) (ts : List ℕ) → row_text r ++ ts ≡ decimal r.0 ++ (32 ∷ (decimal r.1 ++ (10 ∷ ts)))
row_then r ts =
    append_assoc (decimal r.0) (32 ∷ (decimal r.1 ++ (10 ∷ []))) ts
    ∙ ap (λ zs. decimal r.0 ++ (32 ∷ zs)) (append_assoc (decimal r.1) (10 ∷ []) ts)

row_reading : (r s : ℕ × ℕ) (ts us : List ℕ) → (r.0 < 2 ^ 32) × (r.1 < 2 ^ 16) → (s.0 < 2 ^ 32) × (s.1 < 2 ^ 16) → row_text r ++ ts ≡ row_text s ++ us → (r ≡ s) × (ts ≡ us)
row_reading r s ts us hr hs e =
    let count = cut 32 (decimal r.0) (decimal s.0) _ _ (omega arith) (high_decimal r.0 (omega (arith, hr.0))) (high_decimal s.0 (omega (arith, hs.0))) (sym (row_then r ts) ∙ (e ∙ row_then s us)) in
    let level = cut 10 (decimal r.1) (decimal s.1) _ _ (omega arith) (high_decimal r.1 (omega (arith, hr.1))) (high_decimal s.1 (omega (arith, hs.1))) count.1 in
    let c : r.0 ≡ s.0 = decimal_injective r.0 s.0 (omega (arith, hr.0)) (omega (arith, hs.0)) count.0 in
    let l : r.1 ≡ s.1 = decimal_injective r.1 s.1 (omega (arith, hr.1)) (omega (arith, hs.1)) level.0 in
    (ap (λ n. (n, r.1)) c ∙ ap (λ n. (s.0, n)) l, level.1)

some_text : (r : ℕ × ℕ) (ts : List ℕ) → [] ≡ row_text r ++ ts → ⊥
some_text r ts e = omega (arith, ap length e, length-append (row_text r) ts, length_spaced (decimal r.0) (decimal r.1))

pub one_reading : OneReading
unfolding table_text
one_reading [] [] hr hs e = refl
one_reading [] (s ∷ ss) hr hs e = absurd (some_text s (table_text ss) e)
one_reading (r ∷ rs) [] hr hs e = absurd (some_text r (table_text rs) (sym e))
one_reading (r ∷ rs) (s ∷ ss) hr hs e =
    let p = row_reading r s (table_text rs) (table_text ss) (hr 0 (omega arith)) (hs 0 (omega arith)) e in
    ap (λ z. z ∷ rs) p.0 ∙ ap (λ zs. s ∷ zs) (one_reading rs ss (λ i h. hr (suc i) (omega arith)) (λ i h. hs (suc i) (omega arith)) p.1)
