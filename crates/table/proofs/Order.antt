-- Rows read one behind another, and where their order breaks. Assumes nothing.
use Rattle.std.proofs.Common.{◌≡◌, ℕ, suc, ◌+◌, ◌-◌, ◌*◌, ◌<◌, ◌≤◌, true, false, List, [], ◌∷◌, ◌++◌, length, get_or, take, drop, sym, refl, ap, ◌∙◌, arith}
use Rattle.std.proofs.lemmas.List.{take_more, take_all, drop_at, drop_more, get_or_append_left}
use Rattle.std.proofs.lemmas.Bool.{cond-true, cond-false}
use Rattle.table.specs.Opening.{row_read, rows_read, row_after, least_after, row_follows, first_stray}

pub least_none : (rs : List (ℕ × ℕ)) → length rs ≤ 0 → (0, 0) ≡ least_after (0, 0) rs
least_none [] h = refl
least_none (r ∷ rs) h = absurd (omega arith)

pub least_push : (least : ℕ × ℕ) (rs : List (ℕ × ℕ)) (r : ℕ × ℕ) → least_after least (rs ++ (r ∷ [])) ≡ row_after r
least_push least [] r = refl
least_push least (x ∷ rs) r = least_push (row_after x) rs r

pub least_last : (rs : List (ℕ × ℕ)) (r : ℕ × ℕ) → 0 < length rs → r ≡ get_or rs (length rs - 1) r → row_after r ≡ least_after (0, 0) rs
least_last rs r some e =
    let n = length rs - 1 in
    let last : take (n + 1) rs ≡ rs = take_all (n + 1) rs (omega arith) in
    sym (least_push (0, 0) (take n rs) r)
    ∙ ap (least_after (0, 0)) (ap (λ x. take n rs ++ (x ∷ [])) e ∙ (sym (take_more rs n r (omega arith)) ∙ last))

pub least_join : (least : ℕ × ℕ) (rs ss : List (ℕ × ℕ)) → least_after least (rs ++ ss) ≡ least_after (least_after least rs) ss
least_join least [] ss = refl
least_join least (r ∷ rs) ss = least_join (row_after r) rs ss

-- the search has come to row i
pub stray_here : (least : ℕ × ℕ) (rs : List (ℕ × ℕ)) (i : ℕ) → i < length rs → row_follows least (get_or rs i (0, 0)) ≡ false → first_stray least (drop i rs) ≡ 0
stray_here least rs i h no_more = ap (first_stray least) (drop_more rs i (0, 0) h) ∙ cond-false _ _ _ no_more

pub stray_later : (least : ℕ × ℕ) (rs : List (ℕ × ℕ)) (i : ℕ) → i < length rs → row_follows least (get_or rs i (0, 0)) ≡ true → first_stray least (drop i rs) ≡ suc (first_stray (row_after (get_or rs i (0, 0))) (drop (i + 1) rs))
stray_later least rs i h goes_on = ap (first_stray least) (drop_more rs i (0, 0) h) ∙ cond-true _ _ _ goes_on

-- the first of several places
pub rows_front : (n m : ℕ) (place rest : List ℕ) → n + 1 ≡ m → length place ≡ 8 → rows_read m (place ++ rest) ≡ row_read place ∷ rows_read n rest
rows_front n m place rest next whole =
    let own : (k : ℕ) → k < 8 → get_or (place ++ rest) k 0 ≡ get_or place k 0 = λ k h. get_or_append_left place rest 0 k (omega arith) in
    ap (λ k. rows_read k (place ++ rest)) {y = suc n} (omega arith)
    ∙ (λ i.
    (own 0 (omega arith) i + own 1 (omega arith) i * 256 + own 2 (omega arith) i * 65536 + own 3 (omega arith) i * 16777216, own 4 (omega arith) i + own 5 (omega arith) i * 256)
    ∷ rows_read n (drop_at place rest 8 whole i))
