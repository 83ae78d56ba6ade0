-- A block put together from its parts. Assumes nothing.
use Rattle.std.proofs.Common.{◌≡◌, ℕ, ◌+◌, ◌-◌, ◌*◌, ◌<◌, ◌≤◌, List, [], ◌∷◌, ◌++◌, length, get_or, take, replicate, sym, refl, ap, ◌∙◌, arith}
use Rattle.std.specs.List.{flat_map}
use Rattle.std.proofs.lemmas.List.{append-nil, length-append, length-replicate, take_more, drop-replicate, flat_map_more}
use Rattle.table.specs.Text.{over}
use Rattle.table.specs.Binary.{row_bytes, block_places, block_body, sum_bytes, block_bytes}
use Rattle.table.proofs.Written.{over_join}

pub length_rows : (rs : List (ℕ × ℕ)) → length (flat_map row_bytes rs) ≡ 8 * length rs
length_rows [] = refl
length_rows (r ∷ rs) = omega (arith, length_rows rs)

pub rows_more : (rs : List (ℕ × ℕ)) (i : ℕ) → i < length rs → flat_map row_bytes (take (i + 1) rs) ≡ flat_map row_bytes (take i rs) ++ row_bytes (get_or rs i (0, 0))
rows_more rs i h = ap (flat_map row_bytes) (take_more rs i (0, 0) h) ∙ sym (flat_map_more row_bytes [] (take i rs) (get_or rs i (0, 0)))

pub length_places : (rs : List (ℕ × ℕ)) → length rs ≤ 62 → length (block_places rs) ≡ 500
unfolding block_places
length_places rs h =
    omega (
      arith,
      length-append (flat_map row_bytes rs) (replicate (500 - 8 * length rs) 0),
      length_rows rs,
      length-replicate {A = ℕ} (500 - 8 * length rs) 0,
    )

pub length_body : (k : ℕ) (rs : List (ℕ × ℕ)) → length rs ≤ 62 → length (block_body k rs) ≡ 508
unfolding block_body
length_body k rs h = omega (arith, length_places rs h)

pub length_sums : (bs : List ℕ) → length (sum_bytes bs) ≡ 4
unfolding sum_bytes
length_sums bs = refl

pub length_block : (k : ℕ) (rs : List (ℕ × ℕ)) → length rs ≤ 62 → length (block_bytes k rs) ≡ 512
unfolding block_bytes
length_block k rs h =
    omega (arith, length-append (block_body k rs) (sum_bytes (block_body k rs)), length_body k rs h, length_sums (block_body k rs))

-- zeros with bytes written over the first of them
pub over_zeros : (n : ℕ) (ws : List ℕ) → over (replicate n 0) 0 ws ≡ ws ++ replicate (n - length ws) 0
unfolding over
over_zeros n ws = ap (λ (t : List ℕ). ws ++ t) (drop-replicate (0 + length ws) n 0 ∙ ap (λ k. replicate (n - k) 0) (omega arith))

-- zeros with two pieces written over them that fill them up
pub filled : (n at : ℕ) (bs cs xs ys : List ℕ) → bs ≡ over (replicate n 0) 0 xs → cs ≡ over bs at ys → length xs ≡ at → at + length ys ≡ n → cs ≡ xs ++ ys
filled n at bs cs xs ys first second behind full =
    let l = length-append xs ys in
    second
    ∙ (ap (λ (t : List ℕ). over t at ys) first
    ∙ (ap (λ k. over (over (replicate n 0) 0 xs) k ys) {y = 0 + length xs} (omega arith)
    ∙ (over_join (replicate n 0) 0 xs ys (omega (arith, length-replicate {A = ℕ} n 0))
    ∙ (over_zeros n (xs ++ ys)
    ∙ (ap (λ k. (xs ++ ys) ++ replicate k 0) {y = 0} (omega arith) ∙ append-nil (xs ++ ys))))))
