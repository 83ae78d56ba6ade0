-- Blocks one behind another. Assumes nothing.
use Rattle.std.proofs.Common.{◌≡◌, ℕ, zero, suc, ◌+◌, ◌*◌, ◌/◌, ◌<◌, ◌≤◌, List, [], ◌∷◌, ◌++◌, length, take, drop, sym, refl, ap, ◌∙◌, ⊎_elim, zero-add, arith}
use Rattle.std.specs.List.{range_with_len, flat_map}
use Rattle.std.proofs.lemmas.List.FromFn.{map-range_with_len_more}
use Rattle.std.proofs.lemmas.List.{map-id, length-append, length-take, length-drop, flat_map_more, take_all, take_at, take-take, take-append-le, drop-append-le, length_push}
use Rattle.std.proofs.lemmas.Bool.{cases_lt}
use Rattle.table.specs.Text.{over}
use Rattle.table.specs.Binary.{block_bytes, rows_of_block, block_count, binary_bytes}
use Rattle.table.proofs.Written.{take_over}
use Rattle.table.proofs.Blocks.{length_block}

counting_push : (a n : ℕ) → range_with_len a (n + 1) ≡ range_with_len a n ++ ((a + n) ∷ [])
counting_push a n =
    sym (map-id (range_with_len a (n + 1)))
    ∙ (map-range_with_len_more (λ x. x) a n (a + n) refl ∙ ap (λ l. l ++ ((a + n) ∷ [])) (map-id (range_with_len a n)))

pub joined_next : (f : ℕ → List ℕ) (n : ℕ) → flat_map f (range_with_len 0 (n + 1)) ≡ flat_map f (range_with_len 0 n) ++ f n
joined_next f n =
    ap (flat_map f) (counting_push 0 n)
    ∙ (sym (flat_map_more f [] (range_with_len 0 n) (0 + n)) ∙ ap (λ k. flat_map f (range_with_len 0 n) ++ f k) (zero-add n))

joined_same : (f g : ℕ → List ℕ) (a n : ℕ) → ((j : ℕ) → j < a + n → f j ≡ g j) → flat_map f (range_with_len a n) ≡ flat_map g (range_with_len a n)
joined_same f g a zero same = refl
joined_same f g a (suc n) same =
    ap (λ t. t ++ flat_map f (range_with_len (a + 1) n)) (same a (omega arith))
    ∙ ap (λ t. g a ++ t) (joined_same f g (a + 1) n (λ j h. same j (omega arith)))

-- the blocks of these rows
abbrev pub block_of : List (ℕ × ℕ) → ℕ → List ℕ
block_of rs k = block_bytes k (rows_of_block rs k)

pub length_block_of : (rs : List (ℕ × ℕ)) (k : ℕ) → length (block_of rs k) ≡ 512
length_block_of rs k = length_block k (rows_of_block rs k) (omega (arith, length-take 62 (drop (62 * k) rs)))

pub length_stack : (rs : List (ℕ × ℕ)) (a n : ℕ) → length (flat_map (block_of rs) (range_with_len a n)) ≡ 512 * n
length_stack rs a zero = refl
length_stack rs a (suc n) =
    omega (
      arith,
      length-append (block_of rs a) (flat_map (block_of rs) (range_with_len (a + 1) n)),
      length_block_of rs a,
      length_stack rs (a + 1) n,
    )

pub length_binary : (rs : List (ℕ × ℕ)) → length (binary_bytes rs) ≡ 512 * block_count (length rs)
unfolding binary_bytes
length_binary rs = length_stack rs 0 (block_count (length rs))

-- the full blocks of a table, which are all of it or all but the last
pub full_blocks : (rs : List (ℕ × ℕ)) → take (512 * (length rs / 62)) (binary_bytes rs) ≡ flat_map (block_of rs) (range_with_len 0 (length rs / 62))
unfolding binary_bytes
full_blocks rs =
    let k = length rs / 62 in
    let front = length_stack rs 0 k in
    ⊎_elim
    (λ (lt : 62 * k < length rs).
    let e : block_count (length rs) ≡ k + 1 = omega arith in
    ap (λ n. take (512 * k) (flat_map (block_of rs) (range_with_len 0 n))) e
    ∙ (ap (take (512 * k)) (joined_next (block_of rs) k) ∙ take_at (flat_map (block_of rs) (range_with_len 0 k)) (block_of rs k) (512 * k) front))
    (λ (le : length rs ≤ 62 * k).
    let e : block_count (length rs) ≡ k = omega arith in
    ap (λ n. take (512 * k) (flat_map (block_of rs) (range_with_len 0 n))) e
    ∙ take_all (512 * k) (flat_map (block_of rs) (range_with_len 0 k)) (omega (arith, front)))
    (cases_lt (62 * k) (length rs))

-- one row more leaves the full blocks
same_rows : (rs : List (ℕ × ℕ)) (r : ℕ × ℕ) (j : ℕ) → j < length rs / 62 → rows_of_block rs j ≡ rows_of_block (rs ++ (r ∷ [])) j
same_rows rs r j h =
    sym
    (ap (take 62) (drop-append-le (62 * j) rs (r ∷ []) (omega arith))
    ∙ take-append-le 62 (drop (62 * j) rs) (r ∷ []) (omega (arith, length-drop (62 * j) rs)))

-- one row more: the full blocks, and the block that it falls into
pub binary_more : (rs : List (ℕ × ℕ)) (r : ℕ × ℕ) → take (512 * (length rs / 62)) (binary_bytes rs) ++ block_of (rs ++ (r ∷ [])) (length rs / 62) ≡ binary_bytes (rs ++ (r ∷ []))
unfolding binary_bytes
binary_more rs r =
    let k = length rs / 62 in
    let more = rs ++ (r ∷ []) in
    let e : k + 1 ≡ block_count (length more) = omega (arith, length_push rs r) in
    ap (λ t. t ++ block_of more k)
    (full_blocks rs ∙ joined_same (block_of rs) (block_of more) 0 k (λ j h. ap (block_bytes j) (same_rows rs r j (omega arith))))
    ∙ (sym (joined_next (block_of more) k) ∙ ap (λ n. flat_map (block_of more) (range_with_len 0 n)) e)

-- the rows of the block that the new row falls into
pub last_rows : (rs : List (ℕ × ℕ)) (r : ℕ × ℕ) → drop (62 * (length rs / 62)) (rs ++ (r ∷ [])) ≡ rows_of_block (rs ++ (r ∷ [])) (length rs / 62)
last_rows rs r = sym (take_all 62 _ (omega (arith, length_push rs r, length-drop (62 * (length rs / 62)) (rs ++ (r ∷ [])))))

-- a row put into the block at place n / 62
pub blocks_more : (bs : List ℕ) (rs : List (ℕ × ℕ)) (r : ℕ × ℕ) → 512 * (length rs / 62) ≤ length bs → take (512 * block_count (length rs)) bs ≡ binary_bytes rs → take (512 * block_count (length (rs ++ (r ∷ [])))) (over bs (512 * (length rs / 62)) (block_of (rs ++ (r ∷ [])) (length rs / 62))) ≡ binary_bytes (rs ++ (r ∷ []))
blocks_more bs rs r room e =
    let k = length rs / 62 in
    let new = block_of (rs ++ (r ∷ [])) k in
    let far : 512 * block_count (length (rs ++ (r ∷ []))) ≡ 512 * k + length new = omega (arith, length_push rs r, length_block_of (rs ++ (r ∷ [])) k) in
    ap (λ n. take n (over bs (512 * k) new)) far
    ∙ (take_over bs (512 * k) new room
    ∙ (ap (λ (t : List ℕ). t ++ new) (sym (take-take (512 * k) (512 * block_count (length rs)) bs (omega arith)) ∙ ap (take (512 * k)) e)
    ∙ binary_more rs r))
