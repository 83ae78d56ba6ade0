-- Rows that were written are read back. Assumes nothing.
use Rattle.std.proofs.Common.{◌≡◌, ℕ, zero, suc, ◌+◌, ◌-◌, ◌*◌, ◌/◌, ◌%◌, ◌<◌, ◌≤◌, Bool, true, false, ◌⊎◌, List, [], ◌∷◌, ◌++◌, length, get_or, take, drop, replicate, Ok, sym, refl, ap, ◌∙◌, inl, inr, ⊎_elim, arith}
use Rattle.std.specs.List.{range_with_len, flat_map}
use Rattle.std.specs.Result.{result_and}
use Rattle.std.proofs.lemmas.Slice.Eq.{bytes_eq-Decides}
use Rattle.std.proofs.lemmas.List.{append_assoc, append-nil, length-append, length-take, length-drop, take-append-drop, take_at, drop_at, nil_from_length, length_push}
use Rattle.std.proofs.lemmas.Bool.{cases_eq, cond-true, cond-false, le-leb, eq-eqb, and_from, or_left, or_right}
use Rattle.table.specs.Rows.{count_at, level_at, bytes_after}
use Rattle.table.specs.Convert.{Rising}
use Rattle.table.specs.Text.{over}
use Rattle.table.specs.Binary.{row_bytes, block_places, block_body, sum_bytes, block_bytes, rows_of_block, block_count, binary_bytes, binary_room, binary_extended}
use Rattle.table.specs.Opening.{rows_read, block_rows, row_after, least_after, row_follows, first_stray, sums_right, body_right, block_answer, opened_from, opened, Orderable, ReadsBack}
use Rattle.table.proofs.Asks.{answer_taken}
use Rattle.table.proofs.Blocks.{length_body}
use Rattle.table.proofs.Opens.{opened_whole}
use Rattle.table.proofs.Order.{least_join}
use Rattle.table.proofs.Stacked.{block_of, length_block_of, length_stack, blocks_more}
use Rattle.table.proofs.Written.{length_over}

-- counts and levels that their bytes have room for
abbrev Low : List (ℕ × ℕ) → Type 0
Low [] = Unit {0}
Low (r ∷ rs) = ((r.0 ≤ 16777215) × (r.1 ≤ 65535)) × Low rs

low_from : (rs : List (ℕ × ℕ)) → ((i : ℕ) → i < length rs → count_at rs i ≤ 16777215) → ((i : ℕ) → i < length rs → level_at rs i ≤ 65535) → Low rs
low_from [] counts levels = tt
low_from (r ∷ rs) counts levels =
    ((counts 0 (omega arith), levels 0 (omega arith)), low_from rs (λ i h. counts (suc i) (omega arith)) (λ i h. levels (suc i) (omega arith)))

low_parts : (rs ss : List (ℕ × ℕ)) → Low (rs ++ ss) → Low rs × Low ss
low_parts [] ss h = (tt, h)
low_parts (r ∷ rs) ss h = let p = low_parts rs ss h.1 in ((h.0, p.0), p.1)

rows_back : (rs : List (ℕ × ℕ)) (bs : List ℕ) → Low rs → rows_read (length rs) (flat_map row_bytes rs ++ bs) ≡ rs
rows_back [] bs low = refl
rows_back (r ∷ rs) bs low =
    let count : r.0 % 256 + r.0 / 256 % 256 * 256 + r.0 / 65536 % 256 * 65536 + r.0 / 16777216 % 256 * 16777216 ≡ r.0 = omega (arith, low.0.0) in
    let level : r.1 % 256 + r.1 / 256 % 256 * 256 ≡ r.1 = omega (arith, low.0.1) in
    λ i. (count i, level i) ∷ rows_back rs bs low.1 i

-- the block of these rows, taken apart again
module _ (k : ℕ) (rs : List (ℕ × ℕ)) (few : length rs ≤ 62) where
  body_back : take 508 (block_bytes k rs) ≡ block_body k rs
  unfolding block_bytes
  body_back = take_at (block_body k rs) (sum_bytes (block_body k rs)) 508 (length_body k rs few)

  sums_back : drop 508 (block_bytes k rs) ≡ sum_bytes (take 508 (block_bytes k rs))
  unfolding block_bytes
  sums_back = drop_at (block_body k rs) (sum_bytes (block_body k rs)) 508 (length_body k rs few) ∙ ap sum_bytes (sym body_back)

  count_back : get_or (block_bytes k rs) 2 0 ≡ length rs
  unfolding block_bytes block_body
  count_back = refl

  places_back : drop 8 (block_bytes k rs) ≡ flat_map row_bytes rs ++ (replicate (500 - 8 * length rs) 0 ++ sum_bytes (block_body k rs))
  unfolding block_bytes block_body block_places
  places_back = append_assoc (flat_map row_bytes rs) (replicate (500 - 8 * length rs) 0) (sum_bytes (block_body k rs))

  own_rows : Low rs → block_rows (block_bytes k rs) ≡ rs
  own_rows low = (λ i. rows_read (count_back i) (places_back i)) ∙ rows_back rs _ low

  accepted : (left : ℕ) (before : List (ℕ × ℕ)) → Low rs → 1 ≤ length rs → (left ≡ 0) ⊎ (length rs ≡ 62) → length before + length rs ≤ 1024 → first_stray (least_after (0, 0) before) rs ≡ length rs → Ok tt ≡ block_answer left k before (block_bytes k rs)
  unfolding sums_right body_right
  accepted left before low some full room order =
      let own = own_rows low in
      let n = count_back in
      answer_taken left k before (block_bytes k rs)
      ((bytes_eq-Decides _ _).1 sums_back)
      (and_from _ _
      (and_from _ _ (le-leb 1 (get_or (block_bytes k rs) 2 0) (omega (arith, n)))
      (and_from _ _ (le-leb (get_or (block_bytes k rs) 2 0) 62 (omega (arith, n)))
      (and_from _ _
      (⊎_elim
      (λ (last : left ≡ 0). or_left _ _ (eq-eqb left 0 last))
      (λ (all : length rs ≡ 62). or_right _ _ (eq-eqb (get_or (block_bytes k rs) 2 0) 62 (n ∙ all)))
      full)
      (le-leb (length before + get_or (block_bytes k rs) 2 0) 1024 (omega (arith, n))))))
      ((bytes_eq-Decides _ _).1 (body_back ∙ ap (block_body k) (sym own))))
      (eq-eqb _ _ (ap (first_stray (least_after (0, 0) before)) own ∙ (order ∙ ap length (sym own))))

-- rows in order, in two parts
order_parts : (least : ℕ × ℕ) (rs ss : List (ℕ × ℕ)) → first_stray least (rs ++ ss) ≡ length (rs ++ ss) → (first_stray least rs ≡ length rs) × (first_stray (least_after least rs) ss ≡ length ss)
order_parts least [] ss h = (refl, h)
order_parts least (r ∷ rs) ss h = go (row_follows least r) refl (order_parts (row_after r) rs ss)
  where
    go : (b : Bool) → row_follows least r ≡ b → (first_stray (row_after r) (rs ++ ss) ≡ length (rs ++ ss) → (first_stray (row_after r) rs ≡ length rs) × (first_stray (least_after (row_after r) rs) ss ≡ length ss)) → (first_stray least (r ∷ rs) ≡ suc (length rs)) × (first_stray (least_after (row_after r) rs) ss ≡ length ss)
    go true e next =
        let p = next (omega (arith, h, cond-true _ (suc (first_stray (row_after r) (rs ++ ss))) 0 e)) in
        (cond-true _ _ _ e ∙ ap suc p.0, p.1)
    go false e next = absurd (omega (arith, h, cond-false _ (suc (first_stray (row_after r) (rs ++ ss))) 0 e))

in_order : (least : ℕ × ℕ) (rs : List (ℕ × ℕ)) → ((i : ℕ) → i < length rs → (least.0 ≤ count_at rs i) × (least.1 ≤ level_at rs i)) → Rising rs → ((i : ℕ) → i < length rs → count_at rs i ≤ 16777215) → first_stray least rs ≡ length rs
in_order least [] above rising counts = refl
in_order least (r ∷ rs) above rising counts =
    let here = above 0 (omega arith) in
    cond-true _ _ _
    (and_from _ _ (le-leb least.0 r.0 here.0)
    (and_from _ _ (le-leb r.0 16777215 (counts 0 (omega arith))) (le-leb least.1 r.1 here.1)))
    ∙ ap suc
    (in_order (row_after r) rs
    (λ i h. let up = rising 0 (suc i) (omega arith) (omega arith) in (omega (arith, up.0), up.1))
    (λ i j lt h. rising (suc i) (suc j) (omega arith) (omega arith))
    (λ i h. counts (suc i) (omega arith)))

-- n blocks from block k on, behind the rows done
back : (all : List (ℕ × ℕ)) (n k : ℕ) (done rest : List (ℕ × ℕ)) → all ≡ done ++ rest → (0 < n → length done ≡ 62 * k) → 62 * n ≤ length rest + 61 → length rest ≤ 62 * n → length all ≤ 1024 → Low rest → first_stray (least_after (0, 0) done) rest ≡ length rest → opened_from n k done (flat_map (block_of all) (range_with_len k n)) ≡ Ok all
back all zero k done rest e before least most few low order =
    let none : rest ≡ [] = nil_from_length rest (omega arith) in
    ap Ok (sym (e ∙ (ap (λ (t : List (ℕ × ℕ)). done ++ t) none ∙ append-nil done)))
back all (suc n) k done rest e before least most few low order =
    let new = take 62 rest in
    let later = drop 62 rest in
    let ln = length-take 62 rest in
    let ll = length-drop 62 rest in
    let la : length all ≡ length done + length rest = ap length e ∙ length-append done rest in
    let parted : new ++ later ≡ rest = take-append-drop 62 rest in
    let lows = low_parts new later (rw parted low) in
    let orders = order_parts (least_after (0, 0) done) new later (rw parted order) in
    let own : rows_of_block all k ≡ new = ap (take 62) (ap (drop (62 * k)) e ∙ drop_at done rest (62 * k) (before (omega arith))) in
    let stack = flat_map (block_of all) (range_with_len (k + 1) n) in
    let first : take 512 (block_of all k ++ stack) ≡ block_bytes k new = take_at (block_of all k) stack 512 (length_block_of all k) ∙ ap (block_bytes k) own in
    let second : drop 512 (block_of all k ++ stack) ≡ stack = drop_at (block_of all k) stack 512 (length_block_of all k) in
    let full : (n ≡ 0) ⊎ (length new ≡ 62) = ⊎_elim (λ (z : n ≡ 0). inl z) (λ (more : n ≡ 0 → ⊥). inr (omega arith)) (cases_eq n 0) in
    let taken = accepted k new (omega arith) n done lows.0 (omega arith) full (omega arith) orders.0 in
    (λ i. result_and (block_answer n k done (first i)) (opened_from n (k + 1) (done ++ block_rows (first i)) (second i)))
    ∙ ((λ i. result_and (sym taken i) (opened_from n (k + 1) (done ++ own_rows k new (omega arith) lows.0 i) stack))
    ∙ back all n (k + 1) (done ++ new) later
    (e ∙ (ap (λ (t : List (ℕ × ℕ)). done ++ t) (sym parted) ∙ sym (append_assoc done new later)))
    (λ some. omega (arith, length-append done new, before (omega arith)))
    (omega arith) (omega arith) few lows.1
    (ap (λ l. first_stray l later) (least_join (0, 0) done new) ∙ orders.1))

blocks_back : (rs : List (ℕ × ℕ)) → Orderable rs → opened (binary_bytes rs) ≡ Ok rs
unfolding binary_bytes
blocks_back rs o =
    let n = block_count (length rs) in
    let bytes = flat_map (block_of rs) (range_with_len 0 n) in
    let long : length bytes ≡ 512 * n = length_stack rs 0 n in
    opened_whole bytes (omega (arith, long)) (omega (arith, long, o.few))
    ∙ (ap (λ m. opened_from m 0 [] bytes) {y = n} (omega (arith, long))
    ∙ back rs n 0 [] rs refl (λ h. refl) (omega arith) (omega arith) o.few
    (low_from rs o.counts o.levels)
    (in_order (0, 0) rs (λ i h. (omega arith, omega arith)) o.rising o.counts))

-- rows put one by one behind those before leave the blocks of all of them
put_blocks : (bs : List ℕ) (before rs : List (ℕ × ℕ)) → length before + length rs ≤ binary_room bs → take (512 * block_count (length before)) bs ≡ binary_bytes before → take (512 * block_count (length (before ++ rs))) (bytes_after binary_extended bs before rs) ≡ binary_bytes (before ++ rs)
put_blocks bs before [] room e = ap (λ (xs : List (ℕ × ℕ)). take (512 * block_count (length xs)) bs) (append-nil before) ∙ (e ∙ ap binary_bytes (sym (append-nil before)))
put_blocks bs before (r ∷ rs) room e =
    let k = length before / 62 in
    let block = block_of (before ++ (r ∷ [])) k in
    let new = over bs (512 * k) block in
    let wide = length_block_of (before ++ (r ∷ [])) k in
    let kept : length new ≡ length bs = length_over bs (512 * k) block (omega (arith, wide)) in
    let one = append_assoc before (r ∷ []) rs in
    ap (λ (xs : List (ℕ × ℕ)). take (512 * block_count (length xs)) (bytes_after binary_extended new (before ++ (r ∷ [])) rs)) (sym one)
    ∙ (put_blocks new (before ++ (r ∷ [])) rs (omega (arith, length_push before r, kept)) (blocks_more bs before r (omega arith) e) ∙ ap binary_bytes one)

pub reads_back : ReadsBack
unfolding binary_bytes
reads_back bs rs o room = ap opened (put_blocks bs [] rs (omega arith) refl) ∙ blocks_back rs o
