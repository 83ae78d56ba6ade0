-- Bytes that are accepted are what writing their rows gives. Assumes nothing.
use Rattle.std.proofs.Common.{◌≡◌, ℕ, zero, suc, ◌+◌, ◌*◌, ◌/◌, ◌%◌, ◌<◌, ◌≤◌, ◌⊎◌, List, [], ◌++◌, length, get_or, take, drop, Ok, Err, Result, sym, refl, ap, ◌∙◌, subst, ⊎_elim, arith}
use Rattle.std.specs.List.{range_with_len, flat_map}
use Rattle.std.specs.Result.{result_and}
use Rattle.std.proofs.lemmas.Slice.Eq.{bytes_eq-Decides}
use Rattle.std.proofs.lemmas.List.{append_assoc, append-nil, length-append, length-drop, take-append-drop, take_all, take_at, drop_at, nil_from_length}
use Rattle.std.proofs.lemmas.Bool.{and_parts, eqb-true}
use Rattle.fault.specs.declared.Fault.{Fault}
use Rattle.table.specs.Binary.{block_body, sum_bytes, block_bytes, rows_of_block, block_count, binary_bytes}
use Rattle.table.specs.Opening.{block_rows, sums_right, body_right, block_answer, opened_from, opened, OnlyThat}
use Rattle.table.proofs.Asks.{length_rows_read, count_parts}
use Rattle.table.proofs.Rises.{yes_all}
use Rattle.table.proofs.Stacked.{block_of}

-- a call that goes on after another has both accepted
accepted_both : {X : Type 0} (r : Result (Unit {0}) Fault) (s : Result X Fault) (x : X) → result_and r s ≡ Ok x → (r ≡ Ok tt) × (s ≡ Ok x)
accepted_both (Ok u) s x e = (refl, e)
accepted_both (Err f) s x e = absurd (cc)

-- what an accepted block shows
pub record Taken (left k : ℕ) (rs : List (ℕ × ℕ)) (b : List ℕ) : Type 0 where
  pub bytes : b ≡ block_bytes k (block_rows b)
  pub some : 1 ≤ length (block_rows b)
  pub few : length (block_rows b) ≤ 62
  pub full : (left ≡ 0) ⊎ (length (block_rows b) ≡ 62)
  pub room : length rs + length (block_rows b) ≤ 1024

pub taken : (left k : ℕ) (rs : List (ℕ × ℕ)) (b : List ℕ) → block_answer left k rs b ≡ Ok tt → Taken left k rs b
unfolding block_answer sums_right body_right block_bytes
taken left k rs b e =
    let sums = yes_all _ _ _ tt e in
    let layout = and_parts _ _ (yes_all _ _ _ tt sums.1).0 in
    let n : get_or b 2 0 ≡ length (block_rows b) = sym (length_rows_read (get_or b 2 0) (drop 8 b)) in
    let parts = subst (λ m. (1 ≤ m) × (m ≤ 62) × ((left ≡ 0) ⊎ (m ≡ 62)) × (length rs + m ≤ 1024)) n (count_parts left (length rs) (get_or b 2 0) layout.0) in
    let body : take 508 b ≡ block_body k (block_rows b) = (bytes_eq-Decides (take 508 b) (block_body k (block_rows b))).0 layout.1 in
    let ends : drop 508 b ≡ sum_bytes (take 508 b) = (bytes_eq-Decides (drop 508 b) (sum_bytes (take 508 b))).0 sums.0 in
    record {
      bytes = sym (take-append-drop 508 b) ∙ (λ i. body i ++ (ends ∙ ap sum_bytes body) i);
      some = parts.0;
      few = parts.1;
      full = parts.2;
      room = parts.3;
    }

-- what is known of n blocks from block k on, behind the rows rs, that end up as all rows
record Known (n k : ℕ) (rs all : List (ℕ × ℕ)) (bs : List ℕ) : Type 0 where
  rest : List (ℕ × ℕ)
  rows : all ≡ rs ++ rest
  bytes : bs ≡ flat_map (block_of all) (range_with_len k n)
  least : 62 * n ≤ length rest + 61
  most : length rest ≤ 62 * n
  few : length rs ≤ 1024 → length all ≤ 1024

-- the rows of a block stand in all rows where they should
own_rows : (rs new rest all : List (ℕ × ℕ)) (n k : ℕ) → all ≡ (rs ++ new) ++ rest → length rs ≡ 62 * k → length new ≤ 62 → length rest ≤ 62 * n → (n ≡ 0) ⊎ (length new ≡ 62) → rows_of_block all k ≡ new
own_rows rs new rest all n k e before few behind full =
    ap (take 62)
    (ap (drop (62 * k)) (e ∙ append_assoc rs new rest) ∙ drop_at rs (new ++ rest) (62 * k) before)
    ∙ ⊎_elim
    (λ (last : n ≡ 0).
    let none : rest ≡ [] = nil_from_length rest (omega arith) in
    ap (λ (t : List (ℕ × ℕ)). take 62 (new ++ t)) none ∙ (ap (take 62) (append-nil new) ∙ take_all 62 new few))
    (λ (all62 : length new ≡ 62). take_at new rest 62 all62)
    full

all_known : (n k : ℕ) (rs all : List (ℕ × ℕ)) (bs : List ℕ) → length bs ≡ 512 * n → (0 < n → length rs ≡ 62 * k) → opened_from n k rs bs ≡ Ok all → Known n k rs all bs
all_known zero k rs all bs long before e =
    let same : rs ≡ all = cc in
    record { rest = []; rows = sym same ∙ sym (append-nil rs); bytes = nil_from_length bs long; least = omega arith; most = omega arith; few = λ h. omega (arith, ap length same) }
all_known (suc n) k rs all bs long before e =
    let b = take 512 bs in
    let new = block_rows b in
    let both = accepted_both (block_answer n k rs b) _ all e in
    let t = taken n k rs b both.0 in
    let next : 0 < n → length (rs ++ new) ≡ 62 * (k + 1) =
    λ some. ⊎_elim
    (λ (z : n ≡ 0). absurd (omega arith))
    (λ (full : length new ≡ 62). omega (arith, length-append rs new, before (omega arith)))
    t.full in
    let ih = all_known n (k + 1) (rs ++ new) all (drop 512 bs) (omega (arith, length-drop 512 bs)) next both.1 in
    let own = own_rows rs new ih.rest all n k ih.rows (before (omega arith)) t.few ih.most t.full in
    let sized : (62 * suc n ≤ length (new ++ ih.rest) + 61) × (length (new ++ ih.rest) ≤ 62 * suc n) =
    ⊎_elim
    (λ (z : n ≡ 0). (omega (arith, length-append new ih.rest, t.some), omega (arith, length-append new ih.rest, t.few, ih.most)))
    (λ (full : length new ≡ 62). (omega (arith, length-append new ih.rest, ih.least), omega (arith, length-append new ih.rest, ih.most)))
    t.full in
    record {
      rest = new ++ ih.rest;
      rows = ih.rows ∙ append_assoc rs new ih.rest;
      bytes =
          sym (take-append-drop 512 bs)
          ∙ (λ i. (t.bytes ∙ ap (block_bytes k) (sym own)) i ++ ih.bytes i);
      least = sized.0;
      most = sized.1;
      few = λ h. ih.few (omega (arith, length-append rs new, t.room));
    }

known : (bs : List ℕ) (rs : List (ℕ × ℕ)) → opened bs ≡ Ok rs → Known (length bs / 512) 0 [] rs bs
unfolding opened
known bs rs e =
    let q = yes_all _ _ _ rs e in
    let whole = eqb-true (length bs % 512) 0 (and_parts _ _ q.0).0 in
    all_known (length bs / 512) 0 [] rs bs (omega (arith, whole)) (λ h. refl) q.1

pub only_that : OnlyThat
unfolding binary_bytes
only_that bs rs e =
    let kept = known bs rs e in
    let blocks : length bs / 512 ≡ block_count (length rs) = omega (arith, ap length kept.rows, kept.least, kept.most) in
    kept.bytes ∙ ap (λ m. flat_map (block_of rs) (range_with_len 0 m)) blocks

pub opened_few : (bs : List ℕ) (rs : List (ℕ × ℕ)) → opened bs ≡ Ok rs → length rs ≤ 1024
opened_few bs rs e = (known bs rs e).few (omega arith)
