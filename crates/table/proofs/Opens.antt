-- Opening, one block further. Assumes nothing.
use Rattle.std.proofs.Common.{◌≡◌, ℕ, suc, ◌+◌, ◌/◌, ◌%◌, ◌<◌, ◌≤◌, ◌&&◌, List, [], ◌++◌, length, take, drop, Err, Result, sym, ap, ◌∙◌, arith}
use Rattle.std.specs.Result.{result_and}
use Rattle.std.proofs.lemmas.List.{take_at, drop_at}
use Rattle.std.proofs.lemmas.Bool.{cond-true, cond-false, eq-eqb, ne_eqb, le-leb, lt-leb, and_left}
use Rattle.fault.specs.declared.Question.TheVariants.{OpenLength}
use Rattle.fault.specs.declared.Fault.{Fault}
use Rattle.fault.specs.Numbers.{outside_text}
use Rattle.table.specs.Opening.{block_rows, block_answer, opened_from, opened}

pub opened_whole : (bs : List ℕ) → length bs % 512 ≡ 0 → length bs ≤ 8704 → opened bs ≡ opened_from (length bs / 512) 0 [] bs
unfolding opened
opened_whole bs whole short = cond-true _ _ _ (λ i. eq-eqb (length bs % 512) 0 whole i && le-leb (length bs) 8704 short i)

pub opened_ragged : (bs : List ℕ) → (length bs % 512 ≡ 0 → ⊥) → opened bs ≡ Err (outside_text OpenLength)
unfolding opened
opened_ragged bs ragged = cond-false _ _ _ (and_left _ _ (ne_eqb (length bs % 512) 0 ragged))

pub opened_long : (bs : List ℕ) → length bs % 512 ≡ 0 → 8704 < length bs → opened bs ≡ Err (outside_text OpenLength)
unfolding opened
opened_long bs whole long = cond-false _ _ _ (λ i. eq-eqb (length bs % 512) 0 whole i && lt-leb (length bs) 8704 long i)

-- block k, b, with the rows rs before it and n blocks behind it; r is what it answers
pub step : (n m k : ℕ) (rs : List (ℕ × ℕ)) (bs b rest : List ℕ) (r : Result (Unit {0}) Fault) → m ≡ n + 1 → bs ≡ b ++ rest → length b ≡ 512 → r ≡ block_answer n k rs b → opened_from m k rs bs ≡ result_and r (opened_from n (k + 1) (rs ++ block_rows b) rest)
step n m k rs bs b rest r next parted whole answer =
    let count : m ≡ suc n = omega arith in
    let first : take 512 bs ≡ b = ap (take 512) parted ∙ take_at b rest 512 whole in
    let second : drop 512 bs ≡ rest = ap (drop 512) parted ∙ drop_at b rest 512 whole in
    ap (λ i. opened_from i k rs bs) count
    ∙ ((λ i. result_and (block_answer n k rs (first i)) (opened_from n (k + 1) (rs ++ block_rows (first i)) (second i)))
    ∙ ap (λ a. result_and a (opened_from n (k + 1) (rs ++ block_rows b) rest)) (sym answer))
