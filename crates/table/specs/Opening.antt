-- What opening bytes as a table answers: its questions, block by block. Assumes nothing.
use Rattle.std.specs.Prelude.{◌≡◌, ℕ, zero, suc, ◌+◌, ◌*◌, ◌/◌, ◌%◌, ◌<◌, ◌≤◌, Bool, cond, ◌&&◌, ◌||◌, List, [], ◌∷◌, ◌++◌, length, take, drop, Ok, Err, Result, ◌==◌, nat_le, slice_index}
use Rattle.std.specs.Result.{result_and}
use Rattle.std.specs.Str.{bytes_eq}
use Rattle.fault.specs.declared.Question.{Question}
use Rattle.fault.specs.declared.Question.TheVariants.{OpenLength, OpenSums, OpenLayout, OpenOrder}
use Rattle.fault.specs.declared.Fault.{Fault}
use Rattle.fault.specs.Numbers.{outside_text}
use Rattle.table.specs.Rows.{count_at, level_at, bytes_after}
use Rattle.table.specs.Convert.{Rising}
use Rattle.table.specs.Binary.{block_body, sum_bytes, block_count, binary_bytes, binary_room, binary_extended}

-- the row in the first bytes, and so many rows one behind another
abbrev pub row_read : List ℕ → ℕ × ℕ
row_read bs =
    (slice_index bs 0 + slice_index bs 1 * 256 + slice_index bs 2 * 65536 + slice_index bs 3 * 16777216, slice_index bs 4 + slice_index bs 5 * 256)

abbrev pub rows_read : ℕ → List ℕ → List (ℕ × ℕ)
rows_read zero bs = []
rows_read (suc n) bs = row_read bs ∷ rows_read n (drop 8 bs)

-- the rows that a block says it has: byte 2 says how many
abbrev pub block_rows : List ℕ → List (ℕ × ℕ)
block_rows b = rows_read (slice_index b 2) (drop 8 b)

-- the least count and level that a row may have: any at first, and after a row a higher count and no lower level
abbrev pub row_after : ℕ × ℕ → ℕ × ℕ
row_after r = (r.0 + 1, r.1)

abbrev pub least_after : ℕ × ℕ → List (ℕ × ℕ) → ℕ × ℕ
least_after least [] = least
least_after least (r ∷ rs) = least_after (row_after r) rs

abbrev pub row_follows : ℕ × ℕ → ℕ × ℕ → Bool
row_follows least r = nat_le least.0 r.0 && (nat_le r.0 16777215 && nat_le least.1 r.1)

-- how many rows stand before the first that is out of order
abbrev pub first_stray : ℕ × ℕ → List (ℕ × ℕ) → ℕ
first_stray least [] = 0
first_stray least (r ∷ rs) = cond (row_follows least r) (suc (first_stray (row_after r) rs)) 0

unfoldable pub sums_right : List ℕ → Bool
sums_right b = bytes_eq (drop 508 b) (sum_bytes (take 508 b))

-- a block has 62 rows, and the last 1 to 62; `left` blocks are behind it and `before` rows in those before it
abbrev pub count_right : ℕ → ℕ → ℕ → Bool
count_right left before n = nat_le 1 n && (nat_le n 62 && ((left == 0 || n == 62) && nat_le (before + n) 1024))

-- all but the sums is what block k is with these rows
unfoldable pub body_right : ℕ → List ℕ → List (ℕ × ℕ) → Bool
body_right k b rs = bytes_eq (take 508 b) (block_body k rs)

-- a refusal at block k, counted from 0
abbrev pub in_block : Question → ℕ → ℕ → Fault
in_block q k n = record { question = q; line = k + 1; column = n }

-- the questions to block k, where `left` blocks are behind it and the rows rs in those before it
abbrev pub block_asks : ℕ → ℕ → List (ℕ × ℕ) → List ℕ → List (Fault × Bool)
block_asks left k rs b =
    let stray = first_stray (least_after (0, 0) rs) (block_rows b) in
    (in_block OpenSums k 0, sums_right b)
    ∷ (in_block OpenLayout k 0, count_right left (length rs) (slice_index b 2) && body_right k b (block_rows b))
    ∷ (in_block OpenOrder k (stray + 1), (stray == length (block_rows b)))
    ∷ []

abbrev pub first_no : List (Fault × Bool) → Result (Unit {0}) Fault
first_no [] = Ok tt
first_no (q ∷ qs) = cond q.1 (first_no qs) (Err q.0)

unfoldable pub block_answer : ℕ → ℕ → List (ℕ × ℕ) → List ℕ → Result (Unit {0}) Fault
block_answer left k rs b = first_no (block_asks left k rs b)

-- n blocks are left, from block k on, with the rows rs before it
abbrev pub opened_from : ℕ → ℕ → List (ℕ × ℕ) → List ℕ → Result (List (ℕ × ℕ)) Fault
opened_from zero k rs bs = Ok rs
opened_from (suc n) k rs bs =
    result_and (block_answer n k rs (take 512 bs)) (opened_from n (k + 1) (rs ++ block_rows (take 512 bs)) (drop 512 bs))

abbrev pub whole_blocks : List ℕ → Bool
whole_blocks bs = length bs % 512 == 0 && nat_le (length bs) 8704

unfoldable pub opened : List ℕ → Result (List (ℕ × ℕ)) Fault
opened bs = cond (whole_blocks bs) (opened_from (length bs / 512) 0 [] bs) (Err (outside_text OpenLength))

-- rows as an opened table may have them
pub record Orderable (rs : List (ℕ × ℕ)) : Type 0 where
  pub few : length rs ≤ 1024
  pub rising : Rising rs
  pub counts : (i : ℕ) → i < length rs → count_at rs i ≤ 16777215
  pub levels : (i : ℕ) → i < length rs → level_at rs i ≤ 65535

-- what is put, row by row, into memory that has room for it is read back from the blocks in use
abbrev pub ReadsBack : Type 0
ReadsBack =
    (bs : List ℕ) (rs : List (ℕ × ℕ)) → Orderable rs → length rs ≤ binary_room bs → opened (take (512 * block_count (length rs)) (bytes_after binary_extended bs [] rs)) ≡ Ok rs

-- nothing but what would be written is accepted
abbrev pub OnlyThat : Type 0
OnlyThat = (bs : List ℕ) (rs : List (ℕ × ℕ)) → opened bs ≡ Ok rs → bs ≡ binary_bytes rs
