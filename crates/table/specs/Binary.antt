-- A table in binary: what stands in each block of 512 bytes, and where. Assumes nothing.
use Rattle.std.specs.Prelude.{ℕ, ◌+◌, ◌-◌, ◌*◌, ◌/◌, ◌%◌, min, List, [], ◌∷◌, ◌++◌, length, take, drop, replicate, sum}
use Rattle.std.specs.List.{range_with_len, flat_map}
use Rattle.table.specs.Text.{over}

-- a number as so many bytes, the lowest first
abbrev pub two_bytes : ℕ → List ℕ
two_bytes n = (n % 256) ∷ (n / 256 % 256) ∷ []

abbrev pub four_bytes : ℕ → List ℕ
four_bytes n = (n % 256) ∷ (n / 256 % 256) ∷ (n / 65536 % 256) ∷ (n / 16777216 % 256) ∷ []

-- a row: its count, its level and two zeros
abbrev pub row_bytes : ℕ × ℕ → List ℕ
row_bytes r = four_bytes r.0 ++ (two_bytes r.1 ++ (0 ∷ 0 ∷ []))

-- bytes 0 to 7 of block k, counted from 0, with n rows
abbrev pub block_head : ℕ → ℕ → List ℕ
block_head k n = 77 ∷ 84 ∷ n ∷ 0 ∷ (two_bytes k ++ (0 ∷ 0 ∷ []))

-- bytes 8 to 507: the rows, and zeros in each place that is left
unfoldable pub block_places : List (ℕ × ℕ) → List ℕ
block_places rs = flat_map row_bytes rs ++ replicate (500 - 8 * length rs) 0

unfoldable pub block_body : ℕ → List (ℕ × ℕ) → List ℕ
block_body k rs = block_head k (length rs) ++ block_places rs

-- each byte as often as there are bytes from it to the end: byte i of 508 counts 508 - i times
abbrev pub weighted : List ℕ → ℕ
weighted [] = 0
weighted (b ∷ bs) = length (b ∷ bs) * b + weighted bs

-- the plain sum and the weighted one, two bytes of each, so modulo 65,536
unfoldable pub sum_bytes : List ℕ → List ℕ
sum_bytes bs = two_bytes (sum bs) ++ two_bytes (weighted bs)

unfoldable pub block_bytes : ℕ → List (ℕ × ℕ) → List ℕ
block_bytes k rs = block_body k rs ++ sum_bytes (block_body k rs)

-- 62 rows a block, and in the last those that are left
abbrev pub rows_of_block : List (ℕ × ℕ) → ℕ → List (ℕ × ℕ)
rows_of_block rs k = take 62 (drop (62 * k) rs)

abbrev pub block_count : ℕ → ℕ
block_count n = (n + 61) / 62

unfoldable pub binary_bytes : List (ℕ × ℕ) → List ℕ
binary_bytes rs = flat_map (λ k. block_bytes k (rows_of_block rs k)) (range_with_len 0 (block_count (length rs)))

abbrev pub binary_room : List ℕ → ℕ
binary_room bs = min (62 * (length bs / 512)) 1024

-- one more row writes the block that it falls into, and no other byte
abbrev pub binary_extended : List ℕ → List (ℕ × ℕ) → ℕ × ℕ → List ℕ
binary_extended bs rs r =
    let k = length rs / 62 in over bs (512 * k) (block_bytes k (rows_of_block (rs ++ (r ∷ [])) k))
