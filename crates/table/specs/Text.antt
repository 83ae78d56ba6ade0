-- A table as text: what a row is written as, and where. Assumes nothing.
use Rattle.std.specs.Prelude.{◌≡◌, ℕ, ◌+◌, ◌/◌, ◌^◌, ◌<◌, min, List, [], ◌∷◌, ◌++◌, length, take, drop, decimal}
use Rattle.std.specs.List.{flat_map}
use Rattle.table.specs.Rows.{count_at, level_at}

-- one line: both numbers in decimal with a space between them, ended by a newline
abbrev pub row_text : ℕ × ℕ → List ℕ
row_text r = decimal r.0 ++ (32 ∷ (decimal r.1 ++ (10 ∷ [])))

unfoldable pub table_text : List (ℕ × ℕ) → List ℕ
table_text rs = flat_map row_text rs

-- a row takes at most 15 bytes
abbrev pub text_room : List ℕ → ℕ
text_room bs = min (length bs / 15) 1024

-- the bytes bs with those of ws over them from a place on: what stood before and after is left
unfoldable pub over : List ℕ → ℕ → List ℕ → List ℕ
over bs at ws = take at bs ++ (ws ++ drop (at + length ws) bs)

-- one more row goes right behind the rows that there are
abbrev pub text_extended : List ℕ → List (ℕ × ℕ) → ℕ × ℕ → List ℕ
text_extended bs rs r = over bs (length (table_text rs)) (row_text r)

-- counts and levels as a row has them
abbrev pub InRange : List (ℕ × ℕ) → Type 0
InRange rs = (i : ℕ) → i < length rs → (count_at rs i < 2 ^ 32) × (level_at rs i < 2 ^ 16)

-- no two lists of rows have the same text, so that a table's text says which rows it has
abbrev pub OneReading : Type 0
OneReading = (rs ss : List (ℕ × ℕ)) → InRange rs → InRange ss → table_text rs ≡ table_text ss → rs ≡ ss
