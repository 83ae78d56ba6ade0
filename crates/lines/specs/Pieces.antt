-- How a text falls into pieces: an input into lines, a line into fields. Assumes nothing.
use Rattle.std.specs.Prelude.{ℕ, suc, ◌+◌, Bool, cond, not, ◌&&◌, List, [], ◌∷◌, length, ◌==◌}

-- a byte in front of the first piece
abbrev pub onto : ℕ → List (List ℕ) → List (List ℕ)
onto b [] = (b ∷ []) ∷ []
onto b (p ∷ ps) = (b ∷ p) ∷ ps

-- the pieces of a text, each ended by the byte s; the last may lack it
abbrev pub pieces : ℕ → List ℕ → List (List ℕ)
pieces s [] = []
pieces s (b ∷ bs) = cond (b == s) ([] ∷ pieces s bs) (onto b (pieces s bs))

-- how many bytes of a text stand before the first s
abbrev pub before : ℕ → List ℕ → ℕ
before s [] = 0
before s (b ∷ bs) = cond (b == s) 0 (suc (before s bs))

-- the lines of an input, without their newlines; an empty input is one empty line
abbrev pub lines_of : List ℕ → List (List ℕ)
lines_of [] = [] ∷ []
lines_of (b ∷ bs) = pieces 10 (b ∷ bs)

-- the fields of a line
abbrev pub fields_of : List ℕ → List (List ℕ)
fields_of bs = pieces 32 bs

-- with one space more at either end, no two spaces stand side by side
abbrev pub spaced_after : ℕ → List ℕ → Bool
spaced_after before [] = not (before == 32)
spaced_after before (b ∷ bs) = not (before == 32 && b == 32) && spaced_after b bs

-- so the line is not empty, has one space between its fields, and none at its ends
abbrev pub well_spaced : List ℕ → Bool
well_spaced bs = spaced_after 32 bs

-- pieces with the columns at which they begin: each takes its bytes and one more
abbrev pub placed : ℕ → List (List ℕ) → List (ℕ × List ℕ)
placed column [] = []
placed column (p ∷ ps) = (column, p) ∷ placed (column + length p + 1) ps

-- the fields of a line with their columns, from 1
abbrev pub fields_at : List ℕ → List (ℕ × List ℕ)
fields_at bs = placed 1 (fields_of bs)
