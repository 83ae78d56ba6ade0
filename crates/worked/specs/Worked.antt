-- Examples worked by hand, and what it is for one to hold: the definitions of the other crates give its answer.
-- Assumes nothing.
use Rattle.std.specs.Prelude.{◌≡◌, ℕ, List, [], ◌∷◌, ◌++◌, drop, Ok, Err}
use Rattle.fault.specs.declared.Question.{Question}
use Rattle.fault.specs.declared.Question.TheVariants.{ConvertBelow, ConvertAbove}
use Rattle.fault.specs.Numbers.{number_of, outside_text}
use Rattle.loss.specs.declared.readings.Reading.{Reading}
use Rattle.loss.specs.declared.spans.Band.{Band}
use Rattle.loss.specs.Costs.{square_cost, square_step, absolute_step, band_step}
use Rattle.loss.specs.Limits.{pull_cut}
use Rattle.fit.specs.Cheapest.{cost_of}
use Rattle.fit.specs.MaxMin.{fitted}
use Rattle.table.specs.Binary.{two_bytes, block_bytes}
use Rattle.table.specs.Convert.{conversion}

pub data Example : Type 0 where
  -- the points of a sweep, the top, and the level that each point gets
  squares : List Reading → ℕ → List ℕ → Example
  absolute : List Reading → ℕ → List ℕ → Example
  bands : List Band → ℕ → List ℕ → Example
  -- the same under squares with a limit on each point's pull
  limited : ℕ → List Reading → ℕ → List ℕ → Example
  -- the points of a sweep, and two lists of levels that cost the same under squares
  tied : List Reading → List ℕ → List ℕ → Example
  -- rows, a count, and the level that it converts to
  converted : List (ℕ × ℕ) → ℕ → ℕ → Example
  -- rows, a count, and the question that refuses it, with the question's number
  refused : List (ℕ × ℕ) → ℕ → Question → ℕ → Example
  -- the rows of a first block, and the two sums at its end
  summed : List (ℕ × ℕ) → ℕ → ℕ → Example

abbrev pub Holds : Example → Type 0
Holds (squares ps top ls) = fitted square_step top ps ≡ ls
Holds (absolute ps top ls) = fitted absolute_step top ps ≡ ls
Holds (bands ps top ls) = fitted band_step top ps ≡ ls
Holds (limited k ps top ls) = fitted (λ p l. pull_cut k (square_step p l)) top ps ≡ ls
Holds (tied ps ls ms) = cost_of square_cost ps ls ≡ cost_of square_cost ps ms
Holds (converted rs c l) = conversion rs c ≡ Ok l
Holds (refused rs c q n) = (conversion rs c ≡ Err (outside_text q)) × (number_of q ≡ n)
Holds (summed rs plain weighted) = drop 508 (block_bytes 0 rs) ≡ two_bytes plain ++ two_bytes weighted

abbrev reading : ℕ → ℕ → Reading
reading level weight = record { level = level; weight = weight }

abbrev band : ℕ → ℕ → Band
band low high = record { low = low; high = high; weight = 1 }

-- two rows to convert by
abbrev pair : List (ℕ × ℕ)
pair = (10, 2) ∷ (20, 5) ∷ []

abbrev pub examples : List Example
examples =
    squares (reading 3 1 ∷ reading 1 1 ∷ reading 2 1 ∷ []) 10 (2 ∷ 2 ∷ 2 ∷ [])
    ∷ squares (reading 2 1 ∷ reading 1 1 ∷ []) 10 (1 ∷ 1 ∷ [])
    ∷ tied (reading 2 1 ∷ reading 1 1 ∷ []) (1 ∷ 1 ∷ []) (2 ∷ 2 ∷ [])
    ∷ squares (reading 4 1 ∷ reading 1 3 ∷ []) 10 (2 ∷ 2 ∷ [])
    ∷ absolute (reading 5 1 ∷ reading 2 1 ∷ reading 4 1 ∷ []) 10 (2 ∷ 2 ∷ 4 ∷ [])
    ∷ bands (band 6 9 ∷ band 2 4 ∷ []) 10 (4 ∷ 4 ∷ [])
    ∷ squares (reading 40 1 ∷ []) 10 (10 ∷ [])
    ∷ squares (reading 9 1 ∷ reading 1 1 ∷ reading 1 1 ∷ []) 10 (4 ∷ 4 ∷ 4 ∷ [])
    ∷ limited 3 (reading 9 1 ∷ reading 1 1 ∷ reading 1 1 ∷ []) 10 (2 ∷ 2 ∷ 2 ∷ [])
    ∷ converted pair 15 3
    ∷ converted pair 19 4
    ∷ converted pair 20 5
    ∷ refused pair 9 ConvertBelow 8
    ∷ refused pair 21 ConvertAbove 9
    ∷ summed ((10, 2) ∷ []) 174 22666
    ∷ []
