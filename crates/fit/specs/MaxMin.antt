-- The levels of a fit: at each point the max-min value of isotonic regression, with the best whole level of a run in
-- the place of its mean. Assumes nothing.
use Rattle.std.specs.Prelude.{ℕ, zero, suc, ◌-◌, min, max, List, map, length, take, drop, ℤ}
use Rattle.std.specs.List.{range_with_len}
use Rattle.fit.specs.Best.{best_level}

-- the points j to k, both ends among them
unfoldable pub part : {P : Type 0} → List P → ℕ → ℕ → List P
part ps j k = take (suc k - j) (drop j ps)

-- the least of g at i and the n numbers after it
unfoldable pub least : (ℕ → ℕ) → ℕ → ℕ → ℕ
least g i zero = g i
least g i (suc n) = min (g i) (least g (suc i) n)

-- the greatest of g at the numbers 0 to n
unfoldable pub greatest : (ℕ → ℕ) → ℕ → ℕ
greatest g zero = g 0
greatest g (suc n) = max (greatest g n) (g (suc n))

-- the greatest, over the starts j up to i, of the least, over the ends k from i on, of the best level of that run
unfoldable pub max_min : {P : Type 0} → (P → ℕ → ℤ) → ℕ → List P → ℕ → ℕ
max_min step top ps i = greatest (λ j. least (λ k. best_level step top (part ps j k)) i (length ps - suc i)) i

-- one level for each point
unfoldable pub fitted : {P : Type 0} → (P → ℕ → ℤ) → ℕ → List P → List ℕ
fitted step top ps = map (max_min step top ps) (range_with_len 0 (length ps))
