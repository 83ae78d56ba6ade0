-- The best whole level of a run of points. Assumes nothing.
use Rattle.std.specs.Prelude.{ℕ, zero, suc, cond, List, [], ◌∷◌, ℤ, pos, ◌+ℤ◌}
use Rattle.std.specs.Int.Signed.{non_neg}

-- the sum of f over a list
abbrev pub total : {P : Type 0} → (P → ℤ) → List P → ℤ
total f [] = pos 0
total f (p ∷ ps) = f p +ℤ total f ps

-- the steps of a run of points at one level, added up
abbrev pub summed_step : {P : Type 0} → (P → ℕ → ℤ) → List P → ℕ → ℤ
summed_step step ps l = total (λ p. step p l) ps

-- the least of the n levels from l on at which s is 0 or more, and l + n where there is none
unfoldable pub first_up : (ℕ → ℤ) → ℕ → ℕ → ℕ
first_up s l zero = l
first_up s l (suc n) = cond (non_neg (s l)) l (first_up s (suc l) n)

-- the least level below top at which the summed step is 0 or more, and top where there is none
unfoldable pub best_level : {P : Type 0} → (P → ℕ → ℤ) → ℕ → List P → ℕ
best_level step top ps = first_up (summed_step step ps) 0 top
