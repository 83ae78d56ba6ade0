-- What a limit on the pull of each point makes of a loss. Assumes nothing.
use Rattle.std.specs.Prelude.{ℕ, zero, suc, ℤ, pos, ◌+ℤ◌, neg_ℤ}
use Rattle.std.specs.Int.{int_max, int_min}

-- a step, cut to lie from minus a number to that number
abbrev pub pull_cut : ℕ → ℤ → ℤ
pull_cut k z = int_max (neg_ℤ (pos k)) (int_min z (pos k))

-- the cost that such steps add up to: 0 at level 0, elsewhere the sum of the steps at all lower levels
abbrev pub steps_below : (ℕ → ℤ) → ℕ → ℤ
steps_below f zero = pos 0
steps_below f (suc l) = steps_below f l +ℤ f l
