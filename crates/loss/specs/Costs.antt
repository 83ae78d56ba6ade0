-- What a level costs a reading or a band under each loss, and the step to the next level. Assumes nothing.
use Rattle.std.specs.Prelude.{ℕ, ◌+◌, ◌-◌, ◌*◌, max, cond, ℤ, pos, ◌-ℤ◌, ◌*ℤ◌, neg_ℤ, nat_lt}
use Rattle.loss.specs.declared.readings.Reading.{Reading}
use Rattle.loss.specs.declared.spans.Band.{Band}

-- how far two levels lie apart
abbrev pub apart : ℕ → ℕ → ℕ
apart a b = (a - b) + (b - a)

-- squares: the weight times the distance squared
abbrev pub square_cost : Reading → ℕ → ℤ
square_cost p l = pos (p.weight * (apart l p.level * apart l p.level))

abbrev pub square_step : Reading → ℕ → ℤ
square_step p l = pos p.weight *ℤ (pos (2 * l + 1) -ℤ pos (2 * p.level))

-- absolute: the weight times the distance
abbrev pub absolute_cost : Reading → ℕ → ℤ
absolute_cost p l = pos (p.weight * apart l p.level)

abbrev pub absolute_step : Reading → ℕ → ℤ
absolute_step p l = cond (nat_lt l p.level) (neg_ℤ (pos p.weight)) (pos p.weight)

-- bands: the weight times the distance to the nearest level of the band; where its high end lies below its low one,
-- the band is the low end alone
abbrev pub outside_band : Band → ℕ → ℕ
outside_band p l = (p.low - l) + (l - max p.low p.high)

abbrev pub band_cost : Band → ℕ → ℤ
band_cost p l = pos (p.weight * outside_band p l)

abbrev pub band_step : Band → ℕ → ℤ
band_step p l = cond (nat_lt l p.low) (neg_ℤ (pos p.weight)) (cond (nat_lt l p.high) (pos 0) (pos p.weight))
