-- Which readings and bands there are, and what refuses any other. Assumes nothing.
use Rattle.std.specs.Prelude.{ℕ, ◌≤◌, Bool, cond, ◌&&◌, Ok, Err, Result, nat_le}
use Rattle.fault.specs.declared.Fault.{Fault}
use Rattle.fault.specs.declared.Question.TheVariants.{PointRange, BandEnds}
use Rattle.fault.specs.Numbers.{outside_text}
use Rattle.loss.specs.declared.readings.Reading.{Reading}
use Rattle.loss.specs.declared.spans.Band.{Band}

abbrev pub level_fits : ℕ → Bool
level_fits l = nat_le l 65535

abbrev pub weight_fits : ℕ → Bool
weight_fits w = nat_le 1 w && nat_le w 1000

-- the reading of a level and a weight, or its refusal
abbrev pub reading_of : ℕ → ℕ → Result Reading Fault
reading_of l w =
    cond (level_fits l && weight_fits w) (Ok (record { level = l; weight = w })) (Err (outside_text PointRange))

-- the band from one level to another, or its refusal: ranges first, then the order of the ends
abbrev pub band_of : ℕ → ℕ → ℕ → Result Band Fault
band_of lo hi w =
    cond (level_fits lo && (level_fits hi && weight_fits w))
    (cond (nat_le lo hi) (Ok (record { low = lo; high = hi; weight = w })) (Err (outside_text BandEnds)))
    (Err (outside_text PointRange))

-- the ranges, as facts of one that was made
abbrev pub SoundReading : Reading → Type 0
SoundReading p = (p.level ≤ 65535) × (1 ≤ p.weight) × (p.weight ≤ 1000)

abbrev pub SoundBand : Band → Type 0
SoundBand p = (p.low ≤ p.high) × (p.high ≤ 65535) × (1 ≤ p.weight) × (p.weight ≤ 1000)
