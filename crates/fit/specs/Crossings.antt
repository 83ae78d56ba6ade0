-- Where the summed step of entries crosses 0. Like Pooling it is cited only by functions that are closed to other
-- crates. Assumes nothing.
use Rattle.std.specs.Prelude.{ℕ, ◌-◌, List, ℤ}
use Rattle.fit.specs.Best.{summed_step, first_up}
use Rattle.fit.specs.Entries.{points_of}
use Rattle.fit.specs.declared.Entry.{Entry}

-- the least level from low to below high at which the summed step is 0 or more, and high where there is none
abbrev pub crossing_of : {P : Type 0} → (P → ℕ → ℤ) → List (Entry P) → ℕ → ℕ → ℕ
crossing_of step es low high = first_up (summed_step step (points_of es)) low (high - low)
