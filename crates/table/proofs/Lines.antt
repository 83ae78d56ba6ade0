-- What a straight line between two rows keeps to. Assumes nothing.
use Rattle.std.proofs.Common.{ℕ, ◌*◌, ◌/◌, ◌<◌, ◌≤◌, le_trans, mul_comm, mul-le-mul_left, le-div_iff_mul-le, div-mul-le_self, arith}
use native.Mathlib.Nat.{div-le_of_le-mul}

-- a part of a rise is no more than all of it
pub part_le : (a b d : ℕ) → b ≤ d → (a * b) / d ≤ a
part_le a b d h = let p : a * b ≤ d * a = omega (arith, mul-le-mul_left a h, mul_comm d a) in div-le_of_le-mul d p

pub quotient_mono : (a b d : ℕ) → 0 < d → a ≤ b → a / d ≤ b / d
quotient_mono a b d p h = (le-div_iff_mul-le p).1 (le_trans (div-mul-le_self a d) h)
