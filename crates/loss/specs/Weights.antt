-- What a weight does to a difference and to an order. Assumes nothing.
use Rattle.std.specs.Prelude.{◌≡◌, ℕ, suc, ◌+◌, ◌-◌, ◌*◌, ◌^◌, ◌<◌, ◌≤◌, ℤ, pos, ◌+ℤ◌, ◌-ℤ◌, ◌*ℤ◌, neg_ℤ, ◌≤ℤ◌}
use Rattle.std.proofs.Common.{ap, inl, inr, mul-le-mul_left, arith}
use borrow.Author.Differences.{up, down, ints}
use Rattle.std.proofs.lemmas.Bool.{cases_lt}
use Rattle.loss.specs.Costs.{apart}

pub weighed : (w a b : ℕ) (z : ℤ) → pos b ≡ pos a +ℤ z → pos (w * b) ≡ pos (w * a) +ℤ (pos w *ℤ z)
weighed w a b z e =
    let n : b + down z ≡ a + up z = omega (arith, ints) in omega (arith, ints, ap (λ x. w * x) n)

pub weighed_le : (w : ℕ) (x y : ℤ) → x ≤ℤ y → (pos w *ℤ x) ≤ℤ (pos w *ℤ y)
weighed_le w x y h =
    let n : up x + down y ≤ up y + down x = omega (arith, ints) in omega (arith, ints, mul-le-mul_left w n)

-- squares of neighbouring distances
pub next_square : (l y : ℕ) → pos (apart (suc l) y * apart (suc l) y) ≡ pos (apart l y * apart l y) +ℤ (pos (2 * l + 1) -ℤ pos (2 * y))
next_square l y =
    elim (cases_lt l y) [
      | inl h ↦
          let a : apart l y ≡ suc (y - suc l) = omega arith in
          let b : apart (suc l) y ≡ y - suc l = omega arith in
          rw (a, b) (omega (arith, ints))
      | inr h ↦
          let a : apart l y ≡ l - y = omega arith in
          let b : apart (suc l) y ≡ suc (l - y) = omega arith in
          rw (a, b) (omega (arith, ints))
    ]

-- 16 bits of weight on 18 bits of difference stay within 34 either way
pub weighed_within : (w : ℕ) (z : ℤ) → w < 2 ^ 16 → neg_ℤ (pos (2 ^ 18)) ≤ℤ z → z ≤ℤ pos (2 ^ 18) → (neg_ℤ (pos (2 ^ 34)) ≤ℤ (pos w *ℤ z)) × ((pos w *ℤ z) ≤ℤ pos (2 ^ 34))
weighed_within w z h low high =
    (omega (arith, ints, weighed_le w _ z low), omega (arith, ints, weighed_le w z _ high))
