-- How many digits a number has. Assumes nothing.
use Rattle.std.proofs.Common.{◌≡◌, ℕ, ◌+◌, ◌/◌, ◌%◌, ◌^◌, ◌<◌, ◌≤◌, length, decimal, ap, ◌∙◌, arith}
use Rattle.std.proofs.lemmas.Fmt.{decimal_digit, decimal_step}
use Rattle.std.proofs.lemmas.List.{length_push}

step : (n : ℕ) → 10 ≤ n → n < 2 ^ 64 → length (decimal n) ≡ length (decimal (n / 10)) + 1
step n big fits = ap length (decimal_step n big fits) ∙ length_push (decimal (n / 10)) (48 + n % 10)

pub one : (n : ℕ) → n < 10 → 1 ≡ length (decimal n)
one n h = omega (arith, ap length (decimal_digit n h))

pub two : (n : ℕ) → 10 ≤ n → n < 100 → 2 ≡ length (decimal n)
two n big h = omega (arith, step n big (omega arith), one (n / 10) (omega arith))

pub three : (n : ℕ) → 100 ≤ n → n < 1000 → 3 ≡ length (decimal n)
three n big h = omega (arith, step n (omega arith) (omega arith), two (n / 10) (omega arith) (omega arith))

pub four : (n : ℕ) → 1000 ≤ n → n < 10000 → 4 ≡ length (decimal n)
four n big h = omega (arith, step n (omega arith) (omega arith), three (n / 10) (omega arith) (omega arith))

pub four_more : (n : ℕ) → 10000 ≤ n → n < 2 ^ 64 → length (decimal (n / 10000)) + 4 ≡ length (decimal n)
four_more n big fits =
    omega (
      arith,
      step n (omega arith) fits,
      step (n / 10) (omega arith) (omega arith),
      step (n / 10 / 10) (omega arith) (omega arith),
      step (n / 10 / 10 / 10) (omega arith) (omega arith),
      ap (λ k. length (decimal k)) {x = n / 10 / 10 / 10 / 10} {y = n / 10000} (omega arith),
    )
