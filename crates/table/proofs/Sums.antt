-- The two sums of a block as they grow byte by byte. Assumes nothing.
use Rattle.std.proofs.Common.{◌≡◌, ℕ, suc, ◌+◌, ◌*◌, ◌/◌, ◌%◌, ◌<◌, List, [], ◌∷◌, ◌++◌, length, get_or, take, sum, ap, ◌∙◌, add-mul, arith}
use Rattle.std.proofs.lemmas.List.{length_push, take_more}
use Rattle.std.proofs.lemmas.List.Sums.{sum_by-cons}
use Rattle.table.specs.Binary.{two_bytes, weighted}

-- one byte more counts once, and each byte before it once more
weighted_push : (bs : List ℕ) (b : ℕ) → weighted (bs ++ (b ∷ [])) ≡ weighted bs + sum bs + b
weighted_push [] b = omega arith
weighted_push (x ∷ bs) b =
    omega (
      arith,
      weighted_push bs b,
      sum_by-cons (λ y. y) x bs,
      ap (λ n. suc n * x) (length_push bs b),
      add-mul (suc (length bs)) 1 x,
      ap (λ n. n * x) {x = suc (length bs + 1)} {y = suc (length bs) + 1} (omega arith),
    )

-- two bytes show a number as far as 65,536 goes
pub two_bytes_of : (n s : ℕ) → n ≡ s % 65536 → two_bytes n ≡ two_bytes s
two_bytes_of n s e =
    let low : n % 256 ≡ s % 256 = omega arith in
    let high : n / 256 % 256 ≡ s / 256 % 256 = omega arith in
    λ i. low i ∷ high i ∷ []

pub weighted_more : (bs : List ℕ) (i : ℕ) → i < length bs → weighted (take (i + 1) bs) ≡ weighted (take i bs) + sum (take i bs) + get_or bs i 0
weighted_more bs i h = ap weighted (take_more bs i 0 h) ∙ weighted_push (take i bs) (get_or bs i 0)
