-- Checksums of lists of numbers. Assumes nothing.
use Rattle.std.specs.Prelude.{◌≡◌, ℕ, ◌+◌, ◌*◌, ◌%◌, ◌^◌}

-- a number that R takes to a value is mixed into a sum of 64 bits
abbrev pub Mixes : {A : Type 0} → (A → ℕ → Type 0) → ℕ → A → ℕ → Type 0
Mixes R sum number after = (value : ℕ) × R number value × (after ≡ (sum * 1_000_003 % 2 ^ 64 + value) % 2 ^ 64)
