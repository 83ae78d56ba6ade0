-- What a count converts to by a list of rows. Assumes nothing: the rows need not rise.
use Rattle.std.specs.Prelude.{◌≡◌, ℕ, suc, ◌+◌, ◌-◌, ◌*◌, ◌/◌, ◌<◌, ◌≤◌, Bool, cond, ◌||◌, List, [], ◌∷◌, length, Ok, Err, Result, ◌==◌, ◌≢◌, nat_le, nat_lt}
use Rattle.fault.specs.declared.Question.{Question}
use Rattle.fault.specs.declared.Question.TheVariants.{ConvertEmpty, ConvertBelow, ConvertAbove, ConvertFalls}
use Rattle.fault.specs.declared.Fault.{Fault}
use Rattle.fault.specs.Asked.{asked}
use Rattle.fault.specs.Numbers.{outside_text}
use Rattle.table.specs.Rows.{count_at, level_at}

-- which row is the first whose count is at least c, from 0; the number of rows where none is
abbrev pub first_at_least : List (ℕ × ℕ) → ℕ → ℕ
first_at_least [] c = 0
first_at_least (r ∷ rs) c = cond (nat_le c r.0) 0 (suc (first_at_least rs c))

-- the level at c on the straight line from (k0, l0) to (k1, l1), cut down to a whole number
abbrev pub straight_line : ℕ → ℕ → ℕ → ℕ → ℕ → ℕ
straight_line k0 l0 k1 l1 c = l0 + ((l1 - l0) * (c - k0)) / (k1 - k0)

-- of the row found, at place i, and the row before it
abbrev pub found_questions : List (ℕ × ℕ) → ℕ → ℕ → List (Question × Bool)
found_questions rs c i =
    (ConvertAbove, nat_lt i (length rs)) ∷ (ConvertFalls, nat_le (count_at rs i) c || nat_le (level_at rs (i - 1)) (level_at rs i)) ∷ []

abbrev pub convert_questions : List (ℕ × ℕ) → ℕ → List (Question × Bool)
convert_questions rs c =
    (ConvertEmpty, nat_lt 0 (length rs)) ∷ (ConvertBelow, nat_le (count_at rs 0) c) ∷ found_questions rs c (first_at_least rs c)

abbrev pub found_level : List (ℕ × ℕ) → ℕ → ℕ → ℕ
found_level rs c i =
    cond (count_at rs i == c) (level_at rs i)
    (straight_line (count_at rs (i - 1)) (level_at rs (i - 1)) (count_at rs i) (level_at rs i) c)

unfoldable pub conversion : List (ℕ × ℕ) → ℕ → Result ℕ Fault
conversion rs c = asked (convert_questions rs c) (found_level rs c (first_at_least rs c))

-- counts rise and levels never fall
abbrev pub Rising : List (ℕ × ℕ) → Type 0
Rising rs = (i j : ℕ) → i < j → j < length rs → (count_at rs i < count_at rs j) × (level_at rs i ≤ level_at rs j)

-- by rising rows, the higher of two counts never gets the lower level, and none is refused for a falling level
pub record Orderly (rs : List (ℕ × ℕ)) : Type 0 where
  pub higher : (c d l m : ℕ) → c ≤ d → conversion rs c ≡ Ok l → conversion rs d ≡ Ok m → l ≤ m
  pub never_falls : (c : ℕ) → conversion rs c ≢ Err (outside_text ConvertFalls)
