-- Rows and what putting one does. A row is a pair: its count, then its level. Assumes nothing.
use Rattle.std.specs.Prelude.{ℕ, Bool, List, [], ◌∷◌, ◌++◌, length, Ok, Err, Result, nat_le, nat_lt, slice_index_or}
use Rattle.fault.specs.declared.Question.{Question}
use Rattle.fault.specs.declared.Question.TheVariants.{PutCount, PutRoom}
use Rattle.fault.specs.declared.Fault.{Fault}
use Rattle.fault.specs.Asked.{asked}

-- the count and the level of row i
abbrev pub count_at : List (ℕ × ℕ) → ℕ → ℕ
count_at rs i = (slice_index_or rs i (0, 0)).0

abbrev pub level_at : List (ℕ × ℕ) → ℕ → ℕ
level_at rs i = (slice_index_or rs i (0, 0)).1

-- what a put asks, of a holder with room for so many rows and these rows in it
abbrev pub put_questions : ℕ → List (ℕ × ℕ) → ℕ → List (Question × Bool)
put_questions room rs c = (PutCount, nat_le c 16777215) ∷ (PutRoom, nat_lt (length rs) room) ∷ []

abbrev pub put_answer : ℕ → List (ℕ × ℕ) → ℕ → Result (Unit {0}) Fault
put_answer room rs c = asked (put_questions room rs c) tt

-- what there is after a call: the new where it was accepted, the old where it was refused
abbrev pub once_accepted : {X : Type 0} → Result (Unit {0}) Fault → X → X → X
once_accepted (Ok u) new old = new
once_accepted (Err e) new old = old

-- the bytes after these rows are put one by one on top of those before, where `more bytes rows row` is what one put
-- makes of the bytes
abbrev pub bytes_after : (List ℕ → List (ℕ × ℕ) → ℕ × ℕ → List ℕ) → List ℕ → List (ℕ × ℕ) → List (ℕ × ℕ) → List ℕ
bytes_after more bs before [] = bs
bytes_after more bs before (r ∷ rs) = bytes_after more (more bs before r) (before ++ r ∷ []) rs
