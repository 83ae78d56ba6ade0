-- What the lines of a whole input come to. Assumes nothing.
use Rattle.std.specs.Prelude.{◌≡◌, ℕ, ◌+◌, List, [], ◌∷◌, ℤ, Result}
use Rattle.fault.specs.declared.Fault.{Fault}
use Rattle.bench.specs.declared.runs.Answer.{Answer}
use Rattle.bench.specs.Runs.{History}
use Rattle.bench.specs.Served.{Standing, Writing, answered}
use Rattle.answers.specs.Obeyed.{Entered, line_answer, line_after}
use Rattle.lines.specs.Requests.{line_request}

module _ {P L : Type 0} (told : ℕ → List ℕ → Result P Fault) (cost step : L → P → ℕ → ℤ) (fields : ℕ) (loss : L) (top room : ℕ) (w : Writing) where
  -- the answers to lines that are numbered from n on
  abbrev pub answers : Standing P → (n : ℕ) → List (List ℕ) → List Answer
  answers s n [] = []
  answers s n (l ∷ ls) = line_answer told step fields loss top room w s n l ∷ answers (line_after told step fields loss top room w s n l) (n + 1) ls

  -- what there is after them
  abbrev pub after : Standing P → (n : ℕ) → List (List ℕ) → Standing P
  after s n [] = s
  after s n (l ∷ ls) = after (line_after told step fields loss top room w s n l) (n + 1) ls

  -- the history after them: each line that asks for a call enters it with its answer
  abbrev pub EnteredAll : Standing P → (n : ℕ) → List (List ℕ) → History P → History P → Type 0
  EnteredAll s n [] h end = end ≡ h
  EnteredAll s n (l ∷ ls) h end =
      (next : History P) × Entered cost (line_request told fields loss n l) (answered step top room w s) h next
      × EnteredAll (line_after told step fields loss top room w s n l) (n + 1) ls next end
