-- What an answer is written as. Assumes nothing.
use Rattle.std.specs.Prelude.{ℕ, List, [], ◌∷◌, ◌++◌, decimal}
use Rattle.fault.specs.Texts.{fault_text}
use Rattle.bench.specs.declared.runs.Answer.{Answer}
use Rattle.bench.specs.declared.runs.Answer.TheVariants.{Done, Level, Refused}

-- one line: ok, ok with a level, or no with a refusal
abbrev pub answer_text : Answer → List ℕ
answer_text Done = 111 ∷ 107 ∷ 10 ∷ []
answer_text (Level l) = 111 ∷ 107 ∷ 32 ∷ (decimal l ++ (10 ∷ []))
answer_text (Refused f) = 110 ∷ 111 ∷ 32 ∷ (fault_text f ++ (10 ∷ []))
