-- How a call is refused: its questions are gone through in order. Assumes nothing.
use Rattle.std.specs.Prelude.{ℕ, Bool, cond, List, [], ◌∷◌, Ok, Err, Result}
use Rattle.fault.specs.declared.Question.{Question}
use Rattle.fault.specs.declared.Fault.{Fault}
use Rattle.fault.specs.Numbers.{outside_text, at_place}

-- each question beside its answer: the first no refuses, and where there is none the call gives its value
abbrev pub asked : {X : Type 0} → List (Question × Bool) → X → Result X Fault
asked [] x = Ok x
asked (q ∷ qs) x = cond q.1 (asked qs x) (Err (outside_text q.0))

-- the same at a place of a text
abbrev pub asked_at : {X : Type 0} → ℕ → ℕ → List (Question × Bool) → X → Result X Fault
asked_at line column [] x = Ok x
asked_at line column (q ∷ qs) x = cond q.1 (asked_at line column qs x) (Err (at_place line column q.0))
