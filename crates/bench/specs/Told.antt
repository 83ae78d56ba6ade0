-- Which call of a history a request and its answer were. Assumes nothing.
use Rattle.std.specs.Prelude.{◌≡◌, ℕ, List, [], ◌∷◌, ◌++◌, ℤ, Ok, Err, Result}
use Rattle.fault.specs.declared.Fault.{Fault}
use Rattle.bench.specs.declared.runs.Answer.{Answer}
use Rattle.bench.specs.declared.runs.Answer.TheVariants.{Done, Level, Refused}
use Rattle.bench.specs.declared.runs.Request.{Request}
use Rattle.bench.specs.declared.runs.Request.TheVariants.{Add, Drop, Lay, Convert}
use Rattle.bench.specs.Runs.{Event, History}
use Rattle.bench.specs.Runs.Event.{added, dropped, laid, converted}

abbrev pub done_answer : Result (Unit {0}) Fault → Answer
done_answer (Ok u) = Done
done_answer (Err f) = Refused f

abbrev pub level_answer : Result ℕ Fault → Answer
level_answer (Ok l) = Level l
level_answer (Err f) = Refused f

-- the request, its answer, and the call in a history that they are
pub data Told {P L : Type 0} (cost : L → P → ℕ → ℤ) : Request P L → Answer → Event P → Type 0 where
  told_add : (c : ℕ) (p : P) (r : Result (Unit {0}) Fault) → Told cost (Add c p) (done_answer r) (added c p r)
  told_drop : (c : ℕ) (r : Result (Unit {0}) Fault) → Told cost (Drop c) (done_answer r) (dropped c r)
  told_lay : (l : L) (r : Result (Unit {0}) Fault) (rs : List (ℕ × ℕ)) → Told cost (Lay l) (done_answer r) (laid (cost l) r rs)
  told_convert : (c : ℕ) (r : Result ℕ Fault) → Told cost (Convert c) (level_answer r) (converted c r)

-- the requests in their order, their answers, and the history that they make, whose newest call is the last request
abbrev pub ToldAll : {P L : Type 0} → (L → P → ℕ → ℤ) → List (Request P L) → List Answer → History P → Type 0
ToldAll cost qs answers [] = (qs ≡ []) × (answers ≡ [])
ToldAll {P} {L} cost qs answers (e ∷ h) =
    (q : Request P L) × (a : Answer) × (before : List (Request P L)) × (earlier : List Answer) × (qs ≡ before ++ q ∷ []) × (answers ≡ earlier ++ a ∷ []) × Told cost q a e × ToldAll cost before earlier h
