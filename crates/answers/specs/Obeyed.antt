-- What lines make of a bench and a holder, and what is answered. Assumes nothing.
use Rattle.std.specs.Prelude.{◌≡◌, ℕ, cond, List, [], ◌∷◌, ◌++◌, length, drop, ℤ, Ok, Err, Result, nat_le}
use Rattle.std.specs.Result.{result_ok}
use Rattle.fault.specs.declared.Fault.{Fault}
use Rattle.fault.specs.declared.Question.TheVariants.{AnswerRoom}
use Rattle.fault.specs.Asked.{asked_at}
use Rattle.fault.specs.Numbers.{at_place}
use Rattle.bench.specs.declared.runs.Answer.{Answer}
use Rattle.bench.specs.declared.runs.Answer.TheVariants.{Done, Level, Refused}
use Rattle.bench.specs.declared.runs.Request.{Request}
use Rattle.bench.specs.declared.runs.Request.TheVariants.{Add, Drop, Lay, Convert}
use Rattle.bench.specs.Runs.{Event, History}
use Rattle.bench.specs.Served.{Standing, Writing, answered, served}
use Rattle.bench.specs.Told.{Told}
use Rattle.lines.specs.declared.headings.Heading.{Heading}
use Rattle.answers.specs.declared.obey.Opening.{Opening}
use Rattle.lines.specs.Reads.{and_then}
use Rattle.answers.specs.Replies.{answer_text}
use Rattle.lines.specs.Requests.{line_request}

-- where the refusal of a call stands in its line: at the first field behind the letter, or at a letter that is alone
abbrev pub request_column : {P L : Type 0} → Request P L → ℕ
request_column (Add c p) = 3
request_column (Drop c) = 3
request_column (Lay l) = 1
request_column (Convert c) = 3

-- an answer of the bench, a refusal with its place in the text
abbrev pub answer_at : ℕ → ℕ → Answer → Answer
answer_at line column Done = Done
answer_at line column (Level l) = Level l
answer_at line column (Refused f) = Refused (at_place line column f.question)

-- is there room for every answer in memory of so many bytes?
abbrev pub roomy : {X : Type 0} → (line bytes : ℕ) → X → Result X Fault
roomy line bytes x = asked_at line 1 ((AnswerRoom, nat_le 32 bytes) ∷ []) x

-- that memory after an answer, which stands at its front
abbrev pub with_answer : List ℕ → Answer → List ℕ
with_answer mem a = cond (nat_le 32 (length mem)) (answer_text a ++ drop (length (answer_text a)) mem) mem

-- the answer to a line that is read as the first
abbrev pub heading_answer : Result Heading Fault → Answer
heading_answer (Ok h) = Done
heading_answer (Err f) = Refused f

-- how many bytes were written, and the heading if it was accepted
abbrev pub opening_of : Result Heading Fault → Opening
opening_of r = record { written = length (answer_text (heading_answer r)); heading = result_ok r }

-- the history after a line: one call more where the line asks for one
abbrev pub Entered : {P L : Type 0} → (L → P → ℕ → ℤ) → Result (Request P L) Fault → (Request P L → Answer) → History P → History P → Type 0
Entered cost (Err f) answer h after = after ≡ h
Entered {P} cost (Ok q) answer h after = (e : Event P) × Told cost q (answer q) e × (after ≡ e ∷ h)

module _ {P L : Type 0} (told : ℕ → List ℕ → Result P Fault) (step : L → P → ℕ → ℤ) (fields : ℕ) (loss : L) (top room : ℕ) (w : Writing) where
  abbrev pub request_answer : Standing P → (line : ℕ) → Result (Request P L) Fault → Answer
  request_answer s line (Err f) = Refused f
  request_answer s line (Ok q) = answer_at line (request_column q) (answered step top room w s q)

  abbrev pub after_request : Standing P → Result (Request P L) Fault → Standing P
  after_request s (Err f) = s
  after_request s (Ok q) = served step top room w s q

  -- what a line is answered: its refusal, or the answer to the call that it asks for
  abbrev pub line_answer : Standing P → (line : ℕ) → List ℕ → Answer
  line_answer s line bs = request_answer s line (line_request told fields loss line bs)

  -- and what there is after it
  abbrev pub line_after : Standing P → (line : ℕ) → List ℕ → Standing P
  line_after s line bs = after_request s (line_request told fields loss line bs)

  -- the call that is made for a line: none where memory of so many bytes is too small for its answer
  abbrev pub roomy_request : (bytes line : ℕ) → List ℕ → Result (Request P L) Fault
  roomy_request bytes line bs = and_then (roomy {X = Unit {0}} line bytes tt) (λ _. line_request told fields loss line bs)
