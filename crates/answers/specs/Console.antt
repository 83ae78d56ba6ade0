-- What a console writes for an input. Assumes nothing.
use Rattle.std.specs.Prelude.{ℕ, ◌≤◌, cond, List, [], ◌∷◌, ◌++◌, length, replicate, ℤ, Ok, Err, Result, nat_le}
use Rattle.std.specs.List.{flat_map}
use Rattle.fault.specs.declared.Fault.{Fault}
use Rattle.fault.specs.declared.Question.TheVariants.{InputLength}
use Rattle.fault.specs.Numbers.{outside_text}
use Rattle.fit.specs.declared.Entry.{Entry}
use Rattle.table.specs.Text.{table_text, text_extended}
use Rattle.bench.specs.declared.runs.Answer.TheVariants.{Done, Refused}
use Rattle.bench.specs.Runs.{History, Keeps}
use Rattle.bench.specs.Served.{Standing, Writing}
use Rattle.loss.specs.declared.losses.Absolute.{Absolute}
use Rattle.loss.specs.declared.losses.Bands.{Bands}
use Rattle.loss.specs.declared.losses.Squares.{Squares}
use Rattle.loss.specs.Costs.{square_cost, square_step, absolute_cost, absolute_step, band_cost, band_step}
use Rattle.lines.specs.declared.headings.Heading.{Heading}
use Rattle.lines.specs.declared.verbs.LossName.{LossName}
use Rattle.lines.specs.declared.verbs.LossName.TheVariants as name
use Rattle.lines.specs.Headings.{heading_told}
use Rattle.lines.specs.Pieces.{lines_of}
use Rattle.lines.specs.Points.{reading_told, band_told}
use Rattle.answers.specs.Replies.{answer_text}
use Rattle.answers.specs.Sessions.{answers, after, EnteredAll}

-- a text table writes one more row behind those that it has, and its bytes stay when it is cleared
abbrev pub text_writing : Writing
text_writing = record { clears = λ bs rs. bs; extends = text_extended }

-- a new bench over these entries with a new text table over these bytes
abbrev pub fresh : {P : Type 0} → List (Entry P) → List ℕ → Standing P
fresh es bs = record { entries = es; points = []; rows = []; bytes = bs }

module _ {P L : Type 0} (told : ℕ → List ℕ → Result P Fault) (cost step : L → P → ℕ → ℤ) (fields : ℕ) (loss : L) (top : ℕ) (es : List (Entry P)) (bs : List ℕ) where
  -- the answers to the lines behind the first, and then the rows of the table
  abbrev pub session_text : List (List ℕ) → List ℕ
  session_text ls =
      flat_map answer_text (answers told cost step fields loss top 1024 text_writing (fresh es bs) 2 ls)
      ++ table_text (after told cost step fields loss top 1024 text_writing (fresh es bs) 2 ls).rows

  -- the calls that these lines made keep every promise of a run
  abbrev pub SessionKeeps : List (List ℕ) → Type 0
  SessionKeeps ls =
      (h : History P) × EnteredAll told cost step fields loss top 1024 text_writing (fresh es bs) 2 ls [] h
      × Keeps 1024 top 1024 h (after told cost step fields loss top 1024 text_writing (fresh es bs) 2 ls).points (after told cost step fields loss top 1024 text_writing (fresh es bs) 2 ls).rows

-- the entries of a bench that no point has filled yet, and the bytes of its table
unfoldable pub unfilled : {P : Type 0} → P → List (Entry P)
unfilled p = replicate 1024 (record { count = 0; point = p })

unfoldable pub blank_bytes : List ℕ
blank_bytes = replicate 15360 0

-- the three losses
abbrev pub squares : Squares
squares = record {}

abbrev pub absolute : Absolute
absolute = record {}

abbrev pub bands : Bands
bands = record {}

module _ (top : ℕ) where
  -- what the lines behind a heading come to
  abbrev pub rest_text : LossName → List (List ℕ) → List ℕ
  rest_text name.Squares ls = session_text reading_told (λ _. square_cost) (λ _. square_step) 4 squares top (unfilled (record { level = 0; weight = 1 })) blank_bytes ls
  rest_text name.Absolute ls = session_text reading_told (λ _. absolute_cost) (λ _. absolute_step) 4 absolute top (unfilled (record { level = 0; weight = 1 })) blank_bytes ls
  rest_text name.Bands ls = session_text band_told (λ _. band_cost) (λ _. band_step) 5 bands top (unfilled (record { low = 0; high = 0; weight = 1 })) blank_bytes ls

  -- and that the calls they made keep every promise of a run
  abbrev pub RestKeeps : LossName → List (List ℕ) → Type 0
  RestKeeps name.Squares ls = SessionKeeps reading_told (λ _. square_cost) (λ _. square_step) 4 squares top (unfilled (record { level = 0; weight = 1 })) blank_bytes ls
  RestKeeps name.Absolute ls = SessionKeeps reading_told (λ _. absolute_cost) (λ _. absolute_step) 4 absolute top (unfilled (record { level = 0; weight = 1 })) blank_bytes ls
  RestKeeps name.Bands ls = SessionKeeps band_told (λ _. band_cost) (λ _. band_step) 5 bands top (unfilled (record { low = 0; high = 0; weight = 1 })) blank_bytes ls

-- what the lines of an input come to: behind a first line that is refused nothing is read
abbrev pub first_text : Result Heading Fault → List (List ℕ) → List ℕ
first_text (Err f) ls = answer_text (Refused f)
first_text (Ok h) ls = answer_text Done ++ rest_text h.top h.loss ls

abbrev pub FirstKeeps : Result Heading Fault → List (List ℕ) → Type 0
FirstKeeps (Err f) ls = Unit {0}
FirstKeeps (Ok h) ls = RestKeeps h.top h.loss ls

abbrev pub lines_text : List (List ℕ) → List ℕ
lines_text [] = []
lines_text (l ∷ ls) = first_text (heading_told 1 l) ls

abbrev pub LinesKeep : List (List ℕ) → Type 0
LinesKeep [] = Unit {0}
LinesKeep (l ∷ ls) = FirstKeeps (heading_told 1 l) ls

-- the whole output for an input; one that is too long is refused as a whole
abbrev pub console_text : List ℕ → List ℕ
console_text bs = cond (nat_le (length bs) 65536) (lines_text (lines_of bs)) (answer_text (Refused (outside_text InputLength)))

-- the calls that the lines of an input made keep every promise of a run
abbrev pub ConsoleKeeps : List ℕ → Type 0
ConsoleKeeps bs = length bs ≤ 65536 → LinesKeep (lines_of bs)
