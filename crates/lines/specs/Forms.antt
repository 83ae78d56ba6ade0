-- Which lines are read at all. Assumes nothing.
use Rattle.std.specs.Prelude.{ℕ, List, [], ◌∷◌, length, Result, nat_le}
use Rattle.fault.specs.declared.Fault.{Fault}
use Rattle.fault.specs.declared.Question.TheVariants.{LineLength, LineSpacing}
use Rattle.fault.specs.Asked.{asked_at}
use Rattle.lines.specs.declared.line.Line.{Line}
use Rattle.lines.specs.declared.fields.Placed.{Placed}
use Rattle.lines.specs.Fields.{field_bytes}
use Rattle.lines.specs.Pieces.{well_spaced}

-- what is asked of every line before its fields are read
abbrev pub formed : (line : ℕ) → List ℕ → Result (Unit {0}) Fault
formed line bs = asked_at line 1 ((LineLength, nat_le (length bs) 64) ∷ (LineSpacing, well_spaced bs) ∷ []) tt

-- a line's number and its bytes
abbrev pub line_parts : Line → ℕ × List ℕ
line_parts l = (l.number, l.bytes.now)

-- a field's column and its bytes
abbrev pub placed_parts : Placed → ℕ × List ℕ
placed_parts p = (p.column, field_bytes p.field)
