-- What the first line says. Assumes nothing.
use Rattle.std.specs.Prelude.{ℕ, List, Ok, Result}
use Rattle.fault.specs.declared.Fault.{Fault}
use Rattle.lines.specs.declared.headings.Heading.{Heading}
use Rattle.lines.specs.declared.verbs.LossName.{LossName}
use Rattle.lines.specs.Fields.{number_at}
use Rattle.lines.specs.Letters.{loss_of}
use Rattle.lines.specs.Reads.{and_then}
use Rattle.lines.specs.Requests.{begun}

-- the highest level, behind the letter of the loss
abbrev pub with_top : (line : ℕ) → List ℕ → LossName → Result Heading Fault
with_top line bs n = and_then (number_at line 0 65535 bs 1) (λ t. Ok (record { loss = n; top = t }))

-- the loss and the highest level of a bench, or the refusal of the line that is to give them
abbrev pub heading_told : (line : ℕ) → List ℕ → Result Heading Fault
heading_told line bs = and_then (begun loss_of (λ _. 2) line bs) (with_top line bs)
