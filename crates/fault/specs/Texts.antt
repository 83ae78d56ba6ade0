-- A refusal in figures. Assumes nothing.
use Rattle.std.specs.Prelude.{ℕ, List, ◌∷◌, ◌++◌, decimal}
use Rattle.fault.specs.declared.Fault.{Fault}
use Rattle.fault.specs.Numbers.{number_of, layer_of}

-- the layer and the number of the question, then the line and the column, with single spaces between
abbrev pub fault_text : Fault → List ℕ
fault_text f = decimal (layer_of f.question) ++ (32 ∷ decimal (number_of f.question)) ++ (32 ∷ decimal f.line) ++ (32 ∷ decimal f.column)
