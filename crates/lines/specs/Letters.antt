-- The letters that lines begin with. Assumes nothing.
use Rattle.std.specs.Prelude.{ℕ, cond, List, [], Some, None, Option, ◌==◌, slice_index, slice_index_or}
use Rattle.lines.specs.declared.verbs.Verb.{Verb}
use Rattle.lines.specs.declared.verbs.Verb.TheVariants.{Point, Drop, Lay, Convert}
use Rattle.lines.specs.declared.verbs.LossName.{LossName}
use Rattle.lines.specs.declared.verbs.LossName.TheVariants.{Squares, Absolute, Bands}
use Rattle.lines.specs.Fields.{one_letter}
use Rattle.lines.specs.Pieces.{fields_of}

-- the letter that a line begins with, if its first field is one
abbrev pub first_letter : List ℕ → Option ℕ
first_letter bs = let f = slice_index_or (fields_of bs) 0 [] in cond (one_letter f) (Some (slice_index f 0)) None

-- p, d, l and c
abbrev pub verb_of : ℕ → Option Verb
verb_of b = cond (b == 112) (Some Point) (cond (b == 100) (Some Drop) (cond (b == 108) (Some Lay) (cond (b == 99) (Some Convert) None)))

-- s, a and b
abbrev pub loss_of : ℕ → Option LossName
loss_of b = cond (b == 115) (Some Squares) (cond (b == 97) (Some Absolute) (cond (b == 98) (Some Bands) None))

-- how many fields a line of a verb has, its letter among them, where a point's line has so many
abbrev pub verb_fields : ℕ → Verb → ℕ
verb_fields n Point = n
verb_fields n Drop = 2
verb_fields n Lay = 1
verb_fields n Convert = 2
