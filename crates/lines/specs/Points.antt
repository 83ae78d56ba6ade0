-- The point that a line gives. Assumes nothing.
use Rattle.std.specs.Prelude.{ℕ, List, [], ◌∷◌, Ok, Result, nat_le}
use Rattle.std.specs.List.{slice_get}
use Rattle.fault.specs.declared.Fault.{Fault}
use Rattle.fault.specs.declared.Question.TheVariants.{BandEnds}
use Rattle.fault.specs.Asked.{asked_at}
use Rattle.loss.specs.declared.readings.Reading.{Reading}
use Rattle.loss.specs.declared.spans.Band.{Band}
use Rattle.lines.specs.Fields.{number_at, column_from}
use Rattle.lines.specs.Pieces.{fields_at}
use Rattle.lines.specs.Reads.{and_then}

-- behind the letter and the count: a level and a weight
abbrev pub reading_told : ℕ → List ℕ → Result Reading Fault
reading_told line bs =
    and_then (number_at line 0 65535 bs 2) (λ l. and_then (number_at line 1 1000 bs 3) (λ w. Ok (record { level = l; weight = w })))

-- the two ends and a weight; ends in the wrong order are refused at the low one
abbrev pub band_told : ℕ → List ℕ → Result Band Fault
band_told line bs =
    and_then (number_at line 0 65535 bs 2)
    (λ lo.
    and_then (number_at line 0 65535 bs 3)
    (λ hi.
    and_then (number_at line 1 1000 bs 4)
    (λ w. asked_at line (column_from (slice_get (fields_at bs) 2)) ((BandEnds, nat_le lo hi) ∷ []) (record { low = lo; high = hi; weight = w }))))
