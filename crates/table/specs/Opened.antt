-- The rows that opening gives. Assumes nothing.
use Rattle.std.specs.Prelude.{ℕ, List, [], Ok, Err, Result}
use Rattle.arrayvec.specs.ArrayVec.{ArrayVec}
use Rattle.fault.specs.declared.Fault.{Fault}

abbrev pub rows_answered : Result (ArrayVec (ℕ × ℕ)) Fault → Result (List (ℕ × ℕ)) Fault
rows_answered (Ok v) = Ok v.items
rows_answered (Err e) = Err e

-- refused bytes have no rows
abbrev pub rows_or_none : Result (List (ℕ × ℕ)) Fault → List (ℕ × ℕ)
rows_or_none (Ok rs) = rs
rows_or_none (Err e) = []
