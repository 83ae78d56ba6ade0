-- The points of a slice of entries. Assumes nothing.
use Rattle.std.specs.Prelude.{List, map}
use Rattle.fit.specs.declared.Entry.{Entry}

abbrev pub points_of : {P : Type 0} → List (Entry P) → List P
points_of es = map (λ e. e.point) es
