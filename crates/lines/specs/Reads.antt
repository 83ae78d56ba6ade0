-- How the questions of a line follow one another. Assumes nothing.
use Rattle.std.specs.Prelude.{Some, None, Ok, Err, Option, Result}

-- what comes next where nothing was refused so far
abbrev pub and_then : {X Y E : Type 0} → Result X E → (X → Result Y E) → Result Y E
and_then (Ok x) f = f x
and_then (Err e) f = Err e

-- what comes next where something was found
abbrev pub and_some : {X Y : Type 0} → Option X → (X → Option Y) → Option Y
and_some None f = None
and_some (Some x) f = f x
