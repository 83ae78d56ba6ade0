use Rattle.std.proofs.Common.{◌≡◌, ◌+◌, drop}
use Rattle.table.specs.Opening.{first_stray}
use Rattle.table.proofs.opening.block.first_stray.Given as goal

-- the rows before i follow one another
abbrev pub invariant-loop-i : goal.invariant-loop-i
invariant-loop-i l = first_stray l.initial.least l.rows ≡ l.i + first_stray l.least (drop l.i l.rows)
