use Rattle.std.proofs.Common.{take}
use Rattle.fit.specs.Entries.{points_of}
use Rattle.fit.specs.Pooling.{newest_first, Stacked}
use Rattle.fit.proofs.fit.Given as goal

-- the points so far are pooled
abbrev pub invariant-loop-i : goal.invariant-loop-i
invariant-loop-i g l = Stacked (g.L.Loss.slope l.loss) l.top (newest_first l.stack) (points_of (take l.i l.entries))
