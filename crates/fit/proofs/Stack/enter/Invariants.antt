use Rattle.std.proofs.Common.{◌+◌, take}
use Rattle.fit.specs.Entries.{points_of}
use Rattle.fit.specs.Pooling.{newest_first}
use Rattle.fit.proofs.Steps.{Entered}
use Rattle.fit.proofs.Stack.enter.Given as goal

-- all is pooled but that the newest block may be lower than the one before
abbrev pub invariant-loop-before : goal.invariant-loop-before
invariant-loop-before g l =
    Entered (g.L.Loss.slope l.run.loss.now) l.top (newest_first l.self) (points_of (take (l.at + 1) l.run.entries.now))

abbrev pub decreases-loop-before : goal.decreases-loop-before
decreases-loop-before g l = l.self.depth
