use Rattle.std.proofs.Common.{◌≡◌, ◌-◌}
use Rattle.fit.specs.Crossings.{crossing_of}
use Rattle.fit.proofs.Search.crossing.Given as goal

-- what is looked for still lies in what is left
abbrev pub invariant-loop-level : goal.invariant-loop-level
invariant-loop-level g l =
    let found = crossing_of (g.L.Loss.slope l.run.loss.now) l.run.entries.now in
    found l.self.from l.self.to ≡ found l.fn.self.from l.fn.self.to

abbrev pub decreases-loop-level : goal.decreases-loop-level
decreases-loop-level g l = l.self.to - l.self.from
