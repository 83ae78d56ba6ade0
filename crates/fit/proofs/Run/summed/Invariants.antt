use Rattle.std.proofs.Common.{◌≡◌, ◌*◌, ◌^◌, take, pos, neg_ℤ, ◌≤ℤ◌}
use Rattle.fit.specs.Best.{summed_step}
use Rattle.fit.specs.Entries.{points_of}
use Rattle.fit.proofs.Run.summed.Given as goal

-- the sum so far, which each step moves by at most 2^36
abbrev pub invariant-loop-e : goal.invariant-loop-e
invariant-loop-e g l = record {
  sum : l.sum ≡ summed_step (g.L.Loss.slope l.self.loss.now) (points_of (take l.e-index l.e-items)) l.level;
  low : neg_ℤ (pos (l.e-index * 2 ^ 36)) ≤ℤ l.sum;
  high : l.sum ≤ℤ pos (l.e-index * 2 ^ 36);
}
