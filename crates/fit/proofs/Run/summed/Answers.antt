use Rattle.std.proofs.Common.{arith}
use Rattle.std.proofs.lemmas.Int.{ints}
use Rattle.fit.proofs.Runs.{summed_more}
use Rattle.fit.proofs.Run.summed.Goals as goal

pub loop-e-preserved : goal.loop-e-preserved
loop-e-preserved g c =
    let run = c.args.self.now in
    let more =
    summed_more run.entries.now (g.L.Loss.slope run.loss.now) c.args.level c.loop-e.e-index c.e-item.result
    c.loop-e-test.true c.e-item.is in
    record {
      sum = omega (arith, ints, more);
      low = omega (arith, ints);
      high = omega (arith, ints);
    }
