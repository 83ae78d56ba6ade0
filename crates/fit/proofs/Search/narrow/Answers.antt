use Rattle.std.proofs.Common.{◌^◌, arith}
use Rattle.std.proofs.lemmas.Int.{ints}
use Rattle.fit.specs.Best.{summed_step}
use Rattle.fit.specs.Entries.{points_of}
use Rattle.fit.proofs.Bests.{first_up_up, first_up_down}
use Rattle.fit.proofs.Search.narrow.Goals as goal

pub returns-then-sum-lt0-clause-found : goal.returns-then-sum-lt0-clause-found
returns-then-sum-lt0-clause-found g c =
    let run = c.args.run.now in
    first_up_up (g.L.Loss.slope run.loss.now) (2 ^ 16) (g.met.L.Loss.convex run.loss.now) (points_of run.entries.now) _ _ _ (omega arith) (omega arith) (omega arith) (omega (arith, ints, c.summed-sum.ensures))

pub returns-else-sum-lt0-clause-found : goal.returns-else-sum-lt0-clause-found
returns-else-sum-lt0-clause-found g c =
    let run = c.args.run.now in
    first_up_down (summed_step (g.L.Loss.slope run.loss.now) (points_of run.entries.now)) _ _ _ (omega arith) (omega arith) (omega (arith, ints, c.summed-sum.ensures))
