use Rattle.std.proofs.Common.{◌+◌, ◌^◌, ◌∷◌, length, take, drop, ap, subst, arith, length-take}
use Rattle.std.proofs.lemmas.List.{length-map}
use Rattle.fit.specs.Entries.{points_of}
use Rattle.fit.specs.Pooling.{newest_first}
use Rattle.fit.specs.declared.Entry.{Entry}
use Rattle.fit.proofs.Bests.{Rises, rises_below}
use Rattle.fit.proofs.Steps.{Entered, Falls, falls, length_newest, stacked_depth, entered, places, pooled}
use Rattle.fit.proofs.Stack.enter.Given as given
use Rattle.fit.proofs.Stack.enter.Goals as goal
use Rattle.fit.proofs.Stack.enter.Goals.{After-meeting-guess}

pub push-requires : goal.push-requires
push-requires g c =
    let run = c.args.run.now in
    let seen = take c.args.at run.entries.now in
    omega (arith, length_newest c.args.self.now, stacked_depth (g.L.Loss.slope run.loss.now) c.args.top _ (points_of seen) c.requires.stacked, length-map seen (λ (x : Entry g.row.L-Point.Denot). x.point), length-take c.args.at run.entries.now)

pub loop-before-init : goal.loop-before-init
loop-before-init g c =
    let run = c.args.run.now in
    let step = g.L.Loss.slope run.loss.now in
    let made = c.block.ensures in
    let rises : Rises step c.args.top = rises_below step (2 ^ 16) c.args.top (omega arith) (g.met.L.Loss.convex run.loss.now) in
    rw c.push.ensures.newest
    (entered step c.args.top rises run.entries.now (newest_first c.args.self.now) c.block.result c.args.at c.requires.at c.requires.stacked made.start made.end (rw (c.between.ensures.from, c.between.ensures.to) at made.level))

-- the two newest blocks, as the stack has them
two : (g : given.Over) (c : After-meeting-guess g) → Falls (newest_first c.loop-before.self) c.in-Some.before c.in-Some.newest
two g c = falls (newest_first c.loop-before.self) c.in-Some.before c.in-Some.newest c.in-Some.ensures

both : (g : given.Over) (c : After-meeting-guess g) → Entered (g.L.Loss.slope c.args.run.now.loss.now) c.args.top (c.in-Some.newest ∷ c.in-Some.before ∷ drop 2 (newest_first c.loop-before.self)) (points_of (take (c.args.at + 1) c.args.run.now.entries.now))
both g c = subst (λ bs. Entered (g.L.Loss.slope c.args.run.now.loss.now) c.args.top bs (points_of (take (c.args.at + 1) c.args.run.now.entries.now))) (two g c).is c.loop-before.invariant

rising : (g : given.Over) (c : After-meeting-guess g) → Rises (g.L.Loss.slope c.args.run.now.loss.now) c.args.top
rising g c =
    rises_below (g.L.Loss.slope c.args.run.now.loss.now) (2 ^ 16) c.args.top (omega arith) (g.met.L.Loss.convex c.args.run.now.loss.now)

pub block-requires-in-Some : goal.block-requires-in-Some
block-requires-in-Some g c =
    let w = (goal.at.block-requires-in-Some g c).After-meeting-guess in
    places (g.L.Loss.slope c.args.run.now.loss.now) c.args.top (rising g w) c.args.run.now.entries.now _ _ _ _ (both g w)

pub pool-requires : goal.pool-requires
pool-requires g c =
    let w = (goal.at.pool-requires g c).After-meeting-guess in
    omega (arith, ap length (two g w).is, length_newest c.loop-before.self)

pub loop-before-preserved : goal.loop-before-preserved
loop-before-preserved g c =
    let w = (goal.at.loop-before-preserved g c).After-meeting-guess in
    let run = c.args.run.now in
    let made = c.block-in-Some.ensures in
    let step = g.L.Loss.slope run.loss.now in
    rw c.pool.ensures.newest
    (pooled step c.args.top (rising g w) run.entries.now _ _ c.in-Some.before c.in-Some.newest c.block-in-Some.result (both g w) (two g w).lower made.start made.end (rw (c.between-search.ensures.from, c.between-search.ensures.to) at made.level))
