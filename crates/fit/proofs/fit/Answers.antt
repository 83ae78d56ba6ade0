use Rattle.std.proofs.Common.{◌^◌, sym, ◌∙◌, subst, arith}
use Rattle.std.proofs.lemmas.List.{length-map, take_all}
use Rattle.fit.specs.Cheapest.{LeastCheapest}
use Rattle.fit.specs.Entries.{points_of}
use Rattle.fit.specs.Pooling.{newest_first, spread, Covers, Stacked}
use Rattle.fit.specs.declared.Entry.{Entry}
use Rattle.fit.proofs.Bests.{Rises, rises_below}
use Rattle.fit.proofs.Cheap.{least_cheapest}
use Rattle.fit.proofs.Cuts.{stacked_covers, stacked_cut, stacked_table}
use Rattle.fit.proofs.Reaches.{reaches_all}
use Rattle.fit.proofs.fit.Given as given
use Rattle.fit.proofs.fit.Goals as goal
use Rattle.fit.proofs.fit.Goals.{After-loop-i}

-- all the points are pooled
stacked : (g : given.Over) (c : After-loop-i g) → Stacked (g.L.Loss.slope c.args.loss.now) c.args.top (newest_first c.loop-i.stack) (points_of c.args.entries.now)
stacked g c =
    subst (λ t. Stacked (g.L.Loss.slope c.args.loss.now) c.args.top (newest_first c.loop-i.stack) (points_of t)) (take_all c.loop-i.i c.args.entries.now c.loop-i-test.false) c.loop-i.invariant

pub write-requires : goal.write-requires
write-requires g c =
    let all = stacked g (goal.at.write-requires g c).After-loop-i in
    let long = length-map c.args.entries.now (λ (x : Entry g.row.L-Point.Denot). x.point) in
    subst (Covers (newest_first c.loop-i.stack)) (long ∙ omega arith) (stacked_covers (g.L.Loss.slope c.args.loss.now) c.args.top _ _ all)

pub returns-clause-after : goal.returns-clause-after
returns-clause-after g c =
    let loss = c.args.loss.now in
    let top = c.args.top in
    let ps = points_of c.args.entries.now in
    let bs = newest_first c.loop-i.stack in
    let step = g.L.Loss.slope loss in
    let all = stacked g (goal.at.returns-clause-after g c).After-loop-i in
    let rises : Rises step top = rises_below step (2 ^ 16) top (omega arith) (g.met.L.Loss.convex loss) in
    let table = stacked_table step top bs ps all in
    c.write.ensures ∙ reaches_all step top rises ps (spread bs) table.within table.one_each (λ m t. stacked_cut step top m bs ps t all)

pub returns-clause-cheapest : goal.returns-clause-cheapest
returns-clause-cheapest g c =
    let loss = c.args.loss.now in
    let top = c.args.top in
    let ps = points_of c.args.entries.now in
    let bs = newest_first c.loop-i.stack in
    let step = g.L.Loss.slope loss in
    let all = stacked g (goal.at.returns-clause-cheapest g c).After-loop-i in
    λ _. subst (LeastCheapest (g.L.Loss.cost loss) top ps) (sym c.write.ensures) (least_cheapest (g.L.Loss.cost loss) step top (λ p l h. g.met.L.Loss.difference loss p l (omega arith)) ps (spread bs) (λ m t. stacked_cut step top m bs ps t all) (stacked_table step top bs ps all))
