use Rattle.std.proofs.Common.{◌≡◌, ◌<◌, length, get_or, take, ap, ◌∙◌, arith, rules}
use Rattle.std.proofs.lemmas.Grind.{common_steps}
use Rattle.std.proofs.lemmas.List.{take_all}
use Rattle.fit.specs.declared.Entry.{Entry}
use Rattle.bench.proofs.Places.{Parted, parted_at, found_at, found_none}
use Rattle.bench.proofs.list.PointList.find.Given as given
use Rattle.bench.proofs.list.PointList.find.Goals as goal
use Rattle.bench.proofs.list.PointList.find.Goals.{After-partition_point-at}

-- the points below the count lie before the place, and the others from it on
parts : (g : given.Over) (c : After-partition_point-at g) → Parted c.args.count (take c.args.self.now.held c.args.self.now.entries.now) c.partition_point-at.result
parts g c =
    let found = c.partition_point-at in
    parted_at c.args.count _ found.result c.args.self.now.order.0 found.ensures.bound found.ensures.partitioned (λ a r q k. search rules) (grind (arith, common_steps, c.points-points.ensures, take_all))

-- In both arms omega reads the comparison itself, so that count == e.count would do as well.
pub returns-in-Some-clause-place : goal.returns-in-Some-clause-place
returns-in-Some-clause-place g c =
    let es = take c.args.self.now.held c.args.self.now.entries.now in
    let e = c.in-Some.e.now in
    let at = c.partition_point-at.result in
    let same = c.points-points.ensures in
    let inside : at < length es = grind (arith, common_steps, c.in-Some.ensures.lookup, same) in
    let here : get_or es at e ≡ e = grind (arith, common_steps, c.in-Some.ensures.lookup, same) in
    found_at c.args.count es at e c.args.self.now.order.0 inside (ap (λ (x : Entry g.row.P.Denot). x.count) here ∙ omega arith)

pub returns-in_default-clause-place : goal.returns-in_default-clause-place
returns-in_default-clause-place g c =
    let es = take c.args.self.now.held c.args.self.now.entries.now in
    let e = c.in-Some.e.now in
    let at = c.partition_point-at.result in
    let same = c.points-points.ensures in
    let here : (d : Entry g.row.P.Denot) → at < length es → get_or es at d ≡ e = grind (arith, common_steps, c.in-Some.ensures.lookup, same) in
    found_none c.args.count es at c.args.self.now.order.0 (parts g (goal.at.returns-in_default-clause-place g c).After-partition_point-at) (λ d l is. absurd (omega (arith, ap (λ (x : Entry g.row.P.Denot). x.count) (here d l), is)))

pub returns-in_default-2-clause-place : goal.returns-in_default-2-clause-place
returns-in_default-2-clause-place g c =
    let es = take c.args.self.now.held c.args.self.now.entries.now in
    let at = c.partition_point-at.result in
    let same = c.points-points.ensures in
    let outside : at < length es → ⊥ = grind (arith, common_steps, c.in_default.is, c.get.ensures.lookup, same) in
    found_none c.args.count es at c.args.self.now.order.0 (parts g (goal.at.returns-in_default-2-clause-place g c).After-partition_point-at) (λ d l is. outside l)
