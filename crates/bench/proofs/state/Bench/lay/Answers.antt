use Rattle.std.proofs.Common.{◌≡◌, ◌∷◌, sym, refl, ap, ◌∙◌, subst, arith}
use Rattle.std.proofs.lemmas.Bool.Decides.{nat_tests}
use Rattle.fit.specs.Cheapest.{LeastCheapest}
use Rattle.fit.specs.Entries.{points_of}
use Rattle.fit.specs.MaxMin.{fitted}
use Rattle.table.specs.Rows.{once_accepted}
use Rattle.bench.specs.Held.{places_of, laid_rows, lay_answer}
use Rattle.bench.specs.Runs.{TableOf, Keeps}
use Rattle.bench.specs.Runs.Event.{laid}
use Rattle.bench.specs.State.{held_of, memory_of}
use Rattle.bench.proofs.Rowed.{laid_table}
use Rattle.bench.proofs.Steps.{step_lay}
use Rattle.bench.proofs.state.Bench.lay.Goals as goal

pub returns-clause-law : goal.returns-clause-law
returns-clause-law g c =
    let b = c.args.self.now in
    let es = held_of b in
    let cost = g.L.Loss.cost c.args.loss.now in
    let step = g.L.Loss.slope c.args.loss.now in
    let h = g.H.Holder in
    let room = h.room c.args.holder.now in
    let before = h.listed c.args.holder.now in
    let after = h.listed c.lay_rows.new.holder in
    let told = c.lay_rows.ensures in
    let points = c.points-points.ensures in
    let best = subst (λ x. LeastCheapest cost b.top (points_of x) (fitted step b.top (points_of x))) points told.cheapest in
    let made = subst (TableOf cost b.top es) (sym (told.rows ∙ ap (laid_rows step b.top) points)) (laid_table cost step b.top es b.list.order.0 best) in
    let answer : c.lay_rows.result ≡ lay_answer room es = grind (arith, nat_tests) in
    λ hs k.
    subst (λ r. Keeps (places_of (memory_of b)) b.top r (laid cost c.lay_rows.result after ∷ hs) es after) (sym told.room)
    (step_lay (places_of (memory_of b)) b.top room hs es before k cost c.lay_rows.result after answer (subst (λ r. after ≡ once_accepted r after before) (sym told.answer) refl) (λ _. made))
