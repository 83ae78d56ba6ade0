use Rattle.std.proofs.Common.{rules, tests, leb, drop, ◌∙◌}
use Rattle.std.specs.Option.{unwrap_or}
use Rattle.std.proofs.lemmas.Iterator.Consumers.{YieldsList-from_first}
use Rattle.std.proofs.lemmas.Iterator.Search.{position_from_yields_List}
use Rattle.table.proofs.Found.{first_from_position}
use Rattle.table.proofs.convert.find.Goals as goal

pub returns : goal.returns
returns g c =
    let rs = g.H.Holder.listed c.args.holder.now in
    let found = position_from_yields_List (λ r. leb c.args.count r.0) c.position.new.self _ c.position.result c.position.ensures.ran
    (YieldsList-from_first (λ r. r) (λ s. drop s.next (g.H.Holder.listed s.holder.now)) rs c.rows.ensures)
    (λ x b q k. search (rules, tests)) in
    c.unwrap_or.ensures ∙ ((λ i. unwrap_or (found i) (c.len.ensures i)) ∙ first_from_position rs c.args.count)
