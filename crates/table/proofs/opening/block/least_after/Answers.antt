use Rattle.std.proofs.Common.{◌∙◌}
use Rattle.table.proofs.Order.{least_last}
use Rattle.table.proofs.opening.block.least_after.Goals as goal

pub returns-in-Some : goal.returns-in-Some
returns-in-Some c = let h = c.in-Some.ensures.item in c.row_after.ensures ∙ least_last c.args.rows.now c.in-Some.row.now h.3.0 h.1
