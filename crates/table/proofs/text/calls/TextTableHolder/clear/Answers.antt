use Rattle.std.proofs.Common.{rules}
use Rattle.table.specs.Text.{table_text}
use Rattle.table.proofs.text.calls.TextTableHolder.clear.Goals as goal

pub invariant_of-self : goal.invariant_of-self
unfolding table_text
invariant_of-self c = search rules
