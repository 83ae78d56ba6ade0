use Rattle.std.proofs.Common.{rules}
use Rattle.table.specs.Text.{table_text}
use Rattle.table.proofs.text.TextTable.new.Goals as goal

pub invariant_of-result : goal.invariant_of-result
unfolding table_text
invariant_of-result c = search rules
