use Rattle.table.proofs.Reading.{one_reading}
use Rattle.table.proofs.text.TextTable.text.Goals as goal

pub returns-clause-reading : goal.returns-clause-reading
returns-clause-reading c = one_reading
