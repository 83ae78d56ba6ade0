use Rattle.std.proofs.Common.{rules}
use Rattle.table.specs.Binary.{binary_bytes}
use Rattle.table.proofs.binary.BinaryTable.new.Goals as goal

pub invariant_of-result : goal.invariant_of-result
unfolding binary_bytes
invariant_of-result c = search rules
