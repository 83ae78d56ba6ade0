use Rattle.std.proofs.Common.{rules}
use Rattle.table.specs.Binary.{binary_bytes}
use Rattle.table.proofs.binary.calls.BinaryTableHolder.clear.Goals as goal

pub invariant_of-self : goal.invariant_of-self
unfolding binary_bytes
invariant_of-self c = search rules
