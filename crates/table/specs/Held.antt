-- What a binary table holds. Assumes nothing.
use Rattle.std.specs.Prelude.{ℕ, ◌≤◌, List, length}
use Rattle.std.proofs.Common.{arith}
use Rattle.table.specs.declared.binary.BinaryTable.{BinaryTable}
use Rattle.table.specs.Binary.{binary_room}

abbrev pub binary_rows : BinaryTable → List (ℕ × ℕ)
binary_rows t = t.rows

-- all of the lent bytes, in use or not
abbrev pub binary_memory : BinaryTable → List ℕ
binary_memory t = t.bytes.now

pub binary_bounded : (t : BinaryTable) → binary_room (binary_memory t) ≤ 1024
binary_bounded t = omega arith

pub binary_within : (t : BinaryTable) → length (binary_rows t) ≤ binary_room (binary_memory t)
binary_within t = t.fits
