use Rattle.std.proofs.Common.{◌≡◌, take}
use Rattle.std.specs.List.{flat_map}
use Rattle.table.specs.Binary.{row_bytes}
use Rattle.table.specs.Text.{over}
use Rattle.table.proofs.block.write_rows.Given as goal

abbrev pub invariant-loop-i : goal.invariant-loop-i
invariant-loop-i l = l.bytes ≡ over l.initial.bytes 0 (flat_map row_bytes (take l.i l.rows))
