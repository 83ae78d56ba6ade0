use Rattle.std.proofs.Common.{◌≡◌, ◌%◌, take, sum}
use Rattle.table.specs.Binary.{weighted}
use Rattle.table.proofs.block.sum_bytes.Given as goal

-- both sums so far, as far as two bytes show them
abbrev pub invariant-loop-byte : goal.invariant-loop-byte
invariant-loop-byte l =
    (l.first ≡ sum (take l.byte-index l.bytes) % 65536) × (l.second ≡ weighted (take l.byte-index l.bytes) % 65536)
