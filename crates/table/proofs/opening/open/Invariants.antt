use Rattle.std.proofs.Common.{◌≡◌, ◌+◌, ◌*◌, ◌/◌, [], length}
use Rattle.table.specs.Opening.{opened_from}
use Rattle.table.proofs.opening.open.Given as goal

-- the blocks that are left go on where the rows found end
abbrev pub invariant-loop-number : goal.invariant-loop-number
invariant-loop-number l =
    let number = l.number-iterator.count in
    let rest = l.number-iterator.iter.rest.now in
    record {
      size : l.number-iterator.iter.size ≡ 512;
      left : 512 * number + length rest ≡ 512 * l.blocks;
      answer : opened_from (length rest / 512) number l.found.items rest ≡ opened_from l.blocks 0 [] l.bytes;
    }
