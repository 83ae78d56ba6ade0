use Rattle.std.proofs.Common.{◌≡◌, ◌+◌, ◌*◌, ◌≤◌, ◌++◌, length}
use Rattle.table.specs.Opening.{rows_read}
use Rattle.table.proofs.opening.read.Given as goal

-- with the rows of the places that are left there will be all that are to be read
abbrev pub invariant-loop-place : goal.invariant-loop-place
invariant-loop-place l =
    let left = l.place-iterator.n in
    let rest = l.place-iterator.iter.rest.now in
    record {
      size : l.place-iterator.iter.size ≡ 8;
      enough : 8 * left ≤ length rest;
      room : length l.found.items + left ≤ 1024;
      rows : l.found.items ++ rows_read left rest ≡ l.initial.found.items ++ rows_read l.count l.places;
    }
