use Rattle.std.proofs.Common.{◌≡◌, [], length, take}
use Rattle.table.specs.Rows.{bytes_after}
use Rattle.bench.specs.Held.{rows_of}
use Rattle.bench.proofs.rows.put_rows.Given as goal

-- the rows so far
abbrev pub invariant-loop-entry : goal.invariant-loop-entry
invariant-loop-entry g l =
    let h = g.H.Holder in
    let done = take (length l.yielded) (rows_of l.entries l.levels) in
    record {
      rows : h.listed l.holder ≡ done;
      room : h.room l.holder ≡ h.room l.initial.holder;
      memory : h.memory l.holder ≡ bytes_after h.extended (h.memory l.initial.holder) [] done;
    }
