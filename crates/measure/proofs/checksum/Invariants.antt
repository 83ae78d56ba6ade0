use Rattle.std.proofs.Common.{take}
use Rattle.std.specs.List.{FoldsTo}
use Rattle.measure.specs.Checksums.{Mixes}
use Rattle.measure.proofs.checksum.Given as goal

-- the numbers so far are mixed in
abbrev pub invariant-loop-number : goal.invariant-loop-number
invariant-loop-number g l = FoldsTo (Mixes g.T.Into.converts) 0 (take l.number-index l.numbers) l.sum
