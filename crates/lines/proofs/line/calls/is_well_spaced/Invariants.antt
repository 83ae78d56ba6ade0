use Rattle.std.proofs.Common.{◌≡◌, drop}
use Rattle.lines.specs.Pieces.{spaced_after, well_spaced}
use Rattle.lines.proofs.line.calls.is_well_spaced.Given as goal

abbrev pub invariant-loop-byte : goal.invariant-loop-byte
invariant-loop-byte l = spaced_after l.before (drop l.byte-index l.bytes) ≡ well_spaced l.bytes
