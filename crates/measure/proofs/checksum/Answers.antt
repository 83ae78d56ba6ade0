use Rattle.std.proofs.Common.{add-one, ◌≡◌, ◌+◌, refl, take, [], ◌∷◌, ◌++◌}
use Rattle.std.proofs.lemmas.Fn.{FoldsTo-push}
use Rattle.std.proofs.Math.Seq.{take-suc}
use Rattle.measure.specs.Checksums.{Mixes}
use Rattle.measure.proofs.checksum.Goals as goal

-- one number more is mixed in
pub loop-number-preserved : goal.loop-number-preserved
loop-number-preserved g c =
    let i = c.loop-number.number-index in
    let numbers = c.args.numbers.now in
    let number = c.number-item.result in
    let R = Mixes g.T.Into.converts in
    let more = FoldsTo-push R 0 (take i numbers) c.loop-number.sum number _ c.loop-number.invariant (c.into-value.result, c.into-value.ensures, refl) in
    let split : take (i + 1) numbers ≡ take i numbers ++ number ∷ [] = rw (add-one, take-suc numbers i number c.loop-number-test.true, ← c.number-item.is) refl in
    rw split more
