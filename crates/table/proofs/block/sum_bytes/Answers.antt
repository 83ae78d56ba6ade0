use Rattle.std.proofs.Common.{◌%◌, ◌<◌, [], ◌∷◌, ◌++◌, length, get_or, sum, ap, ◌∙◌, arith}
use Rattle.std.proofs.lemmas.List.{take_all}
use Rattle.std.proofs.lemmas.List.Sums.{sum_by_more}
use Rattle.table.specs.Binary.{weighted, sum_bytes}
use Rattle.table.proofs.Sums.{two_bytes_of, weighted_more}
use Rattle.table.proofs.block.sum_bytes.Goals as goal

pub loop-byte-preserved : goal.loop-byte-preserved
loop-byte-preserved c =
    let h : c.loop-byte.byte-index < length c.args.bytes.now = omega arith in
    let s = sum_by_more (λ x. x) c.args.bytes.now c.loop-byte.byte-index 0 h in
    let w = weighted_more c.args.bytes.now c.loop-byte.byte-index h in
    (omega (arith, s), omega (arith, s, w))

pub returns : goal.returns
unfolding sum_bytes
returns c =
    let full = take_all c.loop-byte.byte-index c.args.bytes.now (omega arith) in
    let f = two_bytes_of c.loop-byte.first (sum c.args.bytes.now) (c.loop-byte.invariant.0 ∙ ap (λ bs. sum bs % 65536) full) in
    let s = two_bytes_of c.loop-byte.second (weighted c.args.bytes.now) (c.loop-byte.invariant.1 ∙ ap (λ bs. weighted bs % 65536) full) in
    (λ i. get_or (c.to_le_bytes.ensures i) 0 0 ∷ get_or (c.to_le_bytes.ensures i) 1 0 ∷ get_or (c.to_le_bytes-2.ensures i) 0 0 ∷ get_or (c.to_le_bytes-2.ensures i) 1 0 ∷ [])
    ∙ (λ i. f i ++ s i)
