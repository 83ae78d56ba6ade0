use Rattle.std.proofs.Common.{◌≡◌, ◌+◌, ◌*◌, ◌<◌, length, get_or, take, sym, ap, ◌∙◌, arith, rules}
use Rattle.std.specs.List.{flat_map}
use Rattle.std.proofs.lemmas.List.{length-take-le}
use Rattle.table.specs.Text.{over}
use Rattle.table.specs.Binary.{row_bytes}
use Rattle.table.proofs.Written.{over_join}
use Rattle.table.proofs.Blocks.{length_rows, rows_more}
use Rattle.table.proofs.block.write_rows.Goals as goal

pub loop-i-init : goal.loop-i-init
unfolding over
loop-i-init c = search rules

pub loop-i-preserved : goal.loop-i-preserved
loop-i-preserved c =
    let rows = c.args.rows.now in
    let i = c.loop-i.i in
    let h : i < length rows = omega arith in
    let done = flat_map row_bytes (take i rows) in
    let far : 8 * i ≡ 0 + length done = omega (arith, length_rows (take i rows), length-take-le i rows (omega arith)) in
    c.write.ensures
    ∙ (ap (over c.loop-i.bytes (8 * i)) c.row_bytes.ensures
    ∙ (ap (λ bs. over bs (8 * i) (row_bytes (get_or rows i (0, 0)))) c.loop-i.invariant
    ∙ (ap (λ k. over (over c.args.bytes.now 0 done) k (row_bytes (get_or rows i (0, 0)))) far
    ∙ (over_join c.args.bytes.now 0 done (row_bytes (get_or rows i (0, 0))) (omega (arith, far, c.requires))
    ∙ ap (over c.args.bytes.now 0) (sym (rows_more rows i h))))))
