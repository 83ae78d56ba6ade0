use Rattle.std.proofs.Common.{ap, ◌∙◌, arith}
use Rattle.table.specs.Text.{over}
use Rattle.table.specs.Binary.{block_body, sum_bytes, block_bytes}
use Rattle.table.proofs.Blocks.{filled, length_body, length_sums}
use Rattle.table.proofs.block.Block.bytes.Goals as goal

pub returns : goal.returns
unfolding block_bytes
returns c =
    filled 512 508 c.write.new.bytes c.write-2.new.bytes _ _
    (c.write.ensures ∙ ap (over _ 0) c.body-body.ensures)
    (c.write-2.ensures ∙ ap (over c.write.new.bytes 508) (c.sum_bytes.ensures ∙ ap sum_bytes c.body-body.ensures))
    (length_body c.args.self.now.number c.args.self.now.rows.now c.args.self.now.few)
    (omega (arith, length_sums (block_body c.args.self.now.number c.args.self.now.rows.now)))
