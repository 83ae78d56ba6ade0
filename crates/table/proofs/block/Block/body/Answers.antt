use Rattle.std.proofs.Common.{ℕ, length, length-take, refl, ap, ◌∙◌, arith}
use Rattle.table.specs.Text.{over}
use Rattle.table.specs.Binary.{block_head, block_body}
use Rattle.table.proofs.Blocks.{filled, length_places}
use Rattle.table.proofs.block.Block.body.Goals as goal

-- The number of rows is shown by arithmetic, with length-take for a head made of the first of them: one that says too few
-- is refused for its number, and not for its form.
pub returns : goal.returns
unfolding block_body
returns c =
    let number = c.args.self.now.number in
    let rows = c.args.self.now.rows.now in
    filled 508 8 c.write.new.bytes c.write-2.new.bytes (block_head number (length rows)) _
    (c.write.ensures ∙ ap (over _ 0) (c.head.ensures ∙ ap (block_head number) (omega (arith, length-take {A = ℕ × ℕ}))))
    (c.write-2.ensures ∙ ap (over c.write.new.bytes 8) c.places.ensures)
    refl
    (omega (arith, length_places rows c.args.self.now.few))
