use Rattle.std.proofs.Common.{◌-◌, ◌++◌, replicate, ap, ◌∙◌}
use Rattle.std.specs.List.{flat_map}
use Rattle.table.specs.Binary.{row_bytes, block_places}
use Rattle.table.proofs.Blocks.{length_rows, over_zeros}
use Rattle.table.proofs.block.Block.places.Goals as goal

pub returns : goal.returns
unfolding block_places
returns c =
    let written = flat_map row_bytes c.args.self.now.rows.now in
    c.write_rows.ensures
    ∙ (over_zeros 500 written ∙ ap (λ k. written ++ replicate (500 - k) 0) (length_rows c.args.self.now.rows.now))
