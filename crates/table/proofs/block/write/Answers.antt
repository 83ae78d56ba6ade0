use Rattle.std.proofs.Common.{◌++◌, length, take, drop, ap, ◌∙◌, arith}
use borrow.Rule.Slice.PartMut.{put_mid}
use Rattle.std.proofs.lemmas.List.{drop-drop}
use Rattle.table.specs.Text.{over}
use Rattle.table.proofs.block.write.Goals as goal

pub returns : goal.returns
unfolding over
returns c =
    let n = length c.args.part.now in
    ap (put_mid c.args.at _ c.args.bytes.now) c.copy_from_slice.ensures.after
    ∙ ap (λ xs. take c.args.at c.args.bytes.now ++ (c.args.part.now ++ xs))
    (ap (λ k. drop k (drop c.args.at c.args.bytes.now)) {y = n} (omega arith) ∙ drop-drop n c.args.at c.args.bytes.now)
