use Rattle.std.proofs.Common.{◌≡◌, ℕ, ◌<◌, ◌≤◌, List, length, get_or, take, reverse, sym, subst, arith, length-take}
use Rattle.std.proofs.lemmas.List.{get_or-take}
use Rattle.fit.specs.Pooling.{Covers}
use Rattle.fit.specs.declared.Block.{Block}
use Rattle.fit.proofs.Piles.{none, Lies, covers_at, wrote}
use Rattle.fit.proofs.Stack.write.Goals as goal

-- the block that a turn reads, in the array
read : (bs : List Block) (n k : ℕ) → k < length (take n bs) → get_or (take n bs) k none ≡ get_or bs k none
read bs n k h = get_or-take n bs k none (omega (arith, length-take n bs))

lies : (bs : List Block) (n m k : ℕ) → n ≤ length bs → Covers (reverse (take n bs)) m → k < length (take n bs) → Lies bs k m (get_or (take n bs) k none)
lies bs n m k l c h =
    subst (Lies bs k m) (sym (read bs n k h)) (covers_at bs n m k l c (omega (arith, length-take n bs)))

pub write-requires : goal.write-requires
write-requires c =
    let s = c.args.self.now in
    let at = lies s.blocks s.depth (length c.args.levels.now) c.loop-block.block-index (omega arith) c.requires c.loop-block-test.true in
    (at.order, omega (arith, at.within))

pub loop-block-preserved : goal.loop-block-preserved
loop-block-preserved c =
    let s = c.args.self.now in
    let k = c.loop-block.block-index in
    let at = lies s.blocks s.depth (length c.loop-block.levels) k (omega arith) (subst (Covers (reverse (take s.depth s.blocks))) (sym c.loop-block.auto.levels) c.requires) c.loop-block-test.true in
    wrote s.blocks k (get_or (take s.depth s.blocks) k none) c.loop-block.levels c.write.new.levels (omega (arith, length-take s.depth s.blocks)) (read s.blocks s.depth k c.loop-block-test.true) c.loop-block.invariant at c.write.ensures
