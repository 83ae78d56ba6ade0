use Rattle.std.proofs.Common.{◌≡◌, take, reverse}
use Rattle.fit.specs.Pooling.{spread}
use Rattle.fit.proofs.Piles.{end_of}
use Rattle.fit.proofs.Stack.write.Given as goal

-- the levels of the blocks so far
abbrev pub invariant-loop-block : goal.invariant-loop-block
invariant-loop-block l =
    let done = reverse (take l.block-index l.self.blocks) in take (end_of done) l.levels ≡ spread done
