use Rattle.std.proofs.Common.{◌∷◌, drop, sym, ap, ◌∙◌, arith}
use Rattle.fit.proofs.Piles.{newest_two}
use Rattle.fit.proofs.Stack.pool.Goals as goal

pub returns-clause-newest : goal.returns-clause-newest
returns-clause-newest c =
    c.push.ensures.newest ∙ ap (λ t. c.args.both ∷ t) (sym (ap (drop 2) (newest_two c.args.self.now.blocks c.args.self.now.depth (omega arith) (omega arith))))
