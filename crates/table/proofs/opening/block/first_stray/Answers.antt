use Rattle.std.proofs.Common.{sym, ◌∙◌, arith}
use Rattle.table.proofs.Order.{stray_here}
use Rattle.table.proofs.opening.block.first_stray.Goals as goal

pub returns-then-not-row_follows : goal.returns-then-not-row_follows
returns-then-not-row_follows c =
    omega (
      arith,
      c.loop-i.invariant,
      stray_here c.loop-i.least c.args.rows.now c.loop-i.i c.loop-i-test.true (sym c.row_follows.ensures ∙ c.if-not-row_follows.true),
    )
