use Rattle.std.proofs.Common.{◌+◌, ◌/◌, ap, ◌∙◌, arith}
use Rattle.std.proofs.lemmas.Fmt.{length-decimal-le}
use Rattle.table.proofs.Digits.{one, two, three, four, four_more}
use Rattle.table.proofs.text.+digits.Goals as goal

pub overflow_add-result : goal.overflow_add-result
overflow_add-result t c = omega (arith, c.digits.ensures, length-decimal-le 10 (c.args.n / 10000) (omega arith) (omega arith) (omega arith))

pub returns-then-n-lt10 : goal.returns-then-n-lt10
returns-then-n-lt10 t c = one c.args.n c.if-n-lt10.true

pub returns-then-n-lt100 : goal.returns-then-n-lt100
returns-then-n-lt100 t c = two c.args.n c.if-n-lt10.false c.if-n-lt100.true

pub returns-then-n-lt1000 : goal.returns-then-n-lt1000
returns-then-n-lt1000 t c = three c.args.n c.if-n-lt100.false c.if-n-lt1000.true

pub returns-then-n-lt10000 : goal.returns-then-n-lt10000
returns-then-n-lt10000 t c = four c.args.n c.if-n-lt1000.false c.if-n-lt10000.true

pub returns-else-n-lt10000 : goal.returns-else-n-lt10000
returns-else-n-lt10000 t c = ap (λ k. k + 4) c.digits.ensures ∙ four_more c.args.n c.if-n-lt10000.false (omega arith)
