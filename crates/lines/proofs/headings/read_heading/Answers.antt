use Rattle.std.proofs.Common.{rules}
use Rattle.lines.specs.Headings.{with_top}
use Rattle.lines.specs.Letters.{loss_of}
use Rattle.lines.proofs.Heads.{front_told}
use Rattle.lines.proofs.headings.read_heading.Goals as goal

pub returns-in_err-loss : goal.returns-in_err-loss
returns-in_err-loss c =
    let front = front_told loss_of (λ _. 2) c.args.number with_top c.args.bytes.now c.new-line.result c.begin.result c.new-line.ensures (search rules) in
    search (rules, front)

pub returns-in_err-top : goal.returns-in_err-top
returns-in_err-top c =
    let front = front_told loss_of (λ _. 2) c.args.number with_top c.args.bytes.now c.new-line.result c.begin.result c.new-line.ensures (search rules) in
    search (rules, front)

pub returns : goal.returns
returns c =
    let front = front_told loss_of (λ _. 2) c.args.number with_top c.args.bytes.now c.new-line.result c.begin.result c.new-line.ensures (search rules) in
    search (rules, front)
