use Rattle.std.proofs.Common.{rules}
use Rattle.lines.specs.Letters.{verb_of, verb_fields}
use Rattle.lines.specs.Requests.{verb_request}
use Rattle.lines.proofs.Heads.{front_told}
use Rattle.lines.proofs.requests.read_request.Goals as goal

pub returns-in_err-verb : goal.returns-in_err-verb
returns-in_err-verb g c =
    let f = verb_request g.P.LinePoint.told g.L.LineLoss.LINE_FIELDS c.args.loss.now in
    let front = front_told verb_of (verb_fields g.L.LineLoss.LINE_FIELDS) c.args.number f c.args.bytes.now c.new-line.result c.verb.result c.new-line.ensures c.verb.ensures in
    search (rules, front)

pub returns : goal.returns
returns g c =
    let f = verb_request g.P.LinePoint.told g.L.LineLoss.LINE_FIELDS c.args.loss.now in
    let front = front_told verb_of (verb_fields g.L.LineLoss.LINE_FIELDS) c.args.number f c.args.bytes.now c.new-line.result c.verb.result c.new-line.ensures c.verb.ensures in
    search (rules, front)
