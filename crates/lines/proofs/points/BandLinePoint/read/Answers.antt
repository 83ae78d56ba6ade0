use Rattle.std.proofs.Common.{◌∙◌, rules, tests}
use Rattle.lines.proofs.points.BandLinePoint.read.Goals as goal

pub returns : goal.returns
returns c = c.new-4.ensures.value ∙ search (rules, tests)
