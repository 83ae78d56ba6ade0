use Rattle.std.proofs.Common.{rules, tests, subst, option_map, sym, ap, ◌∙◌}
use Rattle.std.proofs.lemmas.Iterator.Consumers.{nth_from_yields_List, YieldsList-from_first}
use Rattle.lines.specs.Fields.{RightCase}
use Rattle.lines.specs.Forms.{placed_parts}
use Rattle.lines.specs.Pieces.{pieces, placed, fields_at}
use Rattle.lines.proofs.Sorts.{right_case}
use Rattle.lines.proofs.line.Line.field.Goals as goal

pub returns-in_err-column-clause-value : goal.returns-in_err-column-clause-value
returns-in_err-column-clause-value c =
    ap (option_map placed_parts) c.from_residual.ensures
    ∙ (ap (option_map (λ part. (part.0, part.1.now))) (sym c.in_err-column.was)
    ∙ nth_from_yields_List _ c.nth.new.self c.args.i c.nth.ensures.ran (YieldsList-from_first (λ part. (part.0, part.1.now)) (λ s. placed s.column (pieces s.left.end s.left.rest.now)) (fields_at c.args.self.now.bytes.now) c.new.ensures))

pub returns-clause-value : goal.returns-clause-value
returns-clause-value c =
    search (rules, tests)
    ∙ (ap (option_map (λ part. (part.0, part.1.now))) (sym c.in_ok-column.was)
    ∙ nth_from_yields_List _ c.nth.new.self c.args.i c.nth.ensures.ran (YieldsList-from_first (λ part. (part.0, part.1.now)) (λ s. placed s.column (pieces s.left.end s.left.rest.now)) (fields_at c.args.self.now.bytes.now) c.new.ensures))

pub returns-clause-sort : goal.returns-clause-sort
returns-clause-sort c = subst RightCase (sym c.from.ensures) (right_case c.in_ok-column.part)
