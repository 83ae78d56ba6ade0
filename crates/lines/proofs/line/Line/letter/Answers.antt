use Rattle.std.proofs.Common.{ℕ, cond, List, get_or, Some, None, sym, ap, ◌∙◌}
use Rattle.lines.specs.Fields.{one_letter}
use Rattle.lines.specs.Forms.{placed_parts}
use Rattle.lines.specs.Pieces.{fields_of}
use Rattle.lines.proofs.Sorts.{letter_is, first_some}
use Rattle.lines.proofs.line.Line.letter.Goals as goal

pub returns : goal.returns
returns c =
    let p = c.in_ok-field.field-0 in
    c.letter.ensures
    ∙ (letter_is p.field c.in_ok-field.ensures.sort
    ∙ ap (λ (f : List ℕ). cond (one_letter f) (Some (get_or f 0 0)) None) (sym (first_some (fields_of c.args.self.now.bytes.now) (placed_parts p) c.in_ok-field.ensures.value)))
