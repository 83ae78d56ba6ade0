use Rattle.std.proofs.Common.{length, ap, inl, arith}
use Rattle.lines.specs.Pieces.{fields_of}
use Rattle.lines.proofs.Cuts.{no_more_pieces, pieces_take}
use Rattle.lines.proofs.line.Line.count_fields.Goals as goal

pub count-requires-clause-fits : goal.count-requires-clause-fits
count-requires-clause-fits c =
    let bs = c.args.self.now.bytes.now in
    inl (omega (arith, ap length c.new.ensures, no_more_pieces (fields_of bs), pieces_take 32 bs, c.args.self.now.short))
