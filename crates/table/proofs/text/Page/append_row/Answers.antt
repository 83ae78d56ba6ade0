use Rattle.std.proofs.Common.{◌+◌, length, decimal, ap, ◌∙◌, arith}
use Rattle.std.proofs.lemmas.List.{length-set}
use Rattle.table.specs.Text.{over}
use Rattle.table.proofs.Written.{length_spaced, over_backwards, spaced}
use Rattle.table.proofs.text.Page.append_row.Goals as goal

pub returns-clause-bytes : goal.returns-clause-bytes
returns-clause-bytes c =
    let bs = c.args.self.now.bytes.now in
    let used = c.args.self.now.used in
    let end = used + c.digits.result + 1 + c.digits-2.result in
    let count = ap (λ n. length (decimal n)) c.from-3.ensures in
    let level = ap (λ n. length (decimal n)) c.from-2.ensures in
    let counted = ap (λ n. length (decimal n)) c.from.ensures in
    over_backwards bs c.write_digits-space.new.buf c.write_digits.new.buf (decimal c.from-3.result) (decimal c.from-2.result)
    used c.write_digits-space.result c.write_digits.result end
    (omega (arith, count, level, counted, c.digits.ensures, c.digits-2.ensures))
    (omega (arith, counted, c.digits.ensures, c.digits-2.ensures, c.requires, length_spaced (decimal c.args.row.0) (decimal c.args.row.1)))
    (omega (arith, length-set bs end 10))
    c.write_digits-space.ensures.start c.write_digits.ensures.start
    c.write_digits-space.ensures.written c.write_digits-space.ensures.before
    c.write_digits.ensures.written c.write_digits.ensures.before
    ∙ (λ i. over bs used (spaced (decimal (c.from-3.ensures i)) (decimal (c.from-2.ensures i))))
