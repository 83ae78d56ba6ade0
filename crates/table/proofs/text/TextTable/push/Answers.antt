use Rattle.std.proofs.Common.{ℕ, ◌≤◌, length, take, ap, ◌∙◌, sym, arith}
use Rattle.std.proofs.lemmas.List.{length_push}
use Rattle.table.specs.Text.{row_text, table_text, over}
use Rattle.table.proofs.Tables.{row_short, used_is, text_more}
use Rattle.table.proofs.text.TextTable.push.Goals as goal
use Rattle.table.proofs.text.TextTable.push.Goals.{Start}

short : (c : Start) → length (row_text (c.args.count, c.args.level)) ≤ 15
short c = row_short c.args.count c.args.level c.requires.small (omega arith)

pub append_row-requires : goal.append_row-requires
append_row-requires c = omega (arith, short (goal.at.append_row-requires c).Start, c.requires.room, c.args.self.now.short)

pub invariant_of-self : goal.invariant_of-self
invariant_of-self c =
    let used = c.args.self.now.page.used in
    let bs = c.args.self.now.page.bytes.now in
    let rs = c.args.self.now.rows in
    let r : ℕ × ℕ = (c.args.count, c.args.level) in
    record {
      fits = omega (arith, c.append_row.ensures.room, c.requires.room, ap length c.push.ensures, length_push rs r);
      short = omega (arith, short (goal.at.invariant_of-self c).Start, c.args.self.now.short, c.append_row.ensures.used, ap length c.push.ensures, length_push rs r);
      text =
          (λ i. take (c.append_row.ensures.used i) (c.append_row.ensures.bytes i))
          ∙ (text_more used bs rs r (omega (arith, c.requires.room, c.args.self.now.short)) c.args.self.now.text ∙ ap table_text (sym c.push.ensures));
    }

pub returns-clause-bytes : goal.returns-clause-bytes
returns-clause-bytes c =
    c.append_row.ensures.bytes
    ∙ ap (λ k. over c.args.self.now.page.bytes.now k (row_text (c.args.count, c.args.level)))
    (used_is c.args.self.now.page.used c.args.self.now.page.bytes.now c.args.self.now.rows
    (omega (arith, c.requires.room, c.args.self.now.short)) c.args.self.now.text)
