use Rattle.std.proofs.Common.{length, ap, arith}
use Rattle.std.proofs.lemmas.List.{length-append}
use Rattle.arrayvec.specs.ArrayString.{array_string_len}
use Rattle.answers.proofs.Lengths.{digits_16}
use Rattle.answers.proofs.reply.answer_text.Goals.{in-Done, in-Level, in-Refused}
use Rattle.answers.proofs.reply.answer_text.Goals as goal

pub push_word-requires : goal.push_word-requires
push_word-requires c = omega (arith, c.push_str-in-Level.ensures.len, ap length c.new-text.ensures, digits_16 c.from.result (omega arith))

pub push_str-requires-2 : goal.push_str-requires-2
push_str-requires-2 c = (
  omega arith,
  elim c.match-answer.branch [
    | in-Done w ↦ omega (arith, ap array_string_len w.text-is, w.push_str.ensures.len, ap length c.new-text.ensures)
    | in-Level w ↦
        omega (
          arith,
          ap array_string_len w.text-is,
          simp length-append at (ap length w.push_word.ensures),
          w.push_str-in-Level.ensures.len,
          ap length c.new-text.ensures,
          digits_16 w.from.result (omega arith),
        )
    | in-Refused w ↦ omega (arith, ap array_string_len w.text-is, w.push_refusal.ensures.short)
  ],
)
