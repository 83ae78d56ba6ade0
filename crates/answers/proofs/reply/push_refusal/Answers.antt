use Rattle.std.proofs.Common.{length, ap, ◌∙◌, arith}
use Rattle.std.proofs.lemmas.List.{length-append}
use Rattle.answers.proofs.Lengths.{layer_digit, number_digits, digits_32}
use Rattle.answers.proofs.reply.push_refusal.Goals as goal

pub push_word-requires : goal.push_word-requires
push_word-requires c = omega (arith, layer_digit c.from.result c.args.fault.question (c.from.ensures ∙ c.layer.ensures))

pub push_word-requires-2 : goal.push_word-requires-2
push_word-requires-2 c =
    omega (
      arith,
      simp length-append at (ap length c.push_word.ensures),
      layer_digit c.from.result c.args.fault.question (c.from.ensures ∙ c.layer.ensures),
      number_digits c.from-2.result c.args.fault.question (c.from-2.ensures ∙ c.number.ensures),
    )

pub push_word-requires-3 : goal.push_word-requires-3
push_word-requires-3 c =
    omega (
      arith,
      simp length-append at (ap length c.push_word.ensures),
      simp length-append at (ap length c.push_word-2.ensures),
      layer_digit c.from.result c.args.fault.question (c.from.ensures ∙ c.layer.ensures),
      number_digits c.from-2.result c.args.fault.question (c.from-2.ensures ∙ c.number.ensures),
      digits_32 c.args.fault.line (omega arith),
    )

pub push_word-requires-4 : goal.push_word-requires-4
push_word-requires-4 c =
    omega (
      arith,
      simp length-append at (ap length c.push_word.ensures),
      simp length-append at (ap length c.push_word-2.ensures),
      simp length-append at (ap length c.push_word-3.ensures),
      layer_digit c.from.result c.args.fault.question (c.from.ensures ∙ c.layer.ensures),
      number_digits c.from-2.result c.args.fault.question (c.from-2.ensures ∙ c.number.ensures),
      digits_32 c.args.fault.line (omega arith),
      digits_32 c.args.fault.column (omega arith),
    )

pub returns-clause-short : goal.returns-clause-short
returns-clause-short c =
    omega (
      arith,
      simp length-append at (ap length c.push_word.ensures),
      simp length-append at (ap length c.push_word-2.ensures),
      simp length-append at (ap length c.push_word-3.ensures),
      simp length-append at (ap length c.push_word-4.ensures),
      layer_digit c.from.result c.args.fault.question (c.from.ensures ∙ c.layer.ensures),
      number_digits c.from-2.result c.args.fault.question (c.from-2.ensures ∙ c.number.ensures),
      digits_32 c.args.fault.line (omega arith),
      digits_32 c.args.fault.column (omega arith),
    )
