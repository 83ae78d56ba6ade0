use Rattle.std.proofs.Common.{◌≡◌, ◌/◌, min, [], ◌++◌, sym, ap, ◌∙◌, subst}
use Rattle.table.specs.Lent.{text_rows, text_bytes}
use Rattle.table.specs.Text.{text_room}
use Rattle.bench.specs.Held.{places_of}
use Rattle.bench.specs.State.{memory_of, standing, Kept}
use Rattle.answers.specs.Console.{fresh}
use Rattle.lines.specs.Pieces.{pieces}
use Rattle.answers.proofs.Fresh.{session_written, session_keeps}
use Rattle.answers.proofs.console.answer_session.Goals as goal

pub returns : goal.returns
returns g c =
    let told = g.P.LinePoint.told in
    let cost = g.L.Loss.cost in
    let slope = g.L.Loss.slope in
    let fields = g.L.LineLoss.LINE_FIELDS in
    let mem = c.args.memory.now in
    let bs = c.args.bytes.now in
    let b = c.open-bench.result in
    let t = c.new-table.result in
    let b2 = c.answer_lines.new.bench in
    let t2 = c.answer_lines.new.holder in
    let ls = pieces 10 c.args.lines.bytes.now in
    let start = standing b (text_rows t) (text_bytes t) in
    let end = standing b2 (text_rows t2) (text_bytes t2) in
    let opened = c.open-bench.ensures in
    let made = c.new-table.ensures in
    let answered = c.in_ok-answer_lines.ensures in
    let same_start : start ≡ fresh mem bs = λ i. record { entries = opened.memory i; points = opened.held i; rows = made.rows i; bytes = made.bytes i } in
    let room : text_room (text_bytes t) ≡ 1024 = ap text_room made.bytes ∙ ap (λ n. min (n / 15) 1024) c.requires.1 in
    let places : places_of (memory_of b2) ≡ 1024 = answered.places ∙ (ap places_of opened.memory ∙ ap (λ n. min n 1024) c.requires.0) in
    let kept = answered.law [] (subst (λ rs. Kept b (text_room (text_bytes t)) rs []) (sym made.rows) (opened.law (text_room (text_bytes t)))) in
    record {
      output =
          session_written told cost slope fields c.args.loss.now b.top c.args.top (text_room (text_bytes t)) start mem bs ls end opened.top room same_start answered.after
          c.args.output.now.items c.answer_lines.new.output.items _ answered.output
          (c.in_ok-extend_from_slice.ensures.items ∙ ap (λ x. c.answer_lines.new.output.items ++ x) c.text.ensures.value);
      law =
          session_keeps told cost slope fields c.args.loss.now b.top c.args.top (text_room (text_bytes t)) start mem bs ls end opened.top room same_start answered.after
          (places_of (memory_of b2)) b2.top (text_room (text_bytes t2)) kept.0 places answered.top answered.room kept.1 kept.2;
    }
