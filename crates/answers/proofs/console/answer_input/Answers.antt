use Rattle.std.proofs.Common.{◌≡◌, ◌++◌, vec_items, sym, ap, ◌∙◌, subst}
use Rattle.std.proofs.lemmas.List.{append_assoc}
use Rattle.std.proofs.lemmas.Result.{IfOk-weaker}
use Rattle.answers.specs.Console.{rest_text, RestKeeps, lines_text, LinesKeep}
use Rattle.lines.specs.Headings.{heading_told}
use Rattle.answers.specs.Obeyed.{heading_answer}
use Rattle.lines.specs.Pieces.{pieces, lines_of}
use Rattle.answers.specs.Replies.{answer_text}
use Rattle.answers.proofs.Openings.{lines_split, refused_text, opened_text}
use Rattle.answers.proofs.console.answer_input.Goals as goal

pub returns-in_default : goal.returns-in_default
returns-in_default c =
    let first = c.split_first.result.0.now in
    let ls = pieces 10 c.split_first.result.1.now in
    let split = sym (lines_split c.args.input.bytes.now first c.split_first.result.1.now c.split_first.ensures.piece c.split_first.ensures.rest) in
    let told = c.in_ok-heading.ensures in
    let end = refused_text (heading_told 1 first) ls (sym c.in_default.is ∙ told.heading) in
    record {
      output = told.output ∙ (ap (λ x. vec_items c.args.output.now ++ x) end.0 ∙ ap (λ ps. vec_items c.args.output.now ++ lines_text ps) split);
      law = subst LinesKeep split end.1;
    }

pub returns : goal.returns
returns c =
    let first = c.split_first.result.0.now in
    let ls = pieces 10 c.split_first.result.1.now in
    let split = sym (lines_split c.args.input.bytes.now first c.split_first.result.1.now c.split_first.ensures.piece c.split_first.ensures.rest) in
    let told = c.in_ok-heading.ensures in
    let h = c.in-Some.heading in
    let r = c.answer_rest.result in
    let old = vec_items c.args.output.now in
    let mid = vec_items c.append_heading.new.output in
    let new = vec_items c.answer_rest.new.output in
    let go = opened_text (heading_told 1 first) h ls (sym c.in-Some.is ∙ told.heading) in
    record {
      output =
          IfOk-weaker r (λ _. new ≡ mid ++ rest_text h.top h.loss ls) (λ _. new ≡ old ++ lines_text (lines_of c.args.input.bytes.now))
          (λ _ e.
          e
          ∙ (ap (λ x. x ++ rest_text h.top h.loss ls) told.output
          ∙ (append_assoc old (answer_text (heading_answer (heading_told 1 first))) (rest_text h.top h.loss ls)
          ∙ (ap (λ x. old ++ x) go.0 ∙ ap (λ ps. old ++ lines_text ps) split))))
          c.answer_rest.ensures.output;
      law = IfOk-weaker r (λ _. RestKeeps h.top h.loss ls) (λ _. LinesKeep (lines_of c.args.input.bytes.now)) (λ _ k. subst LinesKeep split (go.1 k)) c.answer_rest.ensures.law;
    }
