-- The first line and those behind it. Assumes nothing.
use Rattle.std.proofs.Common.{◌≡◌, ℕ, suc, List, ◌∷◌, ◌++◌, take, drop, is_some, Some, None, Ok, Err, Result, unwrap_or, sym, refl, ap, ◌∙◌, subst}
use Rattle.std.specs.Result.{result_ok}
use Rattle.std.proofs.lemmas.Bool.{false≢true}
use Rattle.fault.specs.declared.Fault.{Fault}
use Rattle.lines.specs.declared.headings.Heading.{Heading}
use Rattle.answers.specs.Console.{rest_text, RestKeeps, first_text, FirstKeeps}
use Rattle.answers.specs.Obeyed.{heading_answer}
use Rattle.lines.specs.Pieces.{before, pieces, lines_of}
use Rattle.answers.specs.Replies.{answer_text}
use Rattle.lines.proofs.Cuts.{lines_first}

pub lines_split : (bs first rest : List ℕ) → first ≡ take (before 10 bs) bs → rest ≡ drop (suc (before 10 bs)) bs → lines_of bs ≡ first ∷ pieces 10 rest
lines_split bs first rest one two =
    lines_first bs ∙ (ap (λ x. x ∷ pieces 10 (drop (suc (before 10 bs)) bs)) (sym one) ∙ ap (λ x. first ∷ pieces 10 x) (sym two))

pub refused_text : (r : Result Heading Fault) (ls : List (List ℕ)) → None ≡ result_ok r → (answer_text (heading_answer r) ≡ first_text r ls) × FirstKeeps r ls
refused_text (Ok h) ls e = absurd (false≢true (ap is_some e))
refused_text (Err f) ls e = (refl, tt)

pub opened_text : (r : Result Heading Fault) (h : Heading) (ls : List (List ℕ)) → Some h ≡ result_ok r → (answer_text (heading_answer r) ++ rest_text h.top h.loss ls ≡ first_text r ls) × (RestKeeps h.top h.loss ls → FirstKeeps r ls)
opened_text (Ok x) h ls e =
    let same : h ≡ x = ap (λ o. unwrap_or {T = Heading} o h) e in (
      ap (λ (y : Heading). answer_text (heading_answer (Ok x)) ++ rest_text y.top y.loss ls) same,
      subst (λ (y : Heading). RestKeeps y.top y.loss ls) same,
    )
opened_text (Err f) h ls e = absurd (false≢true (sym (ap is_some e)))
