-- One line more of many. Assumes nothing.
use Rattle.std.proofs.Common.{◌≡◌, ℕ, ◌+◌, List, ◌∷◌, ◌++◌, ℤ, Result, sym, ap, ◌∙◌, subst}
use Rattle.std.specs.List.{flat_map}
use Rattle.std.proofs.lemmas.List.{append_assoc}
use Rattle.fault.specs.declared.Fault.{Fault}
use Rattle.bench.specs.Runs.{History}
use Rattle.bench.specs.Served.{Standing, Writing, answered}
use Rattle.answers.specs.Obeyed.{Entered, line_answer, line_after}
use Rattle.answers.specs.Replies.{answer_text}
use Rattle.lines.specs.Requests.{line_request}
use Rattle.answers.specs.Sessions.{answers, after, EnteredAll}

module _ {P L : Type 0} (told : ℕ → List ℕ → Result P Fault) (cost step : L → P → ℕ → ℤ) (fields : ℕ) (loss : L) (top room : ℕ) (w : Writing) where
  pub text_more : (here there : Standing P) (n : ℕ) (l : List ℕ) (ls left : List (List ℕ)) (old new all : List ℕ) → new ≡ old ++ answer_text (line_answer told step fields loss top room w here n l)
      → there ≡ line_after told step fields loss top room w here n l → left ≡ l ∷ ls → old ++ flat_map answer_text (answers told cost step fields loss top room w here n left) ≡ all
      → new ++ flat_map answer_text (answers told cost step fields loss top room w there (n + 1) ls) ≡ all
  text_more here there n l ls left old new all written moved split so_far =
      ap (λ bs. bs ++ flat_map answer_text (answers told cost step fields loss top room w there (n + 1) ls)) written
      ∙ (append_assoc old (answer_text (line_answer told step fields loss top room w here n l)) _
      ∙ (ap (λ s. old ++ (answer_text (line_answer told step fields loss top room w here n l) ++ flat_map answer_text (answers told cost step fields loss top room w s (n + 1) ls))) moved
      ∙ (ap (λ ps. old ++ flat_map answer_text (answers told cost step fields loss top room w here n ps)) (sym split) ∙ so_far)))

  pub after_more : (here there : Standing P) (n : ℕ) (l : List ℕ) (ls left : List (List ℕ)) (end : Standing P) → there ≡ line_after told step fields loss top room w here n l → left ≡ l ∷ ls
      → after told cost step fields loss top room w here n left ≡ end → after told cost step fields loss top room w there (n + 1) ls ≡ end
  after_more here there n l ls left end moved split so_far =
      ap (λ s. after told cost step fields loss top room w s (n + 1) ls) moved ∙ (ap (after told cost step fields loss top room w here n) (sym split) ∙ so_far)

  pub entered_more : (here there : Standing P) (n : ℕ) (l : List ℕ) (ls left : List (List ℕ)) (h next end : History P) → there ≡ line_after told step fields loss top room w here n l → left ≡ l ∷ ls
      → Entered cost (line_request told fields loss n l) (answered step top room w here) h next → EnteredAll told cost step fields loss top room w there (n + 1) ls next end → EnteredAll told cost step fields loss top room w here n left h end
  entered_more here there n l ls left h next end moved split one rest =
      subst (λ ps. EnteredAll told cost step fields loss top room w here n ps h end) (sym split)
      (next, one, subst (λ s. EnteredAll told cost step fields loss top room w s (n + 1) ls next end) moved rest)
