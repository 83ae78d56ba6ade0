-- A session from a new bench and a new table. Assumes nothing.
use Rattle.std.proofs.Common.{◌≡◌, ℕ, List, [], ◌++◌, ℤ, Result, ap, ◌∙◌, subst, subst₂}
use Rattle.std.specs.List.{flat_map}
use Rattle.std.proofs.lemmas.List.{append_assoc}
use Rattle.fault.specs.declared.Fault.{Fault}
use Rattle.fit.specs.declared.Entry.{Entry}
use Rattle.table.specs.Text.{table_text}
use Rattle.bench.specs.Runs.{History, Keeps}
use Rattle.bench.specs.Served.{Standing}
use Rattle.answers.specs.Console.{text_writing, fresh, session_text, SessionKeeps}
use Rattle.answers.specs.Replies.{answer_text}
use Rattle.answers.specs.Sessions.{answers, after, EnteredAll}

module _ {P L : Type 0} (told : ℕ → List ℕ → Result P Fault) (cost step : L → P → ℕ → ℤ) (fields : ℕ) (loss : L) (t top r : ℕ) (start : Standing P) (es : List (Entry P)) (bs : List ℕ) (ls : List (List ℕ)) (end : Standing P) (same-top : t ≡ top) (same-room : r ≡ 1024) (same_start : start ≡ fresh es bs) (at-end : end ≡ after told cost step fields loss t r text_writing start 2 ls) where
  pub session_written : (old mid new : List ℕ) → mid ≡ old ++ flat_map answer_text (answers told cost step fields loss t r text_writing start 2 ls) → new ≡ mid ++ table_text end.rows
      → new ≡ old ++ session_text told cost step fields loss top es bs ls
  session_written old mid new lines rows =
      subst (λ s. new ≡ old ++ (flat_map answer_text (answers told cost step fields loss top 1024 text_writing s 2 ls) ++ table_text (after told cost step fields loss top 1024 text_writing s 2 ls).rows)) same_start
      (subst₂ (λ t r. new ≡ old ++ (flat_map answer_text (answers told cost step fields loss t r text_writing start 2 ls) ++ table_text (after told cost step fields loss t r text_writing start 2 ls).rows)) same-top same-room
      (rows
      ∙ (ap (λ x. x ++ table_text end.rows) lines
      ∙ (append_assoc old _ _ ∙ ap (λ (s : Standing P). old ++ (flat_map answer_text (answers told cost step fields loss t r text_writing start 2 ls) ++ table_text s.rows)) at-end))))

  pub session_keeps : (places u q : ℕ) (h : History P) → places ≡ 1024 → u ≡ t → q ≡ r → EnteredAll told cost step fields loss t r text_writing start 2 ls [] h → Keeps places u q h end.points end.rows
      → SessionKeeps told cost step fields loss top es bs ls
  session_keeps places u q h same-places same-u same-q entered kept = (
    h,
    subst (λ s. EnteredAll told cost step fields loss top 1024 text_writing s 2 ls [] h) same_start
        (subst₂ (λ t r. EnteredAll told cost step fields loss t r text_writing start 2 ls [] h) same-top same-room entered),
    subst (λ s. Keeps 1024 top 1024 h (after told cost step fields loss top 1024 text_writing s 2 ls).points (after told cost step fields loss top 1024 text_writing s 2 ls).rows) same_start
        (subst₂ (λ t r. Keeps 1024 t r h (after told cost step fields loss t r text_writing start 2 ls).points (after told cost step fields loss t r text_writing start 2 ls).rows) same-top same-room
        (subst (λ (s : Standing P). Keeps 1024 t r h s.points s.rows) at-end
        (subst₂ (λ t r. Keeps 1024 t r h end.points end.rows) same-u same-q
        (subst (λ n. Keeps n u q h end.points end.rows) same-places kept)))),
  )
