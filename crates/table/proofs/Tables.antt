-- A table's text as rows are put into it. Assumes nothing.
use Rattle.std.proofs.Common.{◌≡◌, ℕ, ◌+◌, ◌<◌, ◌≤◌, List, [], ◌∷◌, ◌++◌, length, take, decimal, sym, ap, ◌∙◌, arith}
use Rattle.std.proofs.lemmas.List.{length-take-le, flat_map_more}
use Rattle.std.proofs.lemmas.Fmt.{length-decimal-le}
use Rattle.table.specs.Text.{row_text, table_text, over}
use Rattle.table.proofs.Written.{take_over, length_spaced}

pub row_short : (c l : ℕ) → c ≤ 16777215 → l < 65536 → length (row_text (c, l)) ≤ 15
row_short c l small low =
    omega (
      arith,
      length_spaced (decimal c) (decimal l),
      length-decimal-le 8 c (omega arith) (omega arith) (omega arith),
      length-decimal-le 5 l (omega arith) (omega arith) (omega arith),
    )

pub table_text_more : (rs : List (ℕ × ℕ)) (r : ℕ × ℕ) → table_text (rs ++ (r ∷ [])) ≡ table_text rs ++ row_text r
unfolding table_text
table_text_more rs r = sym (flat_map_more row_text [] rs r)

-- the used bytes are as long as the text that they hold
pub used_is : (used : ℕ) (bs : List ℕ) (rs : List (ℕ × ℕ)) → used ≤ length bs → take used bs ≡ table_text rs → used ≡ length (table_text rs)
used_is used bs rs h e = omega (arith, length-take-le used bs h, ap length e)

-- a row put behind the others
pub text_more : (used : ℕ) (bs : List ℕ) (rs : List (ℕ × ℕ)) (r : ℕ × ℕ) → used ≤ length bs → take used bs ≡ table_text rs → take (used + length (row_text r)) (over bs used (row_text r)) ≡ table_text (rs ++ (r ∷ []))
text_more used bs rs r h e = take_over bs used (row_text r) h ∙ (ap (λ (t : List ℕ). t ++ row_text r) e ∙ sym (table_text_more rs r))
