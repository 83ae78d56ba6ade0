-- The bytes that rows leave as they are put one by one. Assumes nothing.
use Rattle.std.proofs.Common.{◌≡◌, ℕ, List, [], ◌∷◌, ◌++◌, sym, ap, ◌∙◌}
use Rattle.std.proofs.lemmas.List.{append_assoc, append-nil}
use Rattle.table.specs.Rows.{bytes_after}

pub bytes_after_more : (more : List ℕ → List (ℕ × ℕ) → ℕ × ℕ → List ℕ) (bs : List ℕ) (before rs : List (ℕ × ℕ)) (r : ℕ × ℕ) → bytes_after more bs before (rs ++ (r ∷ [])) ≡ more (bytes_after more bs before rs) (before ++ rs) r
bytes_after_more more bs before [] r = ap (λ (xs : List (ℕ × ℕ)). more bs xs r) (sym (append-nil before))
bytes_after_more more bs before (x ∷ rs) r =
    bytes_after_more more (more bs before x) (before ++ (x ∷ [])) rs r
    ∙ ap (λ (xs : List (ℕ × ℕ)). more (bytes_after more (more bs before x) (before ++ (x ∷ [])) rs) xs r) (append_assoc before (x ∷ []) rs)
