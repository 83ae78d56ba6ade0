-- One request more. Assumes nothing.
use Rattle.std.proofs.Common.{◌≡◌, ℕ, suc, List, [], ◌∷◌, ◌++◌, length, ℤ, refl, ap}
use Rattle.bench.specs.declared.runs.Request.{Request}
use Rattle.bench.specs.Served.{Standing, Writing, answered, served, answered_all, served_all}

module _ {P L : Type 0} (step : L → P → ℕ → ℤ) (top room : ℕ) (w : Writing) where
  pub served_more : (s : Standing P) (qs : List (Request P L)) (q : Request P L) → served_all step top room w s (qs ++ q ∷ []) ≡ served step top room w (served_all step top room w s qs) q
  served_more s [] q = refl
  served_more s (x ∷ qs) q = served_more (served step top room w s x) qs q

  pub answered_more : (s : Standing P) (qs : List (Request P L)) (q : Request P L) → answered_all step top room w s (qs ++ q ∷ []) ≡ answered_all step top room w s qs ++ answered step top room w (served_all step top room w s qs) q ∷ []
  answered_more s [] q = refl
  answered_more s (x ∷ qs) q = ap (λ z. answered step top room w s x ∷ z) (answered_more (served step top room w s x) qs q)

  pub length_answered : (s : Standing P) (qs : List (Request P L)) → length (answered_all step top room w s qs) ≡ length qs
  length_answered s [] = refl
  length_answered s (x ∷ qs) = ap suc (length_answered (served step top room w s x) qs)
