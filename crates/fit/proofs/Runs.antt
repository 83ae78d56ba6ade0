-- Runs of entries: one entry more, and the run that a slice of them is. Assumes nothing.
use Rattle.std.proofs.Common.{◌≡◌, ℕ, ◌+◌, ◌-◌, ◌<◌, List, [], ◌∷◌, ◌++◌, length, get_or, take, drop, ℤ, ◌+ℤ◌, sym, ap, ◌∙◌, arith}
use Rattle.std.proofs.lemmas.List.{map_more, take-map, drop-map, take_at, drop_at}
use Rattle.std.proofs.lemmas.Int.{ints}
use Rattle.fit.specs.Best.{total, summed_step}
use Rattle.fit.specs.Entries.{points_of}
use Rattle.fit.specs.declared.Entry.{Entry}
use Rattle.fit.proofs.Signs.{total_append}

module _ {P : Type 0} (es : List (Entry P)) where
  pub points_more : (i : ℕ) (e : Entry P) → i < length es → e ≡ get_or es i e → points_of (take (i + 1) es) ≡ points_of (take i es) ++ e.point ∷ []
  points_more i e h read = map_more (λ (x : Entry P). x.point) es i e h ∙ ap (λ (x : Entry P). points_of (take i es) ++ x.point ∷ []) (sym read)

  -- the points between two places, by what stands before them and after
  pub points_between : (start end : ℕ) (front run back : List P) → points_of es ≡ front ++ (run ++ back) → length front ≡ start → length run + start ≡ end → points_of (take (end - start) (drop start es)) ≡ run
  points_between start end front run back is first long =
      sym (take-map (λ (x : Entry P). x.point) (end - start) (drop start es)) ∙ ap (take (end - start)) (sym (drop-map (λ (x : Entry P). x.point) start es) ∙ ap (drop start) is ∙ drop_at front (run ++ back) start first) ∙ take_at run back (end - start) (omega arith)

  pub summed_more : (step : P → ℕ → ℤ) (l i : ℕ) (e : Entry P) → i < length es → e ≡ get_or es i e → summed_step step (points_of (take (i + 1) es)) l ≡ summed_step step (points_of (take i es)) l +ℤ step e.point l
  summed_more step l i e h read =
      let f : P → ℤ = λ p. step p l in
      omega (arith, ints, ap (total f) (points_more i e h read), total_append f (points_of (take i es)) (e.point ∷ []))
