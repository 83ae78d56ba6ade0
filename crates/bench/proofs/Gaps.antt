-- Lists with an element put in between or taken out. Assumes nothing.
use Rattle.std.proofs.Common.{◌≡◌, ℕ, suc, ◌+◌, ◌-◌, ◌<◌, ◌≤◌, List, [], ◌∷◌, ◌++◌, length, take, drop, set, sym, refl, ap, ◌∙◌, append_assoc, arith, length-drop}
use Rattle.std.specs.List.{insert, remove}
use Rattle.std.proofs.lemmas.List.{drop-drop, drop-take, take-take, set_at, length-take-le}

only : {X : Type 0} (xs : List X) → length xs ≡ 1 → (x : X) × (xs ≡ x ∷ [])
only [] h = absurd (omega arith)
only (x ∷ []) h = (x, refl)
only (x ∷ y ∷ xs) h = absurd (omega arith)

module _ {X : Type 0} (m : List X) (at held : ℕ) where
  past : (n : ℕ) → at ≤ n → drop (n - at) (drop at m) ≡ drop n m
  past n h = drop-drop (n - at) at m ∙ ap (λ k. drop k m) (omega arith)

  front_of : at ≤ held → take at m ≡ take at (take held m)
  front_of h = sym (take-take at held m h)

  back_of : (k : ℕ) → k ≤ held → take (held - k) (drop k m) ≡ drop k (take held m)
  back_of k h = sym (ap (λ n. drop k (take n m)) (omega arith) ∙ drop-take k (held - k) m)

  -- the part from `at` on turned to the right by one, and its first element written over
  pub gap_opened : (e : X) (ys : List X) → at ≤ held → held < length m → (let p = take (held + 1 - at) (drop at m) in ys ≡ drop (length p - 1) p ++ take (length p - 1) p) → set (take at m ++ (ys ++ drop (held + 1 - at) (drop at m))) at e ≡ insert (take held m) at e ++ drop (held + 1) m
  gap_opened e ys h k is =
      let t = drop at m in
      let es = take held m in
      let p = take (held + 1 - at) t in
      let long : length p - 1 ≡ held - at = omega (arith, length-take-le (held + 1 - at) t (omega (arith, length-drop at m)), length-drop at m) in
      let wide : held + 1 - at ≡ (held - at) + 1 = omega arith in
      let last : drop (held - at) p ≡ take 1 (drop (held - at) t) = ap (λ n. drop (held - at) (take n t)) wide ∙ drop-take (held - at) 1 t in
      let one = only (take 1 (drop (held - at) t)) (length-take-le 1 (drop (held - at) t) (omega (arith, length-drop (held - at) t, length-drop at m))) in
      let front : take (held - at) p ≡ take (held - at) t = take-take (held - at) (held + 1 - at) t (omega arith) in
      let turned : ys ≡ one.0 ∷ take (held - at) t =
      is ∙ ap (λ n. drop n p ++ take n p) long ∙ (λ i. (last ∙ one.1) i ++ front i) in
      let rest = past (held + 1) (omega arith) in
      ap (λ z. set (take at m ++ (z ++ drop (held + 1 - at) t)) at e) turned ∙ set_at (take at m) one.0 (take (held - at) t ++ drop (held + 1 - at) t) e at (length-take-le at m (omega arith)) ∙ (λ i. front_of h i ++ (e ∷ (back_of at h i ++ rest i))) ∙ sym (append_assoc (take at es) (e ∷ drop at es) (drop (held + 1) m))

  -- the part from `at` on turned to the left by one
  pub gap_closed : (ys : List X) → at < held → held ≤ length m → (let p = take (held - at) (drop at m) in ys ≡ drop 1 p ++ take 1 p) → take at m ++ (ys ++ drop (held - at) (drop at m)) ≡ remove (take held m) at ++ (take 1 (drop at m) ++ drop held m)
  gap_closed ys h k is =
      let t = drop at m in
      let es = take held m in
      let p = take (held - at) t in
      let back : drop 1 p ≡ drop (suc at) es = let next : at + 1 ≡ suc at = omega arith in ap (drop 1) (back_of at (omega arith)) ∙ drop-drop 1 at es ∙ ap (λ n. drop n es) next in
      let first : take 1 p ≡ take 1 t = take-take 1 (held - at) t (omega arith) in
      let turned : ys ≡ drop (suc at) es ++ take 1 t = is ∙ (λ i. back i ++ first i) in
      (λ i. front_of (omega arith) i ++ (turned i ++ past held (omega arith) i)) ∙ ap (λ z. take at es ++ z) (append_assoc (drop (suc at) es) (take 1 t) (drop held m)) ∙ sym (append_assoc (take at es) (drop (suc at) es) (take 1 t ++ drop held m))
