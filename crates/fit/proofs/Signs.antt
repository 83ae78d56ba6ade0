-- Sums over the fronts and the backs of a run, at one level. Assumes nothing.
use Rattle.std.proofs.Common.{◌≡◌, ℕ, zero, suc, ◌<◌, ◌≤◌, List, [], ◌∷◌, ◌++◌, length, take, drop, ℤ, pos, ◌+ℤ◌, ◌≤ℤ◌, ◌<ℤ◌, arith}
use Rattle.std.proofs.lemmas.Int.{ints}
use Rattle.fit.specs.Best.{total}
use Rattle.fit.specs.Pooling.{Fronts, Backs}

module _ {P : Type 0} (f : P → ℤ) where
  pub total_append : (ps qs : List P) → total f (ps ++ qs) ≡ total f ps +ℤ total f qs
  total_append [] qs = omega (arith, ints)
  total_append (p ∷ ps) qs = omega (arith, ints, total_append ps qs)

  pub fronts_under : (a b : ℤ) (ps : List P) → a ≤ℤ b → Fronts f b ps → Fronts f a ps
  fronts_under a b [] h w = tt
  fronts_under a b (p ∷ ps) h w = (omega (arith, ints, w.0), fronts_under (a +ℤ f p) (b +ℤ f p) ps (omega (arith, ints)) w.1)

  pub fronts_append : (a : ℤ) (ps qs : List P) → Fronts f a ps → Fronts f (a +ℤ total f ps) qs → Fronts f a (ps ++ qs)
  fronts_append a [] qs w v = fronts_under a (a +ℤ pos 0) qs (omega (arith, ints)) v
  fronts_append a (p ∷ ps) qs w v =
      (w.0, fronts_append (a +ℤ f p) ps qs w.1 (fronts_under _ _ qs (omega (arith, ints)) v))

  pub fronts_after : (a : ℤ) (ps : List P) → a <ℤ pos 0 → Fronts f a ps → (a +ℤ total f ps) <ℤ pos 0
  fronts_after a [] h w = omega (arith, ints)
  fronts_after a (p ∷ ps) h w = omega (arith, ints, fronts_after (a +ℤ f p) ps w.0 w.1)

  -- the whole is a front too
  pub fronts_total : (a : ℤ) (ps : List P) → 0 < length ps → Fronts f a ps → (a +ℤ total f ps) <ℤ pos 0
  fronts_total a [] h w = absurd (omega arith)
  fronts_total a (p ∷ ps) h w = omega (arith, ints, fronts_after (a +ℤ f p) ps w.0 w.1)

  pub fronts_most : (ps : List P) → Fronts f (pos 0) ps → (pos 0 +ℤ total f ps) ≤ℤ pos 0
  fronts_most [] w = omega (arith, ints)
  fronts_most (p ∷ ps) w = omega (arith, ints, fronts_total (pos 0) (p ∷ ps) (omega arith) w)

  pub fronts_take : (a : ℤ) (n : ℕ) (ps : List P) → 0 < n → n ≤ length ps → Fronts f a ps → (a +ℤ total f (take n ps)) <ℤ pos 0
  fronts_take a zero ps h k w = absurd (omega arith)
  fronts_take a (suc n) [] h k w = absurd (omega arith)
  fronts_take a (suc zero) (p ∷ ps) h k w = omega (arith, ints, w.0)
  fronts_take a (suc (suc n)) (p ∷ ps) h k w = omega (arith, ints, fronts_take (a +ℤ f p) (suc n) ps (omega arith) (omega arith) w.1)

  pub backs_drop : (a : ℤ) (n : ℕ) (ps : List P) → n < length ps → Backs f ps a → pos 0 ≤ℤ (total f (drop n ps) +ℤ a)
  backs_drop a n [] h w = absurd (omega arith)
  backs_drop a zero (p ∷ ps) h w = w.0
  backs_drop a (suc n) (p ∷ ps) h w = backs_drop a n ps (omega arith) w.1

  pub backs_over : (a b : ℤ) (ps : List P) → a ≤ℤ b → Backs f ps a → Backs f ps b
  backs_over a b [] h w = tt
  backs_over a b (p ∷ ps) h w = (omega (arith, ints, w.0), backs_over a b ps h w.1)

  pub backs_append : (a : ℤ) (ps qs : List P) → Backs f ps (total f qs +ℤ a) → Backs f qs a → Backs f (ps ++ qs) a
  backs_append a [] qs w v = v
  backs_append a (p ∷ ps) qs w v = (omega (arith, ints, w.0, total_append ps qs), backs_append a ps qs w.1 v)

  pub backs_total : (a : ℤ) (ps : List P) → pos 0 ≤ℤ a → Backs f ps a → pos 0 ≤ℤ (total f ps +ℤ a)
  backs_total a [] h w = omega (arith, ints)
  backs_total a (p ∷ ps) h w = w.0

  -- what is below 0 with the whole run behind it is so with every front, since the rest adds nothing negative
  pub fronts_by_backs : (a : ℤ) (ps : List P) → (a +ℤ total f ps) <ℤ pos 0 → Backs f ps (pos 0) → Fronts f a ps
  fronts_by_backs a [] h w = tt
  fronts_by_backs a (p ∷ ps) h w = (
    omega (arith, ints, backs_total (pos 0) ps (omega (arith, ints)) w.1),
    fronts_by_backs (a +ℤ f p) ps (omega (arith, ints)) w.1,
  )

  -- what is 0 or more with the whole run in front of it is so with every back, since what goes is below 0
  pub backs_by_fronts : (a b : ℤ) (ps : List P) → a ≤ℤ pos 0 → pos 0 ≤ℤ (a +ℤ (total f ps +ℤ b)) → Fronts f a ps → Backs f ps b
  backs_by_fronts a b [] n h w = tt
  backs_by_fronts a b (p ∷ ps) n h w =
      (omega (arith, ints), backs_by_fronts (a +ℤ f p) b ps (omega (arith, ints, w.0)) (omega (arith, ints)) w.1)
