-- The order of held points, kept by one more and by one less. Assumes nothing.
use Rattle.std.proofs.Common.{◌≡◌, ℕ, zero, suc, ◌+◌, ◌<◌, ◌≤◌, false, eqb, ltb, List, [], ◌∷◌, ◌++◌, ◌-◌, length, take, sym, refl, ◌∙◌, subst, ⊎_elim, arith}
use Rattle.std.specs.List.{AllByRecursion, remove}
use Rattle.std.proofs.ByRecursion.{All-weaker}
use Rattle.std.proofs.lemmas.List.{take_at, length-take-le}
use Rattle.std.proofs.lemmas.List.Edits.{length-remove}
use Rattle.std.proofs.lemmas.Bool.{cases_lt, lt-ltb, le-ltb, or_parts, eqb-false, cond-true, cond-false}
use Rattle.std.proofs.lemmas.Bool.Decides.{nat_tests}
use Rattle.fit.specs.declared.Entry.{Entry}
use Rattle.bench.specs.Held.{holds, with_point, RisingCounts, Ordered, memory_with}

module _ {P : Type 0} where
  all_with : (Q : Entry P → Type 0) (e : Entry P) (es : List (Entry P)) → Q e → AllByRecursion Q es → AllByRecursion Q (with_point e es)
  all_with Q e [] q a = (q, tt)
  all_with Q e (x ∷ es) q a =
      ⊎_elim
      (λ (lt : x.count < e.count). subst (AllByRecursion Q) (sym (cond-true (ltb x.count e.count) _ _ (lt-ltb x.count e.count lt))) (a.0, all_with Q e es q a.1))
      (λ (ge : e.count ≤ x.count). subst (AllByRecursion Q) (sym (cond-false (ltb x.count e.count) _ _ (le-ltb x.count e.count ge))) (q, a))
      (cases_lt x.count e.count)

  rising_with : (e : Entry P) (es : List (Entry P)) → RisingCounts es → holds e.count es ≡ false → RisingCounts (with_point e es)
  rising_with e [] r h = (tt, tt)
  rising_with e (x ∷ es) r h =
      let parts = or_parts (eqb x.count e.count) (holds e.count es) h in
      ⊎_elim
      (λ (lt : x.count < e.count).
      subst RisingCounts (sym (cond-true (ltb x.count e.count) _ _ (lt-ltb x.count e.count lt)))
      (all_with (λ y. x.count < y.count) e es lt r.0, rising_with e es r.1 parts.1))
      (λ (ge : e.count ≤ x.count).
      let other = eqb-false x.count e.count parts.0 in
      let less : e.count < x.count = omega (arith, other) in
      subst RisingCounts (sym (cond-false (ltb x.count e.count) _ _ (le-ltb x.count e.count ge)))
      ((less, All-weaker (λ (y : Entry P). x.count < y.count) (λ (y : Entry P). e.count < y.count) (λ y l. omega arith) es r.0), r))
      (cases_lt x.count e.count)

  pub ordered_with : (e : Entry P) (es : List (Entry P)) → e.count ≤ 16777215 → holds e.count es ≡ false → Ordered es → Ordered (with_point e es)
  ordered_with e es fits new o = (rising_with e es o.0 new, all_with (λ x. x.count ≤ 16777215) e es fits o.1)

  all_removed : (Q : Entry P → Type 0) (es : List (Entry P)) (at : ℕ) → AllByRecursion Q es → AllByRecursion Q (remove es at)
  all_removed Q [] zero a = tt
  all_removed Q [] (suc at) a = tt
  all_removed Q (x ∷ es) zero a = a.1
  all_removed Q (x ∷ es) (suc at) a = (a.0, all_removed Q es at a.1)

  rising_removed : (es : List (Entry P)) (at : ℕ) → RisingCounts es → RisingCounts (remove es at)
  rising_removed [] zero r = tt
  rising_removed [] (suc at) r = tt
  rising_removed (x ∷ es) zero r = r.1
  rising_removed (x ∷ es) (suc at) r = (all_removed (λ y. x.count < y.count) es at r.0, rising_removed es at r.1)

  pub ordered_removed : (es : List (Entry P)) (at : ℕ) → Ordered es → Ordered (remove es at)
  ordered_removed es at o = (rising_removed es at o.0, all_removed (λ x. x.count ≤ 16777215) es at o.1)

  pub length_with : (e : Entry P) (es : List (Entry P)) → length (with_point e es) ≡ suc (length es)
  length_with e [] = refl
  length_with e (x ∷ es) = grind (arith, nat_tests, length_with e es)

  -- the first places of the memory after one more are the points
  pub held_with : (e : Entry P) (mem : List (Entry P)) (held : ℕ) → held ≤ length mem → take (held + 1) (memory_with e (take held mem) mem) ≡ with_point e (take held mem)
  held_with e mem held h = take_at (with_point e (take held mem)) _ (held + 1) (length_with e (take held mem) ∙ omega (arith, length-take-le held mem h))

  -- and after one less
  pub held_removed : (mem rest : List (Entry P)) (held at : ℕ) → held ≤ length mem → at < held → take (held - 1) (remove (take held mem) at ++ rest) ≡ remove (take held mem) at
  held_removed mem rest held at h k =
      let es = take held mem in
      let long : length es ≡ held = length-take-le held mem h in
      take_at (remove es at) rest (held - 1) (omega (arith, length-remove es at (omega arith)))
