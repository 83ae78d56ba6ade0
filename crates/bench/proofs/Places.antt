-- Where a count stands among entries by rising count. Assumes nothing.
use Rattle.std.proofs.Common.{Bor, ◌≡◌, ℕ, zero, suc, ◌<◌, ◌≤◌, Bool, true, false, ◌||◌, eqb, ltb, List, [], ◌∷◌, ◌++◌, length, get_or, take, drop, ◌-◌, ◌+◌, Ok, Err, sym, refl, ap, ◌∙◌, subst, ⊎_elim, arith}
use denote.Param.Members.{Mut}
use Rattle.std.specs.Fn.{Called, ComputesKey}
use Rattle.std.specs.List.{AllByRecursion, insert, remove}
use Rattle.std.specs.List.Sorted.{IsPartitionedBy, IsPartitionPoint}
use Rattle.std.proofs.ByRecursion.{All-get_or, All-weaker}
use Rattle.std.proofs.lemmas.List.{drop-take, take-take, length-take-le}
use Rattle.std.proofs.lemmas.List.Sorted.{IsPartitionPoint-from_clause}
use Rattle.std.proofs.lemmas.Bool.{both_ways, cases_Bool, cases_lt, cases_eq, lt-ltb, le-ltb, ltb-true, ltb-false, eq-eqb, ne_eqb, or_right, cond-true, cond-false}
use Rattle.std.proofs.lemmas.Bool.Decides.{nat_tests}
use Rattle.fit.specs.declared.Entry.{Entry}
use Rattle.bench.specs.Held.{holds, with_point, without, taken_out, RisingCounts, below_count, found_place, memory_with, memory_without}

-- counts rise from any place to any later one
pub rising_at : {P : Type 0} (es : List (Entry P)) (i j : ℕ) (d : Entry P) → RisingCounts es → i < j → j < length es → (get_or es i d).count < (get_or es j d).count
rising_at [] i j d r h k = absurd (omega arith)
rising_at (x ∷ es) i zero d r h k = absurd (omega arith)
rising_at (x ∷ es) zero (suc j) d r h k = All-get_or (λ (y : Entry _). x.count < y.count) es j d (omega arith) r.0
rising_at (x ∷ es) (suc i) (suc j) d r h k = rising_at es i j d r.1 (omega arith) (omega arith)

module _ {P : Type 0} (c : ℕ) where
  head_below : (x : Entry P) (es : List (Entry P)) → x.count < c → below_count c (x ∷ es) ≡ suc (below_count c es)
  head_below x es h = grind (arith, nat_tests)

  head_over : (x : Entry P) (es : List (Entry P)) → c ≤ x.count → below_count c (x ∷ es) ≡ 0
  head_over x es h = grind (arith, nat_tests)

  holds_head : (x : Entry P) (es : List (Entry P)) → (x.count ≡ c → ⊥) → holds c (x ∷ es) ≡ holds c es
  holds_head x es h = ap (λ b. b || holds c es) (ne_eqb x.count c h)

  -- counts that all lie above are not this one
  holds_none : (es : List (Entry P)) → AllByRecursion (λ x. c < x.count) es → holds c es ≡ false
  holds_none [] a = refl
  holds_none (x ∷ es) a = holds_head x es (λ e. omega (arith, a.0)) ∙ holds_none es a.1

  -- a place where the count stands
  at_count : (es : List (Entry P)) (k : ℕ) (d : Entry P) → RisingCounts es → k < length es → (get_or es k d).count ≡ c → (holds c es ≡ true) × (below_count c es ≡ k)
  at_count [] k d r h e = absurd (omega arith)
  at_count (x ∷ es) zero d r h e = (grind (arith, nat_tests), grind (arith, nat_tests))
  at_count (x ∷ es) (suc k) d r h e =
      let rest = at_count es k d r.1 (omega arith) e in
      let below : x.count < c = omega (arith, All-get_or (λ (y : Entry P). x.count < y.count) es k d (omega arith) r.0) in
      (or_right (eqb x.count c) (holds c es) rest.0, head_below x es below ∙ ap suc rest.1)

  -- a place behind all lower counts and before all higher ones, where there is no other
  at_gap : (es : List (Entry P)) (k : ℕ) → k ≤ length es → ((i : ℕ) (d : Entry P) → i < k → (get_or es i d).count < c) → ((i : ℕ) (d : Entry P) → k ≤ i → i < length es → c < (get_or es i d).count) → (holds c es ≡ false) × (below_count c es ≡ k)
  at_gap [] k h low high = (refl, omega arith)
  at_gap (x ∷ es) zero h low high =
      let over : c < x.count = high 0 x (omega arith) (omega arith) in
      let rest = at_gap es 0 (omega arith) (λ i d l. absurd (omega arith)) (λ i d l m. high (suc i) d (omega arith) (omega arith)) in
      (holds_head x es (λ e. omega arith) ∙ rest.0, head_over x es (omega arith))
  at_gap (x ∷ es) (suc k) h low high =
      let under : x.count < c = low 0 x (omega arith) in
      let rest = at_gap es k (omega arith) (λ i d l. low (suc i) d (omega arith)) (λ i d l m. high (suc i) d (omega arith) (omega arith)) in
      (holds_head x es (λ e. omega arith) ∙ rest.0, head_below x es under ∙ ap suc rest.1)

  -- the counts rise, so those below this one lie first
  parted : (es : List (Entry P)) → RisingCounts es → IsPartitionedBy (λ e. ltb e.count c) es
  parted es r i j d h k below = grind (arith, nat_tests, rising_at es i j d r, λ (same : i ≡ j). ap (λ n. (get_or es n d).count) same)

  -- those below the count lie before the place, and the others from it on
  abbrev pub Parted : List (Entry P) → ℕ → Type 0
  Parted es at = (at ≤ length es) × IsPartitionPoint (λ e. ltb e.count c ≡ true) (λ e. ltb e.count c ≡ false) es at

  -- what `partition_point` says, where each call tells whether an entry lies below the count
  pub parted_at : (es : List (Entry P)) (at : ℕ) → RisingCounts es → {F : Type 0} {g : Mut F (Bor (Entry P) × Unit {0}) Bool} {f : F} {xs : List (Entry P)} → at ≤ length xs → ((q : Entry P → Bool) → ComputesKey g q f → IsPartitionedBy q xs → IsPartitionPoint (λ e. q e ≡ true) (λ e. q e ≡ false) xs at) → ((a : Bor (Entry P) × Unit {0}) (r : Bool) (f' : F) → Called g f a r f' → (r ≡ ltb a.0.now.count c) × (f' ≡ f)) → xs ≡ es → Parted es at
  parted_at es at r bound clause calls same =
      let below = λ (e : Entry P). ltb e.count c in
      subst (λ xs. Parted xs at) same (bound, IsPartitionPoint-from_clause below _ at clause (subst (IsPartitionedBy below) (sym same) (parted es r)) calls)

  -- the place behind those below the count: it stands there, or nowhere
  pub found_at : (es : List (Entry P)) (at : ℕ) (d : Entry P) → RisingCounts es → at < length es → (get_or es at d).count ≡ c → Ok at ≡ found_place c es
  found_at es at d r h is =
      let found = at_count es at d r h is in
      ap Ok (sym found.1) ∙ sym (cond-true (holds c es) _ _ found.0)

  pub found_none : (es : List (Entry P)) (at : ℕ) → RisingCounts es → Parted es at → ((d : Entry P) → at < length es → (get_or es at d).count ≡ c → ⊥) → Err at ≡ found_place c es
  found_none es at r is other =
      let parts = is.1 in
      let over = λ (i : ℕ) (d : Entry P) (l : at ≤ i) (m : i < length es). ltb-false (get_or es i d).count c (parts.1 i d l m) in
      let none =
      at_gap es at is.0
      (λ i d l. ltb-true (get_or es i d).count c (parts.0 i d (omega arith) l))
      (λ i d l m.
      ⊎_elim
      (λ (lt : c < (get_or es i d).count). lt)
      (λ (ge : (get_or es i d).count ≤ c).
      ⊎_elim
      (λ (later : at < i). absurd (omega (arith, over at d (omega arith) (omega arith), rising_at es at i d r later m)))
      (λ (here : i ≤ at).
      let same : at ≡ i = omega arith in
      absurd (other d (omega arith) (ap (λ n. (get_or es n d).count) same ∙ omega (arith, over i d l m))))
      (cases_lt at i))
      (cases_lt c (get_or es i d).count)) in
      ap Err (sym none.1) ∙ sym (cond-false (holds c es) _ _ none.0)

  -- a point goes in behind those below it
  with_at : (e : Entry P) (es : List (Entry P)) → e.count ≡ c → with_point e es ≡ insert es (below_count c es) e
  with_at e [] is = refl
  with_at e (x ∷ es) is =
      ⊎_elim
      (λ (lt : x.count < c).
      cond-true (ltb x.count e.count) _ _ (lt-ltb x.count e.count (omega arith)) ∙ ap (λ z. x ∷ z) (with_at e es is) ∙ sym (ap (λ n. insert (x ∷ es) n e) (head_below x es lt)))
      (λ (ge : c ≤ x.count).
      cond-false (ltb x.count e.count) _ _ (le-ltb x.count e.count (omega arith)) ∙ sym (ap (λ n. insert (x ∷ es) n e) (head_over x es ge)))
      (cases_lt x.count c)

  -- the point of the count stands at the place sought
  without_at : (es : List (Entry P)) → RisingCounts es → holds c es ≡ true → (without c es ≡ remove es (below_count c es)) × (taken_out c es ≡ take 1 (drop (below_count c es) es)) × (below_count c es < length es)
  without_at [] r h = absurd (both_ways false refl h)
  without_at (x ∷ es) r h =
      ⊎_elim
      (λ (lt : x.count < c).
      let other : x.count ≡ c → ⊥ = λ e. omega arith in
      let next = head_below x es lt in
      let rest = without_at es r.1 (sym (holds_head x es other) ∙ h) in (
        cond-false (eqb x.count c) _ _ (ne_eqb x.count c other) ∙ ap (λ z. x ∷ z) rest.0 ∙ sym (ap (remove (x ∷ es)) next),
        cond-false (eqb x.count c) _ _ (ne_eqb x.count c other) ∙ rest.1 ∙ sym (ap (λ n. take 1 (drop n (x ∷ es))) next),
        omega (arith, next, rest.2),
      ))
      (λ (ge : c ≤ x.count).
      let here = head_over x es ge in
      let same : x.count ≡ c =
      ⊎_elim (λ e. e) (λ (ne : x.count ≡ c → ⊥). absurd (both_ways (holds c es) (holds_none es (All-weaker (λ (y : Entry P). x.count < y.count) (λ (y : Entry P). c < y.count) (λ y l. omega arith) es r.0)) (sym (holds_head x es ne) ∙ h))) (cases_eq x.count c) in
      let yes' = eq-eqb x.count c same in (
        cond-true (eqb x.count c) _ _ yes' ∙ sym (ap (remove (x ∷ es)) here),
        cond-true (eqb x.count c) _ _ yes' ∙ sym (ap (λ n. take 1 (drop n (x ∷ es))) here),
        omega (arith, here),
      ))
      (cases_lt x.count c)

module _ {P : Type 0} (c : ℕ) (es : List (Entry P)) (at : ℕ) where
  absent : Err at ≡ found_place c es → (at ≡ below_count c es) × (holds c es ≡ false)
  absent e =
      ⊎_elim
      (λ (on : holds c es ≡ true).
      let clash : Err at ≡ Ok (below_count c es) = e ∙ cond-true (holds c es) _ _ on in cc)
      (λ (off : holds c es ≡ false).
      let same : Err at ≡ Err (below_count c es) = e ∙ cond-false (holds c es) _ _ off in
      let is : at ≡ below_count c es = cc in (is, off))
      (cases_Bool (holds c es))

  present : Ok at ≡ found_place c es → (at ≡ below_count c es) × (holds c es ≡ true)
  present e =
      ⊎_elim
      (λ (on : holds c es ≡ true).
      let same : Ok at ≡ Ok (below_count c es) = e ∙ cond-true (holds c es) _ _ on in
      let is : at ≡ below_count c es = cc in (is, on))
      (λ (off : holds c es ≡ false).
      let clash : Ok at ≡ Err (below_count c es) = e ∙ cond-false (holds c es) _ _ off in cc)
      (cases_Bool (holds c es))

-- the point found at a place, and what is left without it
pub record Out {P : Type 0} (c : ℕ) (mem : List (Entry P)) (held at : ℕ) : Type 0 where
  pub on : holds c (take held mem) ≡ true
  pub inside : at < held
  pub left : remove (take held mem) at ≡ without c (take held mem)
  pub memory : remove (take held mem) at ++ (take 1 (drop at mem) ++ drop held mem) ≡ memory_without c (take held mem) mem

pub taken_at : {P : Type 0} (c : ℕ) (mem : List (Entry P)) (held at : ℕ) → held ≤ length mem → RisingCounts (take held mem) → Ok at ≡ found_place c (take held mem) → Out c mem held at
taken_at c mem held at h r is =
    let es = take held mem in
    let long : length es ≡ held = length-take-le held mem h in
    let found = present c es at is in
    let out = without_at c es r found.1 in
    let inside : at < held = omega (arith, found.0, out.2) in
    let left : remove es at ≡ without c es = ap (remove es) found.0 ∙ sym out.0 in
    let cut : drop at es ≡ take (held - at) (drop at mem) = ap (λ n. drop at (take n mem)) {y = at + (held - at)} (omega arith) ∙ drop-take at (held - at) mem in
    let one : take 1 (drop at mem) ≡ taken_out c es = sym (out.1 ∙ ap (λ n. take 1 (drop n es)) (sym found.0) ∙ ap (take 1) cut ∙ take-take 1 (held - at) (drop at mem) (omega arith)) in
    record { on = found.1; inside = inside; left = left; memory = (λ i. left i ++ (one i ++ drop (sym long i) mem)) }

-- a place where the entry's count is not found
pub record In {P : Type 0} (e : Entry P) (mem : List (Entry P)) (held at : ℕ) : Type 0 where
  pub off : holds e.count (take held mem) ≡ false
  pub more : insert (take held mem) at e ++ drop (held + 1) mem ≡ memory_with e (take held mem) mem

pub put_at : {P : Type 0} (e : Entry P) (mem : List (Entry P)) (held at : ℕ) → held ≤ length mem → Err at ≡ found_place e.count (take held mem) → In e mem held at
put_at e mem held at h is =
    let es = take held mem in
    let long : length es ≡ held = length-take-le held mem h in
    let found = absent e.count es at is in
    let width : held + 1 ≡ suc (length es) = omega arith in
    let placed : insert es at e ≡ with_point e es = ap (λ n. insert es n e) found.0 ∙ sym (with_at e.count e es refl) in
    record { off = found.1; more = (λ i. placed i ++ drop (width i) mem) }
