-- What entering a point and pooling two blocks make of the stack. Assumes nothing.
use Rattle.std.proofs.Common.{◌≡◌, ℕ, ◌+◌, ◌-◌, ◌<◌, ◌≤◌, min, true, false, ltb, List, [], ◌∷◌, ◌++◌, length, get_or, take, drop, ℤ, Some, None, sym, refl, ap, ◌∙◌, subst, subst₂, ⊎_elim, append_assoc, arith, length-append, length-take}
use Rattle.std.proofs.lemmas.List.{length-map, length-reverse, length-drop, length-take-le, take-append-drop, map-append, get_or_at}
use Rattle.std.proofs.lemmas.Bool.{cases_Bool, ltb-true, ltb-false, cond-true, cond-false}
use Rattle.fit.specs.Best.{summed_step, first_up, best_level}
use Rattle.fit.specs.Entries.{points_of}
use Rattle.fit.specs.Pooling.{newest_first, falling_two, Ends, Stacked}
use Rattle.fit.specs.declared.Block.{Block}
use Rattle.fit.specs.declared.Entry.{Entry}
use Rattle.fit.specs.declared.Stack.{Stack}
use Rattle.fit.proofs.Bests.{Best, Rises, best_is}
use Rattle.fit.proofs.Merge.{pooled_one, pooled_both, joint_best}
use Rattle.fit.proofs.Runs.{points_more, points_between}

-- the blocks, newest first, part the points so far into pooled runs, but the newest may be lower than the one before
abbrev pub Entered : {P : Type 0} → (P → ℕ → ℤ) → ℕ → List Block → List P → Type 0
Entered step top [] ps = ⊥
Entered {P} step top (b ∷ bs) ps =
    (earlier : List P) × (run : List P) × Ends step top b ps earlier run × Stacked step top bs earlier

-- the two newest blocks where the newest is lower
pub record Falls (bs : List Block) (a b : Block) : Type 0 where
  pub is : bs ≡ b ∷ a ∷ drop 2 bs
  pub lower : b.crossing.level < a.crossing.level

pub falls : (bs : List Block) (a b : Block) → Some (a, b) ≡ falling_two bs → Falls bs a b
falls [] a b e = absurd (cc)
falls (x ∷ []) a b e = absurd (cc)
falls (x ∷ y ∷ bs) a b e =
    ⊎_elim
    (λ (yes' : ltb x.crossing.level y.crossing.level ≡ true).
    let whole : Some (a, b) ≡ Some (y, x) = e ∙ cond-true _ _ _ yes' in
    let pair : ◌≡◌ {A = Block × Block} (a, b) (y, x) = cc in
    let older : a ≡ y = ap (λ t. t.0) pair in
    let newer : b ≡ x = ap (λ t. t.1) pair in
    record {
      is = λ j. sym newer j ∷ sym older j ∷ bs;
      lower = subst₂ (λ (p q : Block). p.crossing.level < q.crossing.level) (sym newer) (sym older) (ltb-true _ _ yes');
    })
    (λ (no' : ltb x.crossing.level y.crossing.level ≡ false).
    let whole : Some (a, b) ≡ None = e ∙ cond-false _ _ _ no' in absurd (cc))
    (cases_Bool (ltb x.crossing.level y.crossing.level))

pub length_newest : (s : Stack) → length (newest_first s) ≡ min s.depth (length s.blocks)
length_newest s = omega (arith, length-reverse (take s.depth s.blocks), length-take s.depth s.blocks)

first_of : {X : Type 0} (xs : List X) → 0 < length xs → (x : X) × (rest : List X) × (xs ≡ x ∷ rest)
first_of [] h = absurd (omega arith)
first_of (x ∷ xs) h = (x, xs, refl)

module _ {P : Type 0} (step : P → ℕ → ℤ) (top : ℕ) where
  -- every block has a point
  pub stacked_depth : (bs : List Block) (ps : List P) → Stacked step top bs ps → length bs ≤ length ps
  stacked_depth [] ps s = omega arith
  stacked_depth (b ∷ bs) ps s =
      omega (arith, stacked_depth bs s.0 s.4, s.2.pooled.some, length-append s.0 s.1, ap length s.2.split)

  -- nothing falls any more
  pub settled : (bs : List Block) (ps : List P) → Entered step top bs ps → None ≡ falling_two bs → Stacked step top bs ps
  settled [] ps s e = absurd s
  settled (b ∷ []) ps s e = (s.0, s.1, s.2, omega arith, s.3)
  settled (b ∷ a ∷ bs) ps s e =
      ⊎_elim
      (λ (yes' : ltb b.crossing.level a.crossing.level ≡ true).
      let whole : None ≡ Some (a, b) = e ∙ cond-true _ _ _ yes' in absurd (cc))
      (λ no'. (s.0, s.1, s.2, ltb-false _ _ no', s.3))
      (cases_Bool (ltb b.crossing.level a.crossing.level))

  alone : (p : P) → first_up (summed_step step (p ∷ [])) 0 (top - 0) ≡ best_level step top (p ∷ [])
  unfolding best_level
  alone p = ap (first_up (summed_step step (p ∷ [])) 0) (omega arith)

  module _ (rises : Rises step top) (es : List (Entry P)) where
    -- the next point enters as a block of its own
    pub entered : (bs : List Block) (b : Block) (at : ℕ) → at < length es → Stacked step top bs (points_of (take at es)) → b.start ≡ at → b.end ≡ at + 1 → b.crossing.level ≡ first_up (summed_step step (points_of (take (at + 1 - at) (drop at es)))) 0 (top - 0) → Entered step top (b ∷ bs) (points_of (take (at + 1) es))
    entered bs b at h s first end is =
        let next = first_of (drop at es) (omega (arith, length-drop at es)) in
        let p = next.0.point in
        let front = points_of (take at es) in
        let whole : take at es ++ next.0 ∷ next.1 ≡ es = ap (λ t. take at es ++ t) (sym next.2) ∙ take-append-drop at es in
        let read : next.0 ≡ get_or es at next.0 = sym (get_or_at (take at es) next.0 next.1 next.0 at (length-take-le at es (omega arith))) ∙ ap (λ t. get_or t at next.0) whole in
        let long_front : length front ≡ at = length-map (take at es) (λ (x : Entry P). x.point) ∙ length-take-le at es (omega arith) in
        let run = points_between es at (at + 1) front (p ∷ []) (points_of next.1) (ap points_of (sym whole) ∙ map-append (λ (x : Entry P). x.point) (take at es) (next.0 ∷ next.1)) long_front (omega arith) in
        let best = best_is step top rises (p ∷ []) in
        let here : b.crossing.level ≡ best_level step top (p ∷ []) = is ∙ ap (λ t. first_up (summed_step step t) 0 (top - 0)) run ∙ alone p in (
          front,
          p ∷ [],
          record {
            split = points_more es at next.0 h read;
            start = long_front ∙ sym first;
            end = length-map (take (at + 1) es) (λ (x : Entry P). x.point) ∙ length-take-le (at + 1) es (omega arith) ∙ sym end;
            pooled = pooled_one step top p b.crossing.level (subst (Best step top (p ∷ [])) (sym here) best);
          },
          s,
        )

    -- where the points of the two newest blocks lie
    pub places : (n : ℕ) (bs : List Block) (a b : Block) → Entered step top (b ∷ a ∷ bs) (points_of (take n es)) → (a.start ≤ b.end) × (b.end ≤ length es)
    places n bs a b s =
        let below = s.3 in (
          omega (arith, below.2.start, s.2.end, ap length s.2.split, length-append s.0 s.1, ap length below.2.split, length-append below.0 below.1),
          omega (arith, s.2.end, length-map (take n es) (λ (x : Entry P). x.point), length-take n es),
        )

    -- the two newest blocks become one
    pub pooled : (n : ℕ) (bs : List Block) (a b both : Block) → Entered step top (b ∷ a ∷ bs) (points_of (take n es)) → b.crossing.level < a.crossing.level → both.start ≡ a.start → both.end ≡ b.end → both.crossing.level ≡ first_up (summed_step step (points_of (take (b.end - a.start) (drop a.start es)))) b.crossing.level (a.crossing.level - b.crossing.level) → Entered step top (both ∷ bs) (points_of (take n es))
    pooled n bs a b both s falls first end is =
        let below = s.3 in
        let front = below.0 in
        let xs = below.1 in
        let ys = s.1 in
        let back = points_of (drop n es) in
        let split : points_of (take n es) ≡ front ++ (xs ++ ys) = s.2.split ∙ ap (λ t. t ++ ys) below.2.split ∙ append_assoc front xs ys in
        let whole : points_of es ≡ front ++ ((xs ++ ys) ++ back) =
        ap points_of (sym (take-append-drop n es)) ∙ map-append (λ (x : Entry P). x.point) (take n es) (drop n es) ∙ ap (λ t. t ++ back) split ∙ append_assoc front (xs ++ ys) back in
        let run = points_between es a.start b.end front (xs ++ ys) back whole below.2.start (omega (arith, s.2.end, below.2.start, ap length split, length-append front (xs ++ ys))) in
        let best = joint_best step top rises xs ys a.crossing.level b.crossing.level both.crossing.level below.2.pooled s.2.pooled falls (is ∙ ap (λ t. first_up (summed_step step t) b.crossing.level (a.crossing.level - b.crossing.level)) run) in (
          front,
          xs ++ ys,
          record {
            split = split;
            start = below.2.start ∙ sym first;
            end = s.2.end ∙ sym end;
            pooled = pooled_both step top xs ys a.crossing.level b.crossing.level both.crossing.level below.2.pooled s.2.pooled falls best;
          },
          below.4,
        )
