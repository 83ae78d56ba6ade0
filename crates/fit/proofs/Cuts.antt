-- A stack of blocks cuts the points in two at each level: backs of 0 or more at or under it, fronts below 0 over it.
-- Assumes nothing.
use Rattle.std.proofs.Common.{◌≡◌, ℕ, zero, suc, ◌-◌, ◌<◌, ◌≤◌, List, [], ◌∷◌, ◌++◌, length, replicate, ℤ, pos, ◌+ℤ◌, sym, refl, ap, ◌∙◌, subst, ⊎_elim, append_assoc, append-nil, arith, length-append}
use lib.ListN.{length-replicate}
use Rattle.std.specs.List.{AllByRecursion}
use Rattle.std.proofs.ByRecursion.{All-append}
use Rattle.std.proofs.lemmas.Int.{ints}
use Rattle.std.proofs.lemmas.Bool.{cases_lt}
use Rattle.fit.specs.Best.{total}
use Rattle.fit.specs.Cheapest.{NeverFalls, Table}
use Rattle.fit.specs.Pooling.{Fronts, Backs, level_of, spread, Covers, Ends, Stacked}
use Rattle.fit.specs.declared.Block.{Block}
use Rattle.fit.proofs.Signs.{fronts_under, fronts_append, fronts_most, backs_over, backs_append, backs_total}

-- ps is low and then high; the levels of low are at most m, and those of high are above it
pub record Cut {P : Type 0} (f : P → ℤ) (m : ℕ) (ps : List P) (ls : List ℕ) : Type 0 where
  pub low : List P
  pub high : List P
  pub lows : List ℕ
  pub highs : List ℕ
  pub points : ps ≡ low ++ high
  pub levels : ls ≡ lows ++ highs
  pub low_even : length lows ≡ length low
  pub high_even : length highs ≡ length high
  pub backs : Backs f low (pos 0)
  pub fronts : Fronts f (pos 0) high
  pub under : AllByRecursion (λ l. l ≤ m) lows
  pub over : AllByRecursion (λ l. m < l) highs

all_replicate : (Q : ℕ → Type 0) (n v : ℕ) → Q v → AllByRecursion Q (replicate n v)
all_replicate Q zero v h = tt
all_replicate Q (suc n) v h = (h, all_replicate Q n v h)

-- a block of one level at the end of levels that are no higher
rising_block : (ls : List ℕ) (n v : ℕ) → NeverFalls ls → AllByRecursion (λ l. l ≤ v) ls → NeverFalls (ls ++ replicate n v)
rising_block [] zero v r u = tt
rising_block [] (suc zero) v r u = tt
rising_block [] (suc (suc n)) v r u = (omega arith, rising_block [] (suc n) v tt tt)
rising_block (l ∷ []) zero v r u = tt
rising_block (l ∷ []) (suc n) v r u = (u.0, rising_block [] (suc n) v tt tt)
rising_block (l ∷ m ∷ ls) n v r u = (r.0, rising_block (m ∷ ls) n v r.1 u.1)

module _ {P : Type 0} (step : P → ℕ → ℤ) (top : ℕ) where
  -- the newest run has the points between the two ends
  run_length : (b : Block) (ps earlier run : List P) → Ends step top b ps earlier run → length run ≡ b.end - b.start
  run_length b ps earlier run e = omega (arith, e.start, e.end, length-append earlier run, ap length e.split)

  pub stacked_length : (bs : List Block) (ps : List P) → Stacked step top bs ps → length (spread bs) ≡ length ps
  stacked_length [] ps s = sym (ap length s)
  stacked_length (b ∷ bs) ps s =
      omega (arith, length-append (spread bs) (replicate (b.end - b.start) b.crossing.level), length-replicate (b.end - b.start) b.crossing.level, stacked_length bs s.0 s.4, run_length b ps s.0 s.1 s.2, length-append s.0 s.1, ap length s.2.split)

  pub stacked_under : (m : ℕ) (bs : List Block) (ps : List P) → level_of bs ≤ m → Stacked step top bs ps → AllByRecursion (λ l. l ≤ m) (spread bs)
  stacked_under m [] ps h s = tt
  stacked_under m (b ∷ bs) ps h s =
      All-append (λ l. l ≤ m) _ _ (stacked_under m bs s.0 (omega (arith, s.3)) s.4) (all_replicate (λ l. l ≤ m) _ b.crossing.level h)

  stacked_backs : (m : ℕ) (bs : List Block) (ps : List P) → level_of bs ≤ m → m < top → Stacked step top bs ps → Backs (λ p. step p m) ps (pos 0)
  stacked_backs m [] ps h t s = subst (λ x. Backs (λ p. step p m) x (pos 0)) (sym s) tt
  stacked_backs m (b ∷ bs) ps h t s =
      let f : P → ℤ = λ p. step p m in
      let back = s.2.pooled.backs m h t in
      let more = backs_over f (pos 0) (total f s.1 +ℤ pos 0) s.0 (backs_total f (pos 0) s.1 (omega (arith, ints)) back) (stacked_backs m bs s.0 (omega (arith, s.3)) t s.4) in
      subst (λ x. Backs f x (pos 0)) (sym s.2.split) (backs_append f (pos 0) s.0 s.1 more back)

  pub stacked_cut : (m : ℕ) (bs : List Block) (ps : List P) → m < top → Stacked step top bs ps → Cut (λ p. step p m) m ps (spread bs)
  stacked_cut m [] ps t s = record {
    low = [];
    high = [];
    lows = [];
    highs = [];
    points = s;
    levels = refl;
    low_even = refl;
    high_even = refl;
    backs = tt;
    fronts = tt;
    under = tt;
    over = tt;
  }
  stacked_cut m (b ∷ bs) ps t s =
      let f : P → ℤ = λ p. step p m in
      let n = b.end - b.start in
      ⊎_elim
      (λ (lt : m < b.crossing.level).
      let c = stacked_cut m bs s.0 t s.4 in
      let run = fronts_under f (pos 0 +ℤ total f c.high) (pos 0) s.1 (fronts_most f c.high c.fronts) (s.2.pooled.fronts m lt) in
      record {
        low = c.low;
        high = c.high ++ s.1;
        lows = c.lows;
        highs = c.highs ++ replicate n b.crossing.level;
        points = s.2.split ∙ ap (λ x. x ++ s.1) c.points ∙ append_assoc c.low c.high s.1;
        levels = ap (λ x. x ++ replicate n b.crossing.level) c.levels ∙ append_assoc c.lows c.highs (replicate n b.crossing.level);
        low_even = c.low_even;
        high_even = omega (arith, length-append c.highs (replicate n b.crossing.level), length-append c.high s.1, length-replicate n b.crossing.level, run_length b ps s.0 s.1 s.2, c.high_even);
        backs = c.backs;
        fronts = fronts_append f (pos 0) c.high s.1 c.fronts run;
        under = c.under;
        over = All-append (λ l. m < l) _ _ c.over (all_replicate (λ l. m < l) n b.crossing.level lt);
      })
      (λ (ge : b.crossing.level ≤ m). record {
        low = ps;
        high = [];
        lows = spread (b ∷ bs);
        highs = [];
        points = sym (append-nil ps);
        levels = sym (append-nil (spread (b ∷ bs)));
        low_even = stacked_length (b ∷ bs) ps s;
        high_even = refl;
        backs = stacked_backs m (b ∷ bs) ps ge t s;
        fronts = tt;
        under = stacked_under m (b ∷ bs) ps ge s;
        over = tt;
      })
      (cases_lt m b.crossing.level)

  pub stacked_covers : (bs : List Block) (ps : List P) → Stacked step top bs ps → Covers bs (length ps)
  stacked_covers [] ps s = ap length s
  stacked_covers (b ∷ bs) ps s = (
    sym s.2.end,
    omega (arith, s.2.start, s.2.end, length-append s.0 s.1, ap length s.2.split),
    subst (Covers bs) s.2.start (stacked_covers bs s.0 s.4),
  )

  stacked_top : (bs : List Block) (ps : List P) → Stacked step top bs ps → level_of bs ≤ top
  stacked_top [] ps s = omega arith
  stacked_top (b ∷ bs) ps s = s.2.pooled.within

  stacked_rising : (bs : List Block) (ps : List P) → Stacked step top bs ps → NeverFalls (spread bs)
  stacked_rising [] ps s = tt
  stacked_rising (b ∷ bs) ps s =
      rising_block (spread bs) (b.end - b.start) b.crossing.level (stacked_rising bs s.0 s.4) (stacked_under b.crossing.level bs s.0 s.3 s.4)

  pub stacked_table : (bs : List Block) (ps : List P) → Stacked step top bs ps → Table top ps (spread bs)
  stacked_table bs ps s = record {
    one_each = stacked_length bs ps s;
    rising = stacked_rising bs ps s;
    within = stacked_under top bs ps (stacked_top bs ps s) s;
  }
