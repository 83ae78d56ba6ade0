-- What the pooling keeps of its blocks. Only functions that are closed to other crates cite this file: what the fit
-- promises to others stands in MaxMin and Cheapest. Assumes nothing.
use Rattle.std.specs.Prelude.{◌≡◌, ℕ, ◌-◌, ◌<◌, ◌≤◌, cond, List, [], ◌∷◌, ◌++◌, length, replicate, ℤ, pos, ◌+ℤ◌, ◌≤ℤ◌, ◌<ℤ◌, Some, None, Option, nat_lt, reverse, take}
use Rattle.fit.specs.Best.{total}
use Rattle.fit.specs.declared.Block.{Block}
use Rattle.fit.specs.declared.Stack.{Stack}

-- every non-empty front of a run, with a in front of it, adds up to less than 0
abbrev pub Fronts : {P : Type 0} → (P → ℤ) → ℤ → List P → Type 0
Fronts f a [] = Unit {0}
Fronts f a (p ∷ ps) = ((a +ℤ f p) <ℤ pos 0) × Fronts f (a +ℤ f p) ps

-- every non-empty back of a run, with a behind it, adds up to 0 or more
abbrev pub Backs : {P : Type 0} → (P → ℤ) → List P → ℤ → Type 0
Backs f [] a = Unit {0}
Backs f (p ∷ ps) a = (pos 0 ≤ℤ (total f (p ∷ ps) +ℤ a)) × Backs f ps a

-- v parts the levels below top: every front of ps is below 0 under it, and every back of ps is 0 or more from it on
pub record Pooled {P : Type 0} (step : P → ℕ → ℤ) (top : ℕ) (ps : List P) (v : ℕ) : Type 0 where
  pub some : 0 < length ps
  pub within : v ≤ top
  pub fronts : (l : ℕ) → l < v → Fronts (λ p. step p l) (pos 0) ps
  pub backs : (l : ℕ) → v ≤ l → l < top → Backs (λ p. step p l) ps (pos 0)

-- the blocks of a stack, the newest first
abbrev pub newest_first : Stack → List Block
newest_first s = reverse (take s.depth s.blocks)

abbrev pub level_of : List Block → ℕ
level_of [] = 0
level_of (b ∷ bs) = b.crossing.level

-- the two newest blocks, the older first, where the newest is lower than the one before
abbrev pub falling_two : List Block → Option (Block × Block)
falling_two [] = None
falling_two (b ∷ []) = None
falling_two (b ∷ a ∷ bs) = cond (nat_lt b.crossing.level a.crossing.level) (Some (a, b)) None

-- the level of each point: its block's
abbrev pub spread : List Block → List ℕ
spread [] = []
spread (b ∷ bs) = spread bs ++ replicate (b.end - b.start) b.crossing.level

-- the blocks lie one behind the other, from place 0 up to n
abbrev pub Covers : List Block → ℕ → Type 0
Covers [] n = n ≡ 0
Covers (b ∷ bs) n = (b.end ≡ n) × (b.start ≤ b.end) × Covers bs b.start

-- ps is earlier and then run, which is pooled and has the block b
pub record Ends {P : Type 0} (step : P → ℕ → ℤ) (top : ℕ) (b : Block) (ps earlier run : List P) : Type 0 where
  pub split : ps ≡ earlier ++ run
  pub start : length earlier ≡ b.start
  pub end : length ps ≡ b.end
  pub pooled : Pooled step top run b.crossing.level

-- the blocks, newest first, part the points so far into pooled runs whose levels never fall
abbrev pub Stacked : {P : Type 0} → (P → ℕ → ℤ) → ℕ → List Block → List P → Type 0
Stacked step top [] ps = ps ≡ []
Stacked {P} step top (b ∷ bs) ps =
    (earlier : List P) × (run : List P) × Ends step top b ps earlier run × (level_of bs ≤ b.crossing.level) × Stacked step top bs earlier
