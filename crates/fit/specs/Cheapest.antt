-- What it is for a list of levels to be the cheapest never-falling one, and the least of the cheapest. Assumes nothing.
use Rattle.std.specs.Prelude.{◌≡◌, ℕ, ◌≤◌, List, [], ◌∷◌, length, ℤ, pos, ◌+ℤ◌, ◌≤ℤ◌}
use Rattle.std.specs.List.{AllZip, AllByRecursion}

-- the cost of a list of levels, one for each point
abbrev pub cost_of : {P : Type 0} → (P → ℕ → ℤ) → List P → List ℕ → ℤ
cost_of cost [] ls = pos 0
cost_of cost (p ∷ ps) [] = pos 0
cost_of cost (p ∷ ps) (l ∷ ls) = cost p l +ℤ cost_of cost ps ls

-- no level is lower than the one before
abbrev pub NeverFalls : List ℕ → Type 0
NeverFalls [] = Unit {0}
NeverFalls (l ∷ []) = Unit {0}
NeverFalls (l ∷ m ∷ ls) = (l ≤ m) × NeverFalls (m ∷ ls)

-- a list that could be laid: a level from 0 to top for each point, never falling
pub record Table {P : Type 0} (top : ℕ) (ps : List P) (ls : List ℕ) : Type 0 where
  pub one_each : length ls ≡ length ps
  pub rising : NeverFalls ls
  pub within : AllByRecursion (λ l. l ≤ top) ls

-- ls can be laid, no other list that could be laid costs less, and one that costs as little is nowhere lower
pub record LeastCheapest {P : Type 0} (cost : P → ℕ → ℤ) (top : ℕ) (ps : List P) (ls : List ℕ) : Type 0 where
  pub table : Table top ps ls
  pub cheapest : (ms : List ℕ) → Table top ps ms → cost_of cost ps ls ≤ℤ cost_of cost ps ms
  pub least : (ms : List ℕ) → Table top ps ms → cost_of cost ps ms ≡ cost_of cost ps ls → AllZip (λ l m. l ≤ m) ls ms
