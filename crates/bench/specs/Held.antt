-- Held points: a list of entries by rising count. Assumes nothing.
use Rattle.std.specs.Prelude.{ℕ, suc, ◌<◌, ◌≤◌, min, Bool, false, cond, not, ◌||◌, List, [], ◌∷◌, ◌++◌, length, map, drop, ℤ, Ok, Err, Result, ◌==◌, nat_le, nat_lt}
use mathlib.Core.HLevel.{Unit-prop, ×_prop}
use native.Mathlib.Bridge.{le_prop}
use Rattle.std.specs.List.{AllByRecursion, AllByRecursion-prop, zip}
use Rattle.fault.specs.Asked.{asked}
use Rattle.fault.specs.declared.Fault.{Fault}
use Rattle.fault.specs.declared.Question.TheVariants.{AddCount, AddTwice, AddFull, DropNone, LayNone, LayRoom}
use Rattle.fit.specs.Entries.{points_of}
use Rattle.fit.specs.MaxMin.{fitted}
use Rattle.fit.specs.declared.Entry.{Entry}

-- is a point of this count held?
abbrev pub holds : {P : Type 0} → ℕ → List (Entry P) → Bool
holds c [] = false
holds c (e ∷ es) = e.count == c || holds c es

-- one point more, behind those of lower count
abbrev pub with_point : {P : Type 0} → Entry P → List (Entry P) → List (Entry P)
with_point e [] = e ∷ []
with_point e (x ∷ es) = cond (nat_lt x.count e.count) (x ∷ with_point e es) (e ∷ x ∷ es)

-- the point of a count taken out, and that point
abbrev pub without : {P : Type 0} → ℕ → List (Entry P) → List (Entry P)
without c [] = []
without c (x ∷ es) = cond (x.count == c) es (x ∷ without c es)

abbrev pub taken_out : {P : Type 0} → ℕ → List (Entry P) → List (Entry P)
taken_out c [] = []
taken_out c (x ∷ es) = cond (x.count == c) (x ∷ []) (taken_out c es)

-- counts rise from entry to entry
abbrev pub RisingCounts : {P : Type 0} → List (Entry P) → Type 0
RisingCounts [] = Unit {0}
RisingCounts (x ∷ es) = AllByRecursion (λ y. x.count < y.count) es × RisingCounts es

-- the order of a bench's points: rising counts, all in range
abbrev pub Ordered : {P : Type 0} → List (Entry P) → Type 0
Ordered es = RisingCounts es × AllByRecursion (λ x. x.count ≤ 16777215) es

-- that holds in one way at most
RisingCounts-prop : {P : Type 0} (es : List (Entry P)) → IsProp (RisingCounts es)
RisingCounts-prop [] = Unit-prop
RisingCounts-prop (x ∷ es) = ×_prop (AllByRecursion-prop (λ y. x.count < y.count) (λ y. le_prop) es) (RisingCounts-prop es)

pub Ordered-prop : {P : Type 0} (es : List (Entry P)) → IsProp (Ordered es)
Ordered-prop es = ×_prop (RisingCounts-prop es) (AllByRecursion-prop (λ x. x.count ≤ 16777215) (λ x. le_prop) es)

-- how many of the first entries lie below a count
abbrev pub below_count : {P : Type 0} → ℕ → List (Entry P) → ℕ
below_count c [] = 0
below_count c (x ∷ es) = cond (nat_lt x.count c) (suc (below_count c es)) 0

-- where the point of a count stands, or else where it would
abbrev pub found_place : {P : Type 0} → ℕ → List (Entry P) → Result ℕ ℕ
found_place c es = cond (holds c es) (Ok (below_count c es)) (Err (below_count c es))

-- as many places as the memory has, at most 1,024
abbrev pub places_of : {P : Type 0} → List (Entry P) → ℕ
places_of mem = min (length mem) 1024

abbrev pub add_answer : {P : Type 0} → ℕ → List (Entry P) → ℕ → Result (Unit {0}) Fault
add_answer places es c =
    asked ((AddCount, nat_le c 16777215) ∷ (AddTwice, not (holds c es)) ∷ (AddFull, nat_lt (length es) places) ∷ []) tt

abbrev pub drop_answer : {P : Type 0} → List (Entry P) → ℕ → Result (Unit {0}) Fault
drop_answer es c = asked ((DropNone, holds c es) ∷ []) tt

abbrev pub lay_answer : {P : Type 0} → ℕ → List (Entry P) → Result (Unit {0}) Fault
lay_answer room es = asked ((LayNone, nat_lt 0 (length es)) ∷ (LayRoom, nat_le (length es) room) ∷ []) tt

-- the memory after an accepted add: the held points, then what stood past the place that was filled
abbrev pub memory_with : {P : Type 0} → Entry P → List (Entry P) → List (Entry P) → List (Entry P)
memory_with e es mem = with_point e es ++ drop (suc (length es)) mem

-- after an accepted drop: the held points, the dropped one in the place that became free, then what stood past it
abbrev pub memory_without : {P : Type 0} → ℕ → List (Entry P) → List (Entry P) → List (Entry P)
memory_without c es mem = without c es ++ (taken_out c es ++ drop (length es) mem)

-- a row for each point, with its level
abbrev pub rows_of : {P : Type 0} → List (Entry P) → List ℕ → List (ℕ × ℕ)
rows_of es ls = zip (map (λ e. e.count) es) ls

-- the rows of a lay: each point's count with its max-min level
abbrev pub laid_rows : {P : Type 0} → (P → ℕ → ℤ) → ℕ → List (Entry P) → List (ℕ × ℕ)
laid_rows step top es = rows_of es (fitted step top (points_of es))
