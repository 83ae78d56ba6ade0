-- What is promised of a bench and a holder over any run of calls. Assumes nothing.
use Rattle.std.specs.Prelude.{◌≡◌, ℕ, ◌≤◌, true, List, [], ◌∷◌, map, ℤ, is_ok, Ok, Err, Result}
use Rattle.std.specs.List.{AllByRecursion}
use Rattle.fault.specs.declared.Fault.{Fault}
use Rattle.fit.specs.Cheapest.{LeastCheapest}
use Rattle.fit.specs.Entries.{points_of}
use Rattle.fit.specs.declared.Entry.{Entry}
use Rattle.table.specs.Convert.{conversion}
use Rattle.table.specs.Rows.{once_accepted}
use Rattle.bench.specs.Held.{with_point, without, RisingCounts, add_answer, drop_answer, lay_answer}

-- a call with what it was given and what it answered; a lay goes by the cost of its loss, and by the rows that the
-- holder has after it
pub data Event (P : Type 0) : Type 0 where
  added : ℕ → P → Result (Unit {0}) Fault → Event P
  dropped : ℕ → Result (Unit {0}) Fault → Event P
  laid : (P → ℕ → ℤ) → Result (Unit {0}) Fault → List (ℕ × ℕ) → Event P
  converted : ℕ → Result ℕ Fault → Event P

-- the calls of a run, the newest first
abbrev pub History : Type 0 → Type 0
History P = List (Event P)

-- the points held after a run, by rising count: accepted adds bring theirs, accepted drops take theirs
abbrev pub held_after : {P : Type 0} → History P → List (Entry P)
held_after [] = []
held_after (added c p r ∷ h) = once_accepted r (with_point (record { count = c; point = p }) (held_after h)) (held_after h)
held_after (dropped c r ∷ h) = once_accepted r (without c (held_after h)) (held_after h)
held_after (laid f r rs ∷ h) = held_after h
held_after (converted c r ∷ h) = held_after h

-- the table after a run: no rows until a lay is accepted, and from then on those of the last accepted lay
abbrev pub table_after : {P : Type 0} → History P → List (ℕ × ℕ)
table_after [] = []
table_after (added c p r ∷ h) = table_after h
table_after (dropped c r ∷ h) = table_after h
table_after (laid f r rs ∷ h) = once_accepted r rs (table_after h)
table_after (converted c r ∷ h) = table_after h

-- a count and the level that it got, in front of others
abbrev pub noted : ℕ → Result ℕ Fault → List (ℕ × ℕ) → List (ℕ × ℕ)
noted c (Ok l) since = (c, l) ∷ since
noted c (Err e) since = since

-- the accepted conversions since the last accepted lay
abbrev pub converted_since : {P : Type 0} → History P → List (ℕ × ℕ)
converted_since [] = []
converted_since (added c p r ∷ h) = converted_since h
converted_since (dropped c r ∷ h) = converted_since h
converted_since (laid f r rs ∷ h) = once_accepted r [] (converted_since h)
converted_since (converted c r ∷ h) = noted c r (converted_since h)

-- a table of these points: each count once, rising, with levels from 0 to top that never fall, that are the cheapest
-- such levels, and of the cheapest the least
pub record TableOf {P : Type 0} (cost : P → ℕ → ℤ) (top : ℕ) (es : List (Entry P)) (rs : List (ℕ × ℕ)) : Type 0 where
  pub counts : map (λ r. r.0) rs ≡ map (λ e. e.count) es
  pub rising : RisingCounts es
  pub levels : LeastCheapest cost top (points_of es) (map (λ r. r.1) rs)

-- of two counts, the higher did not get the lower level
abbrev pub InOrder : ℕ × ℕ → ℕ × ℕ → Type 0
InOrder a b = (a.0 ≤ b.0 → a.1 ≤ b.1) × (b.0 ≤ a.0 → b.1 ≤ a.1)

-- what is promised of one call, made after a run, by a bench of so many places and a holder of so much room: it is
-- refused exactly when one of its questions is answered no, with the first such question; an accepted lay leaves the
-- table of the points held; a conversion goes by its count and the last table alone, in order with those before it
abbrev pub Right : {P : Type 0} (places top room : ℕ) → Event P → History P → Type 0
Right places top room (added c p r) h = r ≡ add_answer places (held_after h) c
Right places top room (dropped c r) h = r ≡ drop_answer (held_after h) c
Right places top room (laid cost r rs) h = (r ≡ lay_answer room (held_after h)) × (is_ok r ≡ true → TableOf cost top (held_after h) rs)
Right places top room (converted c r) h = (r ≡ conversion (table_after h) c) × ((l : ℕ) → r ≡ Ok l → AllByRecursion (InOrder (c, l)) (converted_since h))

-- the same of every call of a run
abbrev pub Lawful : {P : Type 0} (places top room : ℕ) → History P → Type 0
Lawful places top room [] = Unit {0}
Lawful places top room (e ∷ h) = Right places top room e h × Lawful places top room h

-- after a run, a bench with the points es and a holder with the rows rs keep every promise
pub record Keeps {P : Type 0} (places top room : ℕ) (h : History P) (es : List (Entry P)) (rs : List (ℕ × ℕ)) : Type 0 where
  pub held : es ≡ held_after h
  pub table : rs ≡ table_after h
  pub lawful : Lawful places top room h
