-- Each call keeps the promises. Assumes nothing.
use Rattle.std.proofs.Common.{◌≡◌, ℕ, zero, suc, ◌<◌, ◌≤◌, true, List, [], ◌∷◌, map, length, get_or, ℤ, is_ok, Ok, Err, Result, sym, refl, ap, ◌∙◌, subst, arith}
use Rattle.std.specs.List.{AllByRecursion}
use Rattle.std.proofs.ByRecursion.{All-weaker}
use Rattle.std.proofs.lemmas.List.{get_or-map, length-map}
use Rattle.fault.specs.declared.Fault.{Fault}
use Rattle.fit.specs.Cheapest.{NeverFalls}
use Rattle.fit.specs.declared.Entry.{Entry}
use Rattle.table.specs.Convert.{conversion, Rising, Orderly}
use Rattle.table.specs.Rows.{once_accepted, count_at, level_at}
use Rattle.bench.specs.Held.{without, RisingCounts, drop_answer, lay_answer}
use Rattle.bench.specs.Runs.{History, held_after, table_after, converted_since, TableOf, InOrder, Lawful, Keeps}
use Rattle.bench.proofs.Places.{rising_at}
use Rattle.bench.specs.Runs.Event.{added, dropped, laid, converted}

module _ {P : Type 0} (places top room : ℕ) where
  module _ (h : History P) (es : List (Entry P)) (rs : List (ℕ × ℕ)) (k : Keeps places top room h es rs) where
    pub step_drop : (c : ℕ) (r : Result (Unit {0}) Fault) (after : List (Entry P)) → r ≡ drop_answer es c → after ≡ once_accepted r (without c es) es → Keeps places top room (dropped c r ∷ h) after rs
    step_drop c r after is held = record {
      held = held ∙ ap (λ x. once_accepted r (without c x) x) k.held;
      table = k.table;
      lawful = (is ∙ ap (λ x. drop_answer x c) k.held, k.lawful);
    }

    pub step_lay : (cost : P → ℕ → ℤ) (r : Result (Unit {0}) Fault) (after : List (ℕ × ℕ)) → r ≡ lay_answer room es → after ≡ once_accepted r after rs → (is_ok r ≡ true → TableOf cost top es after) → Keeps places top room (laid cost r after ∷ h) es after
    step_lay cost r after is rows made = record {
      held = k.held;
      table = rows ∙ ap (once_accepted r after) k.table;
      lawful = ((is ∙ ap (lay_answer room) k.held, λ ok. subst (λ x. TableOf cost top x after) k.held (made ok)), k.lawful);
    }

-- ---- what a table of points is worth to a conversion

counts_rise : {P : Type 0} (es : List (Entry P)) (i j : ℕ) → RisingCounts es → i < j → j < length es → get_or (map (λ (e : Entry P). e.count) es) i 0 < get_or (map (λ (e : Entry P). e.count) es) j 0
counts_rise [] i j r h k = absurd (omega arith)
counts_rise {P} (x ∷ es) i j r h k =
    let count = λ (e : Entry P). e.count in
    omega (arith, get_or-map count (x ∷ es) i x 0 (omega arith), get_or-map count (x ∷ es) j x 0 k, rising_at (x ∷ es) i j x r h k)

level_over : (l : ℕ) (ls : List ℕ) (j : ℕ) → NeverFalls (l ∷ ls) → j < length (l ∷ ls) → l ≤ get_or (l ∷ ls) j 0
level_over l ls zero f h = omega arith
level_over l [] (suc j) f h = absurd (omega arith)
level_over l (m ∷ ls) (suc j) f h = omega (arith, f.0, level_over m ls j f.1 (omega arith))

falls_rest : (l : ℕ) (ls : List ℕ) → NeverFalls (l ∷ ls) → NeverFalls ls
falls_rest l [] f = tt
falls_rest l (m ∷ ls) f = f.1

levels_rise : (ls : List ℕ) (i j : ℕ) → NeverFalls ls → i < j → j < length ls → get_or ls i 0 ≤ get_or ls j 0
levels_rise [] i j f h k = absurd (omega arith)
levels_rise (l ∷ ls) zero j f h k = level_over l ls j f k
levels_rise (l ∷ ls) (suc i) zero f h k = absurd (omega arith)
levels_rise (l ∷ ls) (suc i) (suc j) f h k = levels_rise ls i j (falls_rest l ls f) (omega arith) (omega arith)

table_rises : {P : Type 0} (cost : P → ℕ → ℤ) (top : ℕ) (es : List (Entry P)) (rs : List (ℕ × ℕ)) → TableOf cost top es rs → Rising rs
table_rises {P} cost top es rs t i j h k =
    let counts : List ℕ = map (λ (r : ℕ × ℕ). r.0) rs in
    let long : length rs ≡ length es = sym (length-map rs (λ (r : ℕ × ℕ). r.0)) ∙ ap length t.counts ∙ length-map es (λ (e : Entry P). e.count) in
    let count : (n : ℕ) → n < length rs → count_at rs n ≡ get_or (map (λ (e : Entry P). e.count) es) n 0 = λ n l. sym (get_or-map (λ (r : ℕ × ℕ). r.0) rs n (0, 0) 0 l) ∙ ap (λ x. get_or x n 0) t.counts in
    let level : (n : ℕ) → n < length rs → level_at rs n ≡ get_or (map (λ (r : ℕ × ℕ). r.1) rs) n 0 = λ n l. sym (get_or-map (λ (r : ℕ × ℕ). r.1) rs n (0, 0) 0 l) in (
      omega (arith, count i (omega arith), count j k, counts_rise es i j t.rising h (omega arith)),
      omega (arith, level i (omega arith), level j k, levels_rise (map (λ (r : ℕ × ℕ). r.1) rs) i j t.levels.table.rising h (omega (arith, length-map rs (λ (r : ℕ × ℕ). r.1)))),
    )

module _ {P : Type 0} (places top room : ℕ) where
  pub rising_after : (h : History P) → Lawful places top room h → Rising (table_after h)
  rising_after [] w = λ i j h k. absurd (omega arith)
  rising_after (added c p r ∷ h) w = rising_after h w.1
  rising_after (dropped c r ∷ h) w = rising_after h w.1
  rising_after (laid cost (Ok u) rs ∷ h) w = table_rises cost top (held_after h) rs (w.0.1 refl)
  rising_after (laid cost (Err e) rs ∷ h) w = rising_after h w.1
  rising_after (converted c r ∷ h) w = rising_after h w.1

  -- the conversions since the last accepted lay went by the table that is there still
  by_this_table : (h : History P) → Lawful places top room h → AllByRecursion (λ d. conversion (table_after h) d.0 ≡ Ok d.1) (converted_since h)
  by_this_table [] w = tt
  by_this_table (added c p r ∷ h) w = by_this_table h w.1
  by_this_table (dropped c r ∷ h) w = by_this_table h w.1
  by_this_table (laid cost (Ok u) rs ∷ h) w = tt
  by_this_table (laid cost (Err e) rs ∷ h) w = by_this_table h w.1
  by_this_table (converted c (Ok l) ∷ h) w = (sym w.0.0, by_this_table h w.1)
  by_this_table (converted c (Err e) ∷ h) w = by_this_table h w.1

  pub step_convert : (h : History P) (es : List (Entry P)) (rs : List (ℕ × ℕ)) → Keeps places top room h es rs → (c : ℕ) (r : Result ℕ Fault) → r ≡ conversion rs c → (Rising rs → Orderly rs) → Keeps places top room (converted c r ∷ h) es rs
  step_convert h es rs k c r is law =
      let t = table_after h in
      let here : r ≡ conversion t c = is ∙ ap (λ x. conversion x c) k.table in
      let order : Orderly t = subst (λ x. Rising x → Orderly x) k.table law (rising_after h k.lawful) in
      record {
        held = k.held;
        table = k.table;
        lawful = (
          (
            here,
            λ l ok.
                All-weaker (λ d. conversion t d.0 ≡ Ok d.1) (InOrder (c, l))
                (λ d e. (λ le. order.higher c d.0 l d.1 le (sym here ∙ ok) e, λ le. order.higher d.0 c d.1 l le e (sym here ∙ ok)))
                (converted_since h) (by_this_table h k.lawful),
          ),
          k.lawful,
        );
      }
