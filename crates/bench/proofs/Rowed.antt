-- Rows made of points and levels. Assumes nothing.
use Rattle.std.proofs.Common.{◌≡◌, ℕ, ◌<◌, ◌≤◌, List, map, length, ℤ, Ok, sym, ◌∙◌, subst, arith}
use Rattle.std.proofs.lemmas.List.{length-map}
use Rattle.std.proofs.lemmas.Slice.Zip.{firsts-zip, seconds-zip}
use Rattle.std.proofs.lemmas.Bool.Decides.{nat_tests}
use Rattle.table.specs.Rows.{put_answer}
use Rattle.fit.specs.Cheapest.{LeastCheapest}
use Rattle.fit.specs.Entries.{points_of}
use Rattle.fit.specs.MaxMin.{fitted}
use Rattle.fit.specs.declared.Entry.{Entry}
use Rattle.bench.specs.Held.{RisingCounts, laid_rows}
use Rattle.bench.specs.Runs.{TableOf}

-- a put within range and room is taken
pub put_taken : (room : ℕ) (rs : List (ℕ × ℕ)) (c : ℕ) → c ≤ 16777215 → length rs < room → put_answer room rs c ≡ Ok tt
put_taken room rs c h k = grind (arith, nat_tests)

-- the rows of a lay are the table of its points
pub laid_table : {P : Type 0} (cost step : P → ℕ → ℤ) (top : ℕ) (es : List (Entry P)) → RisingCounts es → LeastCheapest cost top (points_of es) (fitted step top (points_of es)) → TableOf cost top es (laid_rows step top es)
laid_table {P} cost step top es rises best =
    let counts : List ℕ = map (λ (e : Entry P). e.count) es in
    let levels = fitted step top (points_of es) in
    let even : length levels ≡ length counts = best.table.one_each ∙ length-map es (λ (e : Entry P). e.point) ∙ sym (length-map es (λ (e : Entry P). e.count)) in
    record {
      counts = firsts-zip counts levels even;
      rising = rises;
      levels = subst (LeastCheapest cost top (points_of es)) (sym (seconds-zip counts levels even)) best;
    }
