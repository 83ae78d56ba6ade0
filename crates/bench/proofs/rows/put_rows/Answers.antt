use Rattle.std.proofs.Common.{◌≡◌, ℕ, ◌<◌, ◌≤◌, [], ◌∷◌, ◌++◌, map, length, get_or, take, Ok, Err, sym, ap, ◌∙◌, rules, arith}
use Rattle.std.proofs.ByRecursion.{All-get_or}
use Rattle.std.proofs.lemmas.List.{take_all, length-take, length-map, length_push, get_or-map, take_more}
use Rattle.std.proofs.lemmas.Slice.Zip.{zip_turn, zip_end, length-zip, get_or-zip}
use Rattle.fit.specs.declared.Entry.{Entry}
use Rattle.table.specs.Rows.{bytes_after}
use Rattle.table.proofs.Laid.{bytes_after_more}
use Rattle.bench.specs.Held.{rows_of}
use Rattle.bench.proofs.Rowed.{put_taken}
use Rattle.bench.proofs.rows.put_rows.Given as given
use Rattle.bench.proofs.rows.put_rows.Goals as goal
use Rattle.bench.proofs.rows.put_rows.Goals.{After-put, In-None}

-- the entry and the level of this turn
turn : (g : given.Over) (c : After-put g) → (let n = length c.loop-entry.yielded in (n < length c.args.entries.now) × (n < length c.args.levels.now) × ((d : Entry g.row.P.Denot) → c.in-Some.entry.now ≡ get_or c.args.entries.now n d) × ((d : ℕ) → c.in-Some.level.now ≡ get_or c.args.levels.now n d))
turn g c =
    zip_turn c.args.entries.now c.args.levels.now c.loop-entry.yielded c.into_iter-entry-iterator.result c.loop-entry.entry-iterator c.next.new.self c.next.result (search rules) (search rules) c.loop-entry.yielded_by (c.in-Some.entry, c.in-Some.level) c.in-Some.is c.next.ensures.steps

-- every row is taken
accepted : (g : given.Over) (c : After-put g) → c.put.result ≡ Ok tt
accepted g c =
    let es = c.args.entries.now in
    let n = length c.loop-entry.yielded in
    let entry = c.in-Some.entry.now in
    let t = turn g c in
    let range : entry.count ≤ 16777215 = omega (arith, All-get_or (λ (e : Entry g.row.P.Denot). e.count ≤ 16777215) es n entry t.0 c.requires.1.1.1, ap (λ (e : Entry g.row.P.Denot). e.count) (t.2 entry)) in
    c.put.ensures.answer ∙ put_taken _ _ _ range (omega (arith, ap length c.loop-entry.invariant.rows, length-take n (rows_of es c.args.levels.now), c.loop-entry.invariant.room))

pub returns-in_err-put : goal.returns-in_err-put
returns-in_err-put g c =
    let clash : Ok tt ≡ Err c.in_err-put.field-0.0 = sym (accepted g (goal.at.returns-in_err-put g c).After-put) ∙ c.in_err-put.was in cc

pub loop-entry-preserved : goal.loop-entry-preserved
loop-entry-preserved g c =
    let es = c.args.entries.now in
    let ls = c.args.levels.now in
    let all = rows_of es ls in
    let n = length c.loop-entry.yielded in
    let h = g.H.Holder in
    let entry = c.in-Some.entry.now in
    let row : ℕ × ℕ = (entry.count, c.in-Some.level.now) in
    let count = λ (e : Entry g.row.P.Denot). e.count in
    let t = turn g (goal.at.loop-entry-preserved g c).After-put in
    let here : get_or all n row ≡ row = get_or-zip (map count es) ls n row (omega (arith, length-map es count)) t.1 ∙ (λ j. ((get_or-map count es n entry row.0 t.0 ∙ ap count (sym (t.2 entry))) j, sym (t.3 row.1) j)) in
    let more : take n all ++ row ∷ [] ≡ take (length (c.loop-entry.yielded ++ (c.in-Some.entry, c.in-Some.level) ∷ [])) all =
    sym (ap (λ k. take k all) (length_push c.loop-entry.yielded (c.in-Some.entry, c.in-Some.level)) ∙ take_more all n row (omega (arith, length-zip (map count es) ls, length-map es count)) ∙ ap (λ r. take n all ++ r ∷ []) here) in
    let told = c.in_ok-put.ensures in
    let inv = c.loop-entry.invariant in
    record {
      rows = told.rows ∙ ap (λ x. x ++ row ∷ []) inv.rows ∙ more;
      room = told.room ∙ inv.room;
      memory = told.memory ∙ (λ k. h.extended (inv.memory k) (inv.rows k) row) ∙ sym (bytes_after_more h.extended (h.memory c.args.holder.now) [] (take n all) row) ∙ ap (bytes_after h.extended (h.memory c.args.holder.now) []) more;
    }

-- at the end there are all
all_put : (g : given.Over) (c : In-None g) → take (length c.loop-entry.yielded) (rows_of c.args.entries.now c.args.levels.now) ≡ rows_of c.args.entries.now c.args.levels.now
all_put g c =
    let es = c.args.entries.now in
    let ls = c.args.levels.now in
    let count = λ (e : Entry g.row.P.Denot). e.count in
    let n = length c.loop-entry.yielded in
    let end = zip_end es ls c.loop-entry.yielded c.into_iter-entry-iterator.result c.loop-entry.entry-iterator c.next.new.self c.next.result (search rules) (search rules) c.loop-entry.yielded_by c.in-None.is c.next.ensures.steps in
    take_all n (rows_of es ls) (omega (arith, end, length-zip (map count es) ls, length-map es count))

pub returns-clause-rows : goal.returns-clause-rows
returns-clause-rows g c = c.loop-entry.invariant.rows ∙ all_put g (goal.at.returns-clause-rows g c).In-None

pub returns-clause-memory : goal.returns-clause-memory
returns-clause-memory g c = c.loop-entry.invariant.memory ∙ ap (bytes_after g.H.Holder.extended (g.H.Holder.memory c.args.holder.now) []) (all_put g (goal.at.returns-clause-memory g c).In-None)
