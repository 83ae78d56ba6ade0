use Rattle.std.proofs.Common.{◌≡◌, ℕ, ◌-◌, List, is_some, Some, None, Ok, Err, sym, ap, ◌∙◌, arith}
use Rattle.std.specs.List.{slice_get}
use Rattle.std.proofs.lemmas.Option.{slice_get-get_or, slice_get_within}
use Rattle.table.proofs.Answered.{Entered, answer_empty, answer_below, answer_above, answer_exact, answer_falls, answer_between, not_first, lower, past}
use Rattle.table.proofs.Rises.{orderly}
use Rattle.table.proofs.convert.convert.Given as given
use Rattle.table.proofs.convert.convert.Goals as goal
use Rattle.table.proofs.convert.convert.Goals.{Start, After-find-found, In_default-row, In-Some-row, After-unwrap-k0}

abbrev rows : (g : given.Over) → Start g → List (ℕ × ℕ)
rows g c = g.H.Holder.listed c.args.holder.now

entered : (g : given.Over) (c : After-find-found g) → Entered (g.H.Holder.listed c.args.holder.now) c.args.count c.find-found.result (c.in-Some.first, c.in-Some.field-0-1)
entered g c = record { first = sym c.in-Some.ensures; above = omega (arith, c.if-count-first.false); found = c.find-found.ensures }

there : (g : given.Over) (c : In-Some-row g) → slice_get (g.H.Holder.listed c.args.holder.now) c.find-found.result ≡ Some (c.in-Some-row.k1, c.in-Some-row.l1)
there g c = sym c.in-Some-row.ensures

none_there : (g : given.Over) (c : In_default-row g) → slice_get (g.H.Holder.listed c.args.holder.now) c.find-found.result ≡ None
none_there g c = sym c.in_default-row.ensures

before : (g : given.Over) (c : After-unwrap-k0 g) → slice_get (g.H.Holder.listed c.args.holder.now) (c.find-found.result - 1) ≡ Some c.unwrap-k0.result
before g c = sym c.row-3.ensures ∙ c.unwrap-k0.ensures

pub returns-in_default : goal.returns-in_default
returns-in_default g c =
    let rs = rows g (goal.at.returns-in_default g c).Start in
    record {
      answer = ap Err c.plain.ensures ∙ sym (answer_empty rs c.args.count (sym c.in_default.ensures));
      orderly = orderly rs;
    }

pub returns-then-count-first : goal.returns-then-count-first
returns-then-count-first g c =
    let rs = rows g (goal.at.returns-then-count-first g c).Start in
    record {
      answer =
          ap Err c.plain-then-count-first.ensures
          ∙ sym (answer_below rs c.args.count _ (sym c.in-Some.ensures) (omega (arith, c.if-count-first.true)));
      orderly = orderly rs;
    }

pub returns-in_default-row : goal.returns-in_default-row
returns-in_default-row g c =
    let at = goal.at.returns-in_default-row g c in
    record {
      answer =
          ap Err c.plain-in_default-row.ensures
          ∙ sym (answer_above (entered g at.After-find-found) (none_there g at.In_default-row));
      orderly = orderly (rows g at.Start);
    }

pub returns-then-k1-count : goal.returns-then-k1-count
returns-then-k1-count g c =
    let at = goal.at.returns-then-k1-count g c in
    record {
      answer = sym (answer_exact (entered g at.After-find-found) _ (there g at.In-Some-row) c.if-k1-count.true);
      orderly = orderly (rows g at.Start);
    }

pub overflow_sub-found : goal.overflow_sub-found
overflow_sub-found g c =
    let at = goal.at.overflow_sub-found g c in
    not_first (entered g at.After-find-found) _ (there g at.In-Some-row) c.if-k1-count.false

pub unwrap-k0-requires : goal.unwrap-k0-requires
unwrap-k0-requires g c =
    let at = goal.at.unwrap-k0-requires g c in
    let rs = rows g at.Start in
    let within = slice_get_within rs c.find-found.result _ (there g at.In-Some-row) in
    ap is_some (c.row-3.ensures ∙ slice_get-get_or rs (c.find-found.result - 1) (0, 0) (omega (arith, within)))

pub returns-then-l1-l0 : goal.returns-then-l1-l0
returns-then-l1-l0 g c =
    let at = goal.at.returns-then-l1-l0 g c in
    record {
      answer =
          ap Err c.plain-then-l1-l0.ensures
          ∙ sym
          (answer_falls (entered g at.After-find-found) _ (there g at.In-Some-row) c.if-k1-count.false _
          (before g at.After-unwrap-k0) (omega (arith, c.if-l1-l0.true)));
      orderly = orderly (rows g at.Start);
    }

pub between-requires : goal.between-requires
between-requires g c =
    let at = goal.at.between-requires g c in
    let here = entered g at.After-find-found in (
      lower here _ (there g at.In-Some-row) c.if-k1-count.false _ (before g at.After-unwrap-k0),
      (past here _ (there g at.In-Some-row) c.if-k1-count.false, omega (arith, c.if-l1-l0.false)),
    )

pub returns : goal.returns
returns g c =
    let at = goal.at.returns g c in
    record {
      answer =
          ap Ok c.between.ensures
          ∙ sym
          (answer_between (entered g at.After-find-found) _ (there g at.In-Some-row) c.if-k1-count.false _
          (before g at.After-unwrap-k0) (omega (arith, c.if-l1-l0.false)));
      orderly = orderly (rows g at.Start);
    }
