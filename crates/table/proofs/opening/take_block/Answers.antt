use Rattle.std.proofs.Common.{◌≡◌, ◌+◌, ◌-◌, ◌≤◌, true, ◌&&◌, length, get_or, take, drop, Err, sym, ap, ◌∙◌, arith, rules}
use Rattle.std.proofs.lemmas.List.{drop_at, take_rest}
use Rattle.std.proofs.lemmas.Bool.{eq-eqb, ne_eqb}
use Rattle.fault.specs.declared.Question.TheVariants.{OpenOrder}
use Rattle.table.specs.Opening.{rows_read, block_rows, least_after, first_stray, count_right, body_right, in_block}
use Rattle.table.proofs.Asks.{count_parts, length_rows_read, stray_le, answer_sums, answer_layout, answer_order, answer_taken}
use Rattle.table.proofs.opening.take_block.Goals as goal
use Rattle.table.proofs.opening.take_block.Goals.{After-count_right, After-deref-2, After-body_right, After-first_stray-stray}

counted : (c : After-count_right) → c.count_right.result ≡ count_right c.args.left (length c.args.found.now.items) (get_or c.args.bytes.now 2 0)
counted c = c.count_right.ensures ∙ (λ i. count_right c.args.left (c.len-before.ensures.value i) (c.from-count.ensures i))

-- the rows that were read are those of the block
fresh : (c : After-deref-2) → take (length c.deref-2.result.now - c.len-before.result) (drop c.len-before.result c.deref-2.result.now) ≡ block_rows c.args.bytes.now
fresh c =
    take_rest c.deref-2.result.now c.len-before.result
    ∙ (ap (drop c.len-before.result) (c.deref-2.ensures.0 ∙ c.read.ensures)
    ∙ (drop_at c.args.found.now.items _ c.len-before.result (sym c.len-before.ensures.value)
    ∙ (λ i. rows_read (c.from-count.ensures i) (take_rest c.args.bytes.now 8 i))))

-- both halves of the layout
laid : (c : After-body_right) → c.count_right.result ≡ true → (count_right c.args.left (length c.args.found.now.items) (get_or c.args.bytes.now 2 0) && body_right c.args.number c.args.bytes.now (block_rows c.args.bytes.now)) ≡ c.body_right.result
laid c yes-count =
    let at = goal.at.After-body_right c in
    let b = c.args.bytes.now in
    ap (λ t. t && body_right c.args.number b (block_rows b)) (sym (counted at.After-count_right) ∙ yes-count)
    ∙ sym (c.body_right.ensures ∙ ap (body_right c.args.number b) (fresh at.After-deref-2))

-- the stray row's place
placed : (c : After-first_stray-stray) → c.first_stray-stray.result ≡ first_stray (least_after (0, 0) c.args.found.now.items) (block_rows c.args.bytes.now)
placed c =
    let at = goal.at.After-first_stray-stray c in
    c.first_stray-stray.ensures ∙ (λ i. first_stray ((c.least_after-least.ensures ∙ ap (least_after (0, 0)) c.deref.ensures.0) i) (fresh at.After-deref-2 i))

low : (c : After-first_stray-stray) → c.first_stray-stray.result ≤ 255
low c =
    let b = c.args.bytes.now in
    omega (
      arith,
      placed c,
      stray_le (least_after (0, 0) c.args.found.now.items) (block_rows b),
      length_rows_read (get_or b 2 0) (drop 8 b),
      c.type_inv.bytes 2,
    )

pub returns-then-not-sums_right-clause-answer : goal.returns-then-not-sums_right-clause-answer
returns-then-not-sums_right-clause-answer c =
    ap Err c.at.ensures ∙ answer_sums c.args.left c.args.number _ _ (sym c.sums_right.ensures ∙ c.if-not-sums_right.true)

pub returns-then-not-count_right-clause-answer : goal.returns-then-not-count_right-clause-answer
returns-then-not-count_right-clause-answer c =
    let s = counted (goal.at.returns-then-not-count_right-clause-answer c).After-count_right in
    ap Err c.at-then-not-count_right.ensures
    ∙ answer_layout c.args.left c.args.number _ _
    (sym c.sums_right.ensures ∙ c.if-not-sums_right.false)
    (ap (λ t. t && body_right c.args.number c.args.bytes.now (block_rows c.args.bytes.now)) (sym s ∙ c.if-not-count_right.true))

pub invariant_of-block : goal.invariant_of-block
invariant_of-block c =
    omega (
      arith,
      (count_parts c.args.left c.len-before.result c.from-count.result (sym c.count_right.ensures ∙ c.if-not-count_right.false)).1,
      ap length (fresh (goal.at.invariant_of-block c).After-deref-2),
      length_rows_read (get_or c.args.bytes.now 2 0) (drop 8 c.args.bytes.now),
      c.from-count.ensures,
    )

pub returns-then-not-body_right-clause-answer : goal.returns-then-not-body_right-clause-answer
returns-then-not-body_right-clause-answer c =
    ap Err c.at-then-not-body_right.ensures
    ∙ answer_layout c.args.left c.args.number _ _
    (sym c.sums_right.ensures ∙ c.if-not-sums_right.false)
    (laid (goal.at.returns-then-not-body_right-clause-answer c).After-body_right c.if-not-count_right.false ∙ c.if-not-body_right.true)

pub overflow_cast-stray : goal.overflow_cast-stray
overflow_cast-stray c = let h = low (goal.at.overflow_cast-stray c).After-first_stray-stray in search rules

pub overflow_add-stray : goal.overflow_add-stray
overflow_add-stray c = let h = low (goal.at.overflow_add-stray c).After-first_stray-stray in search rules

pub returns-then-stray-count-clause-answer : goal.returns-then-stray-count-clause-answer
returns-then-stray-count-clause-answer c =
    let at = goal.at.returns-then-stray-count-clause-answer c in
    let b = c.args.bytes.now in
    let p = placed at.After-first_stray-stray in
    ap Err c.at-then-stray-count.ensures
    ∙ (ap (λ n. Err (in_block OpenOrder c.args.number (n + 1))) p
    ∙ answer_order c.args.left c.args.number _ _
    (sym c.sums_right.ensures ∙ c.if-not-sums_right.false)
    (laid at.After-body_right c.if-not-count_right.false ∙ c.if-not-body_right.false)
    (ne_eqb _ _ (λ e. c.if-stray-count.true (omega (arith, p, e, c.from-count.ensures, length_rows_read (get_or b 2 0) (drop 8 b))))))

pub returns-clause-answer : goal.returns-clause-answer
returns-clause-answer c =
    let at = goal.at.returns-clause-answer c in
    let b = c.args.bytes.now in
    let p = placed at.After-first_stray-stray in
    answer_taken c.args.left c.args.number _ _
    (sym c.sums_right.ensures ∙ c.if-not-sums_right.false)
    (laid at.After-body_right c.if-not-count_right.false ∙ c.if-not-body_right.false)
    (eq-eqb _ _ (omega (arith, p, c.if-stray-count.false, c.from-count.ensures, length_rows_read (get_or b 2 0) (drop 8 b))))
