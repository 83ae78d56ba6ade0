use Rattle.std.proofs.Common.{◌≡◌, ◌+◌, ◌-◌, ◌/◌, [], ◌++◌, length, Err, sym, ap, ◌∙◌, arith}
use Rattle.std.specs.Result.{result_and}
use Rattle.std.proofs.lemmas.List.{length-append}
use Rattle.std.proofs.lemmas.Result.{err_from_is_err_and}
use Rattle.table.specs.Opening.{block_rows, opened_from, opened}
use Rattle.table.specs.Opened.{rows_answered}
use Rattle.table.proofs.OnlyThat.{only_that}
use Rattle.table.proofs.Opens.{opened_whole, opened_ragged, opened_long, step}
use Rattle.table.proofs.ReadsBack.{reads_back}
use Rattle.table.proofs.opening.open.Goals as goal
use Rattle.table.proofs.opening.open.Goals.{then-bytes-ne0-via-then-bytes-ne0, then-bytes-ne0-via-else-bytes-ne0+then-bytes-gt-MAX_BYTES, After-new-found, After-take_block}

pub returns-then-bytes-ne0 : goal.returns-then-bytes-ne0
returns-then-bytes-ne0 c = record {
  answer = ap Err c.plain.ensures
      ∙ sym
      (elim c.then-bytes-ne0.branch [
        | then-bytes-ne0-via-then-bytes-ne0 w ↦ opened_ragged c.args.bytes.now w.if-bytes-ne0.true
        | then-bytes-ne0-via-else-bytes-ne0+then-bytes-gt-MAX_BYTES w ↦ opened_long c.args.bytes.now w.if-bytes-ne0.false w.if-bytes-gt-MAX_BYTES.true
      ]);
  back = reads_back;
  only = only_that;
}

whole : (c : After-new-found) → opened c.args.bytes.now ≡ opened_from (length c.args.bytes.now / 512) 0 [] c.args.bytes.now
whole c = opened_whole c.args.bytes.now c.if-bytes-ne0.false c.if-bytes-gt-MAX_BYTES.false

-- this block, and what opening those behind it answers
stepped : (c : After-take_block) → opened_from (length c.loop-number.number-iterator.iter.rest.now / 512) c.loop-number.number-iterator.count c.loop-number.found.items c.loop-number.number-iterator.iter.rest.now ≡ result_and c.take_block.result (opened_from (length c.args.bytes.now / 512 - c.in-Some.number - 1) (c.in-Some.number + 1) (c.loop-number.found.items ++ block_rows c.in-Some.block.now) c.next.new.self.iter.rest.now)
stepped c =
    let s = c.in-Some.ensures.steps in
    ap (λ k. opened_from (length c.loop-number.number-iterator.iter.rest.now / 512) k c.loop-number.found.items c.loop-number.number-iterator.iter.rest.now) (sym s.1)
    ∙ step _ _ c.in-Some.number c.loop-number.found.items _ c.in-Some.block.now c.next.new.self.iter.rest.now c.take_block.result
    (omega (arith, c.loop-number.invariant.left, length-append c.in-Some.block.now c.next.new.self.iter.rest.now, ap length s.0.1.0))
    s.0.1.0 (s.0.1.1 ∙ c.loop-number.invariant.size) c.take_block.ensures.answer

pub returns-in_err-take_block : goal.returns-in_err-take_block
returns-in_err-take_block c =
    let at = goal.at.returns-in_err-take_block c in
    let p = err_from_is_err_and c.from_residual.result c.from_residual.ensures.1 in
    record {
      answer = ap rows_answered p.1
          ∙ (ap Err p.2
          ∙ sym
          (whole at.After-new-found
          ∙ (sym c.loop-number.invariant.answer
          ∙ (rw c.in_err-take_block.was at (stepped at.After-take_block)))));
      back = reads_back;
      only = only_that;
    }

pub loop-number-preserved : goal.loop-number-preserved
loop-number-preserved c =
    let s = c.in-Some.ensures.steps in
    let rest = c.next.new.self.iter.rest.now in
    let left = length c.args.bytes.now / 512 - c.in-Some.number - 1 in
    let long = length-append c.in-Some.block.now rest in
    record {
      size = omega arith;
      left = omega (arith, c.loop-number.invariant.left, long, ap length s.0.1.0);
      answer =
          ap (λ n. opened_from n c.next.new.self.count c.take_block.new.found.items rest) {y = left} (omega (arith, c.loop-number.invariant.left, long, ap length s.0.1.0))
          ∙ ((λ i. opened_from left ((s.2 ∙ ap (λ n. n + 1) (sym s.1)) i) (c.take_block.ensures.rows c.in_ok-take_block.was i) rest)
          ∙ (sym (rw c.in_ok-take_block.was at (stepped (goal.at.loop-number-preserved c).After-take_block))
          ∙ c.loop-number.invariant.answer));
    }

pub returns : goal.returns
returns c =
    let s = c.in-None.ensures.steps in
    let rest = c.loop-number.number-iterator.iter.rest.now in
    record {
      answer =
          ap (λ n. opened_from n c.loop-number.number-iterator.count c.loop-number.found.items rest) {x = 0} {y = length rest / 512} (omega arith)
          ∙ (c.loop-number.invariant.answer ∙ sym (whole (goal.at.returns c).After-new-found));
      back = reads_back;
      only = only_that;
    }
