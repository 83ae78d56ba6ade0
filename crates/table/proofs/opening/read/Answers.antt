use Rattle.std.proofs.Common.{◌++◌, [], ◌∷◌, length, ap, sym, ◌∙◌, arith}
use Rattle.std.proofs.lemmas.List.{append_assoc, length-append}
use Rattle.table.specs.Opening.{rows_read}
use Rattle.table.proofs.Order.{rows_front}
use Rattle.table.proofs.opening.read.Goals as goal

pub loop-place-preserved : goal.loop-place-preserved
loop-place-preserved c =
    let s = c.in-Some.ensures.steps in
    let rest = c.next.new.self.iter.rest.now in
    let left = c.next.new.self.n in
    record {
      size = omega arith;
      enough = omega (arith, ap length s.0.1.0, length-append c.in-Some.place.now rest);
      room = omega (arith, c.push.ensures.len);
      rows =
          ap (λ rs. rs ++ rows_read left rest) (c.push.ensures.items ∙ ap (λ r. c.loop-place.found.items ++ (r ∷ [])) c.row_at.ensures)
          ∙ (append_assoc c.loop-place.found.items _ (rows_read left rest)
          ∙ (ap (λ rs. c.loop-place.found.items ++ rs)
          (sym (ap (rows_read c.loop-place.place-iterator.n) s.0.1.0 ∙ rows_front left c.loop-place.place-iterator.n c.in-Some.place.now rest s.1 (omega arith)))
          ∙ c.loop-place.invariant.rows));
    }
