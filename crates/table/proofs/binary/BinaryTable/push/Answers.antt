use Rattle.std.proofs.Common.{◌≡◌, ℕ, ◌-◌, ◌*◌, ◌/◌, [], ◌∷◌, ◌++◌, length, take, drop, sym, ap, ◌∙◌, arith}
use Rattle.std.proofs.lemmas.List.{length_push, take_rest}
use Rattle.table.specs.Text.{over}
use Rattle.table.specs.Binary.{block_bytes, block_count, binary_bytes, binary_extended}
use Rattle.table.proofs.Written.{length_over}
use Rattle.table.proofs.Stacked.{block_of, length_block_of, last_rows, blocks_more}
use Rattle.table.proofs.binary.BinaryTable.push.Goals as goal
use Rattle.table.proofs.binary.BinaryTable.push.Goals.{After-write}

extended : (c : After-write) → c.write.new.bytes ≡ binary_extended c.args.self.now.bytes.now c.args.self.now.rows (c.args.count, c.args.level)
extended c =
    let rs = c.args.self.now.rows in
    let k = length rs / 62 in
    let all : c.as_slice.result.now ≡ rs ++ ((c.args.count, c.args.level) ∷ []) = c.as_slice.ensures ∙ c.push.ensures in
    c.write.ensures
    ∙ (ap (λ n. over c.args.self.now.bytes.now (512 * (n / 62)) c.bytes.result) c.len-number.ensures
    ∙ ap (over c.args.self.now.bytes.now (512 * k))
    (c.bytes.ensures
    ∙ (ap (λ n. block_bytes (n / 62) (take (length c.as_slice.result.now - 62 * (n / 62)) (drop (62 * (n / 62)) c.as_slice.result.now))) c.len-number.ensures
    ∙ ap (block_bytes k) (take_rest c.as_slice.result.now (62 * k) ∙ (ap (drop (62 * k)) all ∙ last_rows rs (c.args.count, c.args.level))))))

pub invariant_of-self : goal.invariant_of-self
invariant_of-self c =
    let rs = c.args.self.now.rows in
    let bs = c.args.self.now.bytes.now in
    let r : ℕ × ℕ = (c.args.count, c.args.level) in
    let block = block_of (rs ++ (r ∷ [])) (length rs / 62) in
    let kept = length_over bs (512 * (length rs / 62)) block (omega (arith, length_block_of (rs ++ (r ∷ [])) (length rs / 62), c.requires)) in
    let new = extended c in
    record {
      fits = omega (arith, ap length c.push.ensures, length_push rs r, c.requires, kept, ap length new);
      blocks =
          (λ i. take (512 * block_count (length (c.push.ensures i))) (new i))
          ∙ (blocks_more bs rs r (omega (arith, c.requires)) c.args.self.now.blocks ∙ ap binary_bytes (sym c.push.ensures));
    }

pub returns-clause-bytes : goal.returns-clause-bytes
returns-clause-bytes c = extended (goal.at.returns-clause-bytes c).After-write
