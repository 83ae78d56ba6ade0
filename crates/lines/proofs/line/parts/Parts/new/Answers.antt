use Rattle.std.proofs.Common.{length, ◌+◌, ◌≤◌, List, ℕ, sum_by, sym, subst, arith}
use Rattle.lines.proofs.Cuts.{pieces_take}
use Rattle.lines.proofs.line.parts.Parts.new.Goals as goal

pub invariant_of-result : goal.invariant_of-result
invariant_of-result c = record {
  short =
      let bs = c.args.bytes.now in
      subst (λ (ps : List (List ℕ)). 1 + sum_by (λ p. length p + 1) ps ≤ 67) (sym c.new.ensures) (omega (arith, pieces_take 32 bs, c.requires));
}
