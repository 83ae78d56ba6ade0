use Rattle.std.proofs.Common.{◌≡◌, ℕ, min, List, length, take, sym, ap, ◌∙◌, ⊎_elim, arith}
use Rattle.std.proofs.lemmas.List.{take_all}
use Rattle.std.proofs.lemmas.Bool.{cases_lt}
use Rattle.lines.proofs.line.Line.new.Goals as goal

-- as many bytes as there are, up to k
taken : (bs : List ℕ) (n k : ℕ) → n ≡ min (length bs) k → take n bs ≡ take k bs
taken bs n k e =
    ⊎_elim (λ h. take_all n bs (omega (arith, h, e)) ∙ sym (take_all k bs (omega (arith, h)))) (λ h. ap (λ i. take i bs) (omega (arith, h, e))) (cases_lt (length bs) k)

pub returns : goal.returns
returns c = ap (λ bs. (c.args.number, bs)) (taken c.args.bytes.now c.min.result 65 c.min.ensures)
