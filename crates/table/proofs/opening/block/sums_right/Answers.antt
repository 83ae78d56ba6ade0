use Rattle.std.proofs.Common.{◌≡◌, min, length, take, drop, ap, ◌∙◌, arith}
use Rattle.std.proofs.lemmas.List.{drop_min, take_min}
use Rattle.std.proofs.lemmas.Slice.Eq.{slice_eq-Decides}
use Rattle.table.specs.Binary.{sum_bytes}
use Rattle.table.specs.Opening.{sums_right}
use Rattle.table.proofs.Same.{same_as}
use Rattle.table.proofs.opening.block.sums_right.Goals as goal
use Rattle.std.proofs.lemmas.Bool.Decides.{Decides-eqb}

pub returns : goal.returns
unfolding sums_right
returns c =
    let cut = c.split_at.ensures in
    let bs = c.args.bytes.now in
    let at : c.min.result ≡ min 508 (length bs) = omega arith in
    same_as _ _ _ _ c.eq.result (slice_eq-Decides Decides-eqb _ _ _ c.eq.ensures)
    (cut.back ∙ (ap (λ n. drop n bs) at ∙ drop_min 508 bs))
    (c.as_slice.ensures ∙ (c.sum_bytes.ensures ∙ ap sum_bytes (cut.front ∙ (ap (λ n. take n bs) at ∙ take_min 508 bs))))
