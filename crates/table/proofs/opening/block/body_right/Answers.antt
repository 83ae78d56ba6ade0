use Rattle.std.proofs.Common.{◌≡◌, ℕ, ◌&&◌, length, take, drop, Decides, sym, ap, ◌∙◌, arith}
use Rattle.std.specs.Str.{bytes_eq}
use Rattle.std.proofs.lemmas.Slice.Eq.{slice_eq-Decides, bytes_eq-Decides}
use Rattle.std.proofs.lemmas.List.{length-take, length-drop, take_rest}
use Rattle.table.specs.Binary.{block_head, block_places}
use Rattle.table.proofs.Same.{decides_as, first_eight, body_both}
use Rattle.table.proofs.opening.block.body_right.Goals as goal
use Rattle.table.proofs.opening.block.body_right.Goals.{After-eq}
use Rattle.std.proofs.lemmas.Bool.Decides.{Decides-eqb}

pub slice_bounds-eq-end : goal.slice_bounds-eq-end
slice_bounds-eq-end c = omega (arith, length-take {A = ℕ}, length-drop {A = ℕ})

-- the test of the head
head_test : (c : After-eq) → Decides c.eq.result (take 8 c.args.bytes.now ≡ block_head c.args.block.now.number (length c.args.block.now.rows.now))
head_test c =
    decides_as _ c.head.result _ _ c.eq.result (slice_eq-Decides Decides-eqb _ _ _ c.eq.ensures)
    (sym (first_eight c.args.bytes.now (omega (arith, c.requires))))
    c.head.ensures

pub returns-then-eq : goal.returns-then-eq
returns-then-eq c =
    let p = c.eq-then-eq.result in
    ap (λ t. t && p) (sym c.if-eq.true)
    ∙ body_both c.args.block.now.number c.args.bytes.now c.args.block.now.rows.now c.eq.result p (omega (arith, c.requires))
    (head_test (goal.at.returns-then-eq c).After-eq)
    (decides_as _ _ _ _ p (slice_eq-Decides Decides-eqb _ _ _ c.eq-then-eq.ensures) (ap (take 500) (take_rest c.args.bytes.now 8)) (c.as_slice.ensures ∙ c.places.ensures))

pub returns-else-eq : goal.returns-else-eq
returns-else-eq c =
    let places = take 500 (drop 8 c.args.bytes.now) in
    let rows = block_places c.args.block.now.rows.now in
    c.if-eq.false
    ∙ (ap (λ t. t && bytes_eq places rows) (sym c.if-eq.false)
    ∙ body_both c.args.block.now.number c.args.bytes.now c.args.block.now.rows.now c.eq.result (bytes_eq places rows) (omega (arith, c.requires))
    (head_test (goal.at.returns-else-eq c).After-eq)
    (bytes_eq-Decides places rows))
