use Rattle.std.proofs.Common.{◌≡◌, ℕ, suc, ◌+◌, ◌-◌, ◌<◌, ◌≤◌, eqb, List, ◌∷◌, length, take, drop, Some, None, sym, ap, ◌∙◌, add-one, arith, rules, tests}
use Rattle.std.proofs.lemmas.Iterator.{YieldsList-from_slice}
use Rattle.std.proofs.lemmas.Iterator.Search.{position_from_yields_List}
use Rattle.std.proofs.lemmas.List.{take_all, drop_all, length-take-le, length-drop}
use Rattle.std.proofs.lemmas.Slice.{between_to_end}
use Rattle.lines.specs.Pieces.{before, pieces}
use Rattle.lines.proofs.Cuts.{before_within, pieces_first, before_found}
use Rattle.lines.proofs.pieces.split_first.Goals as goal

-- what both exits show of the two parts
first_of : (s : ℕ) (t p q : List ℕ) → p ≡ take (before s t) t → q ≡ drop (suc (before s t)) t → 0 < length t → pieces s t ≡ p ∷ pieces s q
first_of s t p q one two h = pieces_first s t h ∙ (ap (λ x. x ∷ pieces s (drop (suc (before s t)) t)) (sym one) ∙ ap (λ x. p ∷ pieces s x) (sym two))

lengths_of : (s : ℕ) (t p q : List ℕ) → p ≡ take (before s t) t → q ≡ drop (suc (before s t)) t → (length p ≤ length t) × (length q ≡ length t - suc (length p))
lengths_of s t p q one two =
    let front : length p ≡ before s t = ap length one ∙ length-take-le (before s t) t (before_within s t) in
    (omega (arith, front, before_within s t), ap length two ∙ (length-drop (suc (before s t)) t ∙ ap (λ k. length t - suc k) (sym front)))

pub returns-in-Some : goal.returns-in-Some
returns-in-Some c =
    let t = c.args.text.now in
    let s = c.args.end in
    let found = position_from_yields_List (λ b. eqb b s) _ _ c.position.result c.position.ensures.ran (YieldsList-from_slice t cc) (λ x b q k. search (rules, tests)) in
    let at = before_found s t (Some c.in-Some.at) (sym c.in-Some.is ∙ found) in
    let one = ap (λ k. take k t) at in
    let two = between_to_end t (c.in-Some.at + 1) _ (omega arith) ∙ ap (λ k. drop k t) (add-one _ ∙ ap suc at) in
    record { piece = one; rest = two; pieces = first_of s t _ _ one two; lengths = lengths_of s t _ _ one two }

pub returns-in-None : goal.returns-in-None
returns-in-None c =
    let t = c.args.text.now in
    let s = c.args.end in
    let found = position_from_yields_List (λ b. eqb b s) _ _ c.position.result c.position.ensures.ran (YieldsList-from_slice t cc) (λ x b q k. search (rules, tests)) in
    let at : before s t ≡ length t = before_found s t None (sym c.in-None.is ∙ found) in
    let one = sym (take_all (before s t) t (omega (arith, at))) in
    let two = sym (drop_all (suc (before s t)) t (omega (arith, at))) in
    record { piece = one; rest = two; pieces = first_of s t _ _ one two; lengths = lengths_of s t _ _ one two }
