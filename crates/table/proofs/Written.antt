-- Bytes written over others. Assumes nothing.
use Rattle.std.proofs.Common.{◌≡◌, ℕ, ◌+◌, ◌-◌, ◌<◌, ◌≤◌, List, [], ◌∷◌, ◌++◌, length, take, drop, set, sym, ap, ◌∙◌, add_assoc, arith}
use Rattle.std.proofs.lemmas.List.{append_assoc, length-append, length-take-le, length-drop, length_push, take_at, drop_at, drop-drop, drop-set, take-set-le, take-take, take-append-drop}
use Rattle.table.specs.Text.{over}

pub length_over : (bs : List ℕ) (at : ℕ) (ws : List ℕ) → at + length ws ≤ length bs → length (over bs at ws) ≡ length bs
unfolding over
length_over bs at ws h =
    omega (
      arith,
      length-append (take at bs) (ws ++ drop (at + length ws) bs),
      length-append ws (drop (at + length ws) bs),
      length-take-le at bs (omega arith),
      length-drop (at + length ws) bs,
    )

pub take_over : (bs : List ℕ) (at : ℕ) (ws : List ℕ) → at ≤ length bs → take (at + length ws) (over bs at ws) ≡ take at bs ++ ws
unfolding over
take_over bs at ws h =
    let front : length (take at bs ++ ws) ≡ at + length ws = omega (arith, length-append (take at bs) ws, length-take-le at bs h) in
    ap (take (at + length ws)) (sym (append_assoc (take at bs) ws _)) ∙ take_at (take at bs ++ ws) _ (at + length ws) front

pub drop_over : (bs : List ℕ) (at : ℕ) (ws : List ℕ) (k : ℕ) → at ≤ length bs → drop (at + length ws + k) (over bs at ws) ≡ drop (at + length ws + k) bs
unfolding over
drop_over bs at ws k h =
    let front : length (take at bs ++ ws) ≡ at + length ws = omega (arith, length-append (take at bs) ws, length-take-le at bs h) in
    sym (drop-drop k (at + length ws) _)
    ∙ (ap (drop k) (ap (drop (at + length ws)) (sym (append_assoc (take at bs) ws _)) ∙ drop_at (take at bs ++ ws) _ (at + length ws) front)
    ∙ drop-drop k (at + length ws) bs)

-- one piece behind another
pub over_join : (bs : List ℕ) (at : ℕ) (xs ys : List ℕ) → at + length xs ≤ length bs → over (over bs at xs) (at + length xs) ys ≡ over bs at (xs ++ ys)
unfolding over
over_join bs at xs ys h =
    ap (λ (t : List ℕ). t ++ (ys ++ drop (at + length xs + length ys) (over bs at xs))) (take_over bs at xs (omega arith))
    ∙ (ap (λ (t : List ℕ). (take at bs ++ xs) ++ (ys ++ t)) (drop_over bs at xs (length ys) (omega arith))
    ∙ (append_assoc (take at bs) xs _
    ∙ ap (λ (t : List ℕ). take at bs ++ t)
    (sym (append_assoc xs ys _)
    ∙ ap (λ n. (xs ++ ys) ++ drop n bs) (add_assoc at (length xs) (length ys) ∙ ap (λ n. at + n) (sym (length-append xs ys))))))

-- a row's text by its two numbers
abbrev pub spaced : List ℕ → List ℕ → List ℕ
spaced xs ys = xs ++ (32 ∷ (ys ++ (10 ∷ [])))

pub length_spaced : (xs ys : List ℕ) → length (spaced xs ys) ≡ length xs + (length ys + 2)
length_spaced xs ys = omega (arith, length-append xs (32 ∷ (ys ++ (10 ∷ []))), length_push ys 10)

-- a row's text written from its last byte to its first: the newline, the level's digits, the space, the count's digits
pub over_backwards : (bs b2 b4 xs ys : List ℕ) (used at start end : ℕ) → end ≡ used + length xs + 1 + length ys → end < length bs → length b2 ≡ length bs → at + length ys ≡ end → start + length xs ≡ at - 1 → drop at b2 ≡ ys ++ drop end (set bs end 10) → take at b2 ≡ take at (set bs end 10) → drop start b4 ≡ xs ++ drop (at - 1) (set b2 (at - 1) 32) → take start b4 ≡ take start (set b2 (at - 1) 32) → b4 ≡ over bs used (spaced xs ys)
unfolding over
over_backwards bs b2 b4 xs ys used at start end all room kept level count back2 front2 back4 front4 =
    let back = back4
    ∙ ap (λ (t : List ℕ). xs ++ t)
    (drop-set b2 (at - 1) 32 (omega arith)
    ∙ ap (λ (t : List ℕ). 32 ∷ t)
    (ap (λ k. drop k b2) {x = at - 1 + 1} {y = at} (omega arith) ∙ (back2 ∙ ap (λ (t : List ℕ). ys ++ t) (drop-set bs end 10 room)))) in
    let front = front4
    ∙ (take-set-le start b2 (at - 1) 32 (omega arith)
    ∙ (sym (take-take start at b2 (omega arith))
    ∙ (ap (take start) front2
    ∙ (take-take start at (set bs end 10) (omega arith)
    ∙ (take-set-le start bs end 10 (omega arith) ∙ ap (λ k. take k bs) {x = start} {y = used} (omega arith)))))) in
    let rest = drop (used + length (spaced xs ys)) bs in
    sym (take-append-drop start b4)
    ∙ ((λ i. front i ++ back i)
    ∙ ap (λ (t : List ℕ). take used bs ++ t)
    (ap (λ k. xs ++ (32 ∷ (ys ++ (10 ∷ drop k bs)))) {x = end + 1} {y = used + length (spaced xs ys)} (omega (arith, length_spaced xs ys))
    ∙ sym (append_assoc xs (32 ∷ (ys ++ (10 ∷ []))) rest ∙ ap (λ (t : List ℕ). xs ++ (32 ∷ t)) (append_assoc ys (10 ∷ []) rest))))
