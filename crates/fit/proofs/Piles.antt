-- The blocks of an array, the newest first. Assumes nothing.
use Rattle.std.proofs.Common.{◌≡◌, ℕ, zero, suc, ◌+◌, ◌-◌, ◌<◌, ◌≤◌, List, [], ◌∷◌, ◌++◌, length, get_or, take, drop, replicate, reverse, pos, sym, ap, ◌∙◌, subst, ⊎_elim, append_assoc, add-one, arith, length-append}
use Rattle.std.proofs.lemmas.List.{reverse-append, length-replicate, length-take-le, take_at, take_more}
use Rattle.std.proofs.lemmas.Bool.{cases_lt}
use Rattle.fit.specs.Pooling.{spread, Covers}
use Rattle.fit.specs.declared.Block.{Block}

abbrev pub none : Block
none = record { start = 0; end = 0; crossing = record { level = 0; under = pos 0; over = pos 0 } }

-- one block more is the newest
newest_more : (bs : List Block) (n : ℕ) → n < length bs → reverse (take (n + 1) bs) ≡ get_or bs n none ∷ reverse (take n bs)
newest_more bs n h = ap reverse (take_more bs n none h) ∙ reverse-append (take n bs) (get_or bs n none ∷ [])

pub newest_two : (bs : List Block) (n : ℕ) → 2 ≤ n → n ≤ length bs → reverse (take n bs) ≡ get_or bs (n - 1) none ∷ get_or bs (n - 2) none ∷ reverse (take (n - 2) bs)
newest_two bs n h k =
    let one : n ≡ n - 1 + 1 = omega arith in
    let two : n - 1 ≡ n - 2 + 1 = omega arith in
    ap (λ m. reverse (take m bs)) one ∙ newest_more bs (n - 1) (omega arith) ∙ ap (λ m. get_or bs (n - 1) none ∷ reverse (take m bs)) two ∙ ap (λ t. get_or bs (n - 1) none ∷ t) (newest_more bs (n - 2) (omega arith))

abbrev pub end_of : List Block → ℕ
end_of [] = 0
end_of (b ∷ bs) = b.end

covers_end : (bs : List Block) (m : ℕ) → Covers bs m → end_of bs ≡ m
covers_end [] m c = sym c
covers_end (b ∷ bs) m c = c.0

-- where the k-th block of a covering lies
pub record Lies (bs : List Block) (k m : ℕ) (b : Block) : Type 0 where
  pub first : b.start ≡ end_of (reverse (take k bs))
  pub order : b.start ≤ b.end
  pub within : b.end ≤ m

pub covers_at : (bs : List Block) (n m k : ℕ) → n ≤ length bs → Covers (reverse (take n bs)) m → k < n → Lies bs k m (get_or bs k none)
covers_at bs zero m k l c h = absurd (omega arith)
covers_at bs (suc n) m k l c h =
    let more : Covers (get_or bs n none ∷ reverse (take n bs)) m = subst (λ t. Covers t m) (ap (λ i. reverse (take i bs)) (sym (add-one n)) ∙ newest_more bs n (omega arith)) c in
    ⊎_elim
    (λ (lt : k < n).
    let below = covers_at bs n (get_or bs n none).start k (omega arith) more.2 lt in
    record { first = below.first; order = below.order; within = omega (arith, below.within, more.0, more.1) })
    (λ (ge : n ≤ k).
    let same : n ≡ k = omega arith in
    subst (λ i. Lies bs i m (get_or bs i none)) same
    (record { first = sym (covers_end (reverse (take n bs)) _ more.2); order = more.1; within = omega (arith, more.0) }))
    (cases_lt k n)

-- one block more has been written
pub wrote : (bs : List Block) (k : ℕ) (b : Block) (ls more : List ℕ) → k < length bs → b ≡ get_or bs k none → take (end_of (reverse (take k bs))) ls ≡ spread (reverse (take k bs)) → Lies bs k (length ls) b → more ≡ take b.start ls ++ (replicate (b.end - b.start) b.crossing.level ++ drop b.end ls) → take (end_of (reverse (take (k + 1) bs))) more ≡ spread (reverse (take (k + 1) bs))
wrote bs k b ls more h read before lies is =
    let block = replicate (b.end - b.start) b.crossing.level in
    let front = take b.start ls in
    let whole : more ≡ (front ++ block) ++ drop b.end ls = is ∙ sym (append_assoc front block (drop b.end ls)) in
    let long : length (front ++ block) ≡ b.end = omega (arith, length-append front block, length-replicate (b.end - b.start) b.crossing.level, length-take-le b.start ls (omega (arith, lies.order, lies.within)), lies.order) in
    let taken : take b.end more ≡ spread (reverse (take k bs)) ++ block =
    ap (take b.end) whole ∙ take_at (front ++ block) (drop b.end ls) b.end long ∙ ap (λ x. x ++ block) (ap (λ n. take n ls) lies.first ∙ before) in
    let here : take (end_of (b ∷ reverse (take k bs))) more ≡ spread (b ∷ reverse (take k bs)) = taken in
    subst (λ t. take (end_of t) more ≡ spread t) (sym (newest_more bs k h)) (subst (λ x. take (end_of (x ∷ reverse (take k bs))) more ≡ spread (x ∷ reverse (take k bs))) read here)
