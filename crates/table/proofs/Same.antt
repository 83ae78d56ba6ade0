-- A comparison of bytes as a test, and the parts of a block's body. Assumes nothing.
use Rattle.std.proofs.Common.{◌≡◌, ℕ, ◌≤◌, Bool, true, false, ◌&&◌, List, [], ◌∷◌, ◌++◌, length, get_or, take, drop, Decides, sym, refl, ap, ◌∙◌, subst, arith, rules}
use Rattle.std.specs.Str.{bytes_eq}
use Rattle.std.proofs.lemmas.List.FromFn.{fill_by_all}
use Rattle.std.proofs.lemmas.Slice.Eq.{bytes_eq-Decides}
use Rattle.std.proofs.lemmas.List.{length-take-le, get_or-take, take-append-drop, take-take, drop-take, take_at, drop_at}
use Rattle.table.specs.Binary.{block_head, block_places, block_body}
use Rattle.table.specs.Opening.{body_right}

pub same_as : (xs ys us vs : List ℕ) (r : Bool) → Decides r (xs ≡ ys) → xs ≡ us → ys ≡ vs → r ≡ bytes_eq us vs
same_as xs ys us vs r d p q =
    subst (λ (zs : List ℕ). r ≡ bytes_eq zs vs) p
    (subst (λ (zs : List ℕ). r ≡ bytes_eq xs zs) q (search (rules, bytes_eq-Decides)))

pub decides_as : (xs ys us vs : List ℕ) (r : Bool) → Decides r (xs ≡ ys) → xs ≡ us → ys ≡ vs → Decides r (us ≡ vs)
decides_as xs ys us vs r d p q = ((λ e. sym p ∙ (d.0 e ∙ q)), λ e. d.1 (p ∙ (e ∙ sym q)))

pub first_eight : (b : List ℕ) → 8 ≤ length b → take 8 b ≡ get_or b 0 0 ∷ get_or b 1 0 ∷ get_or b 2 0 ∷ get_or b 3 0 ∷ get_or b 4 0 ∷ get_or b 5 0 ∷ get_or b 6 0 ∷ get_or b 7 0 ∷ []
first_eight b h = fill_by_all (λ i. get_or b i 0) (take 8 b) 8 0 (length-take-le 8 b h) (λ k l. get_or-take 8 b k 0 l)

pub body_parts : (b : List ℕ) → take 508 b ≡ take 8 b ++ take 500 (drop 8 b)
body_parts b =
    sym (take-append-drop 8 (take 508 b))
    ∙ (λ i. take-take 8 508 b (omega arith) i ++ drop-take 8 500 b i)

both : (h p : Bool) (xs ys us vs : List ℕ) → length xs ≡ 8 → length us ≡ 8 → Decides h (xs ≡ us) → Decides p (ys ≡ vs) → Decides (h && p) (xs ++ ys ≡ us ++ vs)
both true true xs ys us vs lx lu dh dp = ((λ e i. dh.0 refl i ++ dp.0 refl i), λ e. refl)
both true false xs ys us vs lx lu dh dp =
    ((λ e. absurd (apart e)), λ e. dp.1 (sym (drop_at xs ys 8 lx) ∙ (ap (drop 8) e ∙ drop_at us vs 8 lu)))
  where
    apart : false ≡ true → ⊥
    apart e = cc
both false p xs ys us vs lx lu dh dp =
    ((λ e. absurd (apart e)), λ e. dh.1 (sym (take_at xs ys 8 lx) ∙ (ap (take 8) e ∙ take_at us vs 8 lu)))
  where
    apart : false ≡ true → ⊥
    apart e = cc

-- a block's body is right where its head and its places are
pub body_both : (k : ℕ) (b : List ℕ) (rs : List (ℕ × ℕ)) (h p : Bool) → 8 ≤ length b → Decides h (take 8 b ≡ block_head k (length rs)) → Decides p (take 500 (drop 8 b) ≡ block_places rs) → (h && p) ≡ body_right k b rs
unfolding body_right block_body
body_both k b rs h p long dh dp =
    same_as _ _ (take 508 b) (block_head k (length rs) ++ block_places rs) (h && p)
    (both h p (take 8 b) (take 500 (drop 8 b)) (block_head k (length rs)) (block_places rs) (length-take-le 8 b long) refl dh dp)
    (sym (body_parts b))
    refl
