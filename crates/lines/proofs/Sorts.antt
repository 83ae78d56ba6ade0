-- Fields and their bytes. Assumes nothing.
use Rattle.std.proofs.Common.{◌≡◌, ℕ, ◌≤◌, Bool, true, false, cond, List, [], ◌∷◌, get_or, is_some, Some, None, Option, unwrap_or, sym, refl, ap, ◌∙◌, arith, Bor}
use Rattle.std.specs.List.{slice_get}
use Rattle.std.specs.Str.{all_ascii_digits}
use Rattle.std.proofs.lemmas.Bool.{cond-true, cond-false, false≢true}
use Rattle.lines.specs.declared.fields.Field.{Field}
use Rattle.lines.specs.declared.fields.Field.TheVariants.{Digits, Letter, Other}
use Rattle.lines.specs.Fields.{is_letter, one_letter, field_of, field_bytes, field_letter, only, RightCase}
use Rattle.lines.specs.Pieces.{placed}

by_cases : (s t : Bool) (p : Bor (List ℕ)) → all_ascii_digits p.now ≡ s → one_letter p.now ≡ t → RightCase (cond s (Digits p) (cond t (Letter p) (Other p)))
by_cases true t p d l = d
by_cases false true p d l = (d, l)
by_cases false false p d l = (d, l)

pub right_case : (p : Bor (List ℕ)) → RightCase (field_of p)
right_case p = by_cases (all_ascii_digits p.now) (one_letter p.now) p refl refl

-- a letter is no digit
letter_high : (b : ℕ) → is_letter b ≡ true → 58 ≤ b
letter_high b h = grind arith

letter_alone : (bs : List ℕ) → one_letter bs ≡ true → (only bs ≡ Some (get_or bs 0 0)) × (all_ascii_digits bs ≡ true → ⊥)
letter_alone [] h = absurd (false≢true h)
letter_alone (b ∷ []) h = (refl, λ d. grind (arith, letter_high b))
letter_alone (b ∷ c ∷ bs) h = grind arith

by_letter : (t : Bool) (bs : List ℕ) → one_letter bs ≡ t → all_ascii_digits bs ≡ true → None ≡ cond t (Some (get_or bs 0 0)) None
by_letter true bs e d = absurd ((letter_alone bs e).1 d)
by_letter false bs e d = refl

pub letter_is : (f : Field) → RightCase f → field_letter f ≡ cond (one_letter (field_bytes f)) (Some (get_or (field_bytes f) 0 0)) None
letter_is (Digits p) d = by_letter (one_letter p.now) p.now refl d
letter_is (Letter p) d = (letter_alone p.now d.1).0 ∙ sym (cond-true (one_letter p.now) _ _ d.1)
letter_is (Other p) d = sym (cond-false (one_letter p.now) _ _ d.1)

-- the first field with its column, and the first field
pub first_some : (ps : List (List ℕ)) (f : ℕ × List ℕ) → Some f ≡ slice_get (placed 1 ps) 0 → get_or ps 0 [] ≡ f.1
first_some [] f e = absurd (false≢true (sym (ap is_some e)))
first_some (p ∷ ps) f e = sym (ap (λ (o : Option (ℕ × List ℕ)). (unwrap_or {T = ℕ × List ℕ} o (0, [])).1) e)
