-- A line is judged by its first 65 bytes. Assumes nothing.
use Rattle.std.proofs.Common.{◌≡◌, ℕ, ◌<◌, ◌≤◌, List, length, take, Err, Option, Result, sym, ap, ◌∙◌, ⊎_elim, arith, rules, tests}
use Rattle.std.proofs.lemmas.List.{take_all, length-take-le}
use Rattle.std.proofs.lemmas.Bool.{cases_lt}
use Rattle.fault.specs.declared.Fault.{Fault}
use Rattle.fault.specs.declared.Question.TheVariants.{LineLength}
use Rattle.fault.specs.Numbers.{at_place}
use Rattle.lines.specs.declared.line.Line.{Line}
use Rattle.lines.specs.Forms.{line_parts}
use Rattle.lines.specs.Reads.{and_then}
use Rattle.lines.specs.Requests.{begun}

module _ {X : Type 0} (known : ℕ → Option X) (fields : X → ℕ) (line : ℕ) where
  too_long : (cs : List ℕ) → 64 < length cs → begun known fields line cs ≡ Err (at_place line 1 LineLength)
  too_long cs h = search (rules, tests)

  pub front_alike : {Y : Type 0} (f : List ℕ → X → Result Y Fault) (bs : List ℕ) → and_then (begun known fields line (take 65 bs)) (f (take 65 bs)) ≡ and_then (begun known fields line bs) (f bs)
  front_alike f bs =
      ⊎_elim (λ (short : length bs < 66). ap (λ cs. and_then (begun known fields line cs) (f cs)) (take_all 65 bs (omega (arith, short))))
      (λ (long : 66 ≤ length bs).
      ap (λ r. and_then r (f (take 65 bs))) (too_long (take 65 bs) (omega (arith, long, length-take-le 65 bs (omega (arith, long)))))
      ∙ sym (ap (λ r. and_then r (f bs)) (too_long bs (omega (arith, long)))))
      (cases_lt (length bs) 66)

  -- the same of what was made of the front by its number and its bytes
  pub front_told : {Y : Type 0} (f : ℕ → List ℕ → X → Result Y Fault) (bs : List ℕ) (l : Line) (r : Result X Fault) → line_parts l ≡ (line, take 65 bs) → r ≡ begun known fields l.number l.bytes.now → and_then r (f l.number l.bytes.now) ≡ and_then (begun known fields line bs) (f line bs)
  front_told f bs l r is e =
      ap (λ q. and_then q (f l.number l.bytes.now)) e ∙ (ap (λ q. and_then (begun known fields q.0 q.1) (f q.0 q.1)) is ∙ front_alike (f line) bs)
