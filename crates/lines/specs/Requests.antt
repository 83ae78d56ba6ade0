-- What a line asks of a bench. Assumes nothing.
use Rattle.std.specs.Prelude.{ℕ, List, [], ◌∷◌, length, Ok, Option, Result, ◌==◌}
use Rattle.std.specs.Option.{ok_or}
use Rattle.fault.specs.declared.Fault.{Fault}
use Rattle.fault.specs.declared.Question.TheVariants.{LineLetter, LineFields}
use Rattle.fault.specs.Numbers.{at_place}
use Rattle.fault.specs.Asked.{asked_at}
use Rattle.bench.specs.declared.runs.Request.{Request}
use Rattle.bench.specs.declared.runs.Request.TheVariants.{Add, Drop, Lay, Convert}
use Rattle.lines.specs.declared.verbs.Verb.{Verb}
use Rattle.lines.specs.declared.verbs.Verb.TheVariants as verb
use Rattle.lines.specs.Fields.{number_at}
use Rattle.lines.specs.Forms.{formed}
use Rattle.lines.specs.Letters.{first_letter, verb_of, verb_fields}
use Rattle.lines.specs.Pieces.{fields_of}
use Rattle.lines.specs.Reads.{and_then, and_some}

-- what a line begins with, where its form is right: a known letter with the right number of fields behind it
abbrev pub begun : {X : Type 0} → (ℕ → Option X) → (X → ℕ) → (line : ℕ) → List ℕ → Result X Fault
begun known fields line bs =
    and_then (formed line bs)
    (λ _.
    and_then (ok_or (and_some (first_letter bs) known) (at_place line 1 LineLetter))
    (λ x. asked_at line 1 ((LineFields, (length (fields_of bs) == fields x)) ∷ []) x))

-- a count on a line may be any number of 32 bits
abbrev pub count_at : (line : ℕ) → List ℕ → Result ℕ Fault
count_at line bs = number_at line 0 4294967295 bs 1

module _ {P L : Type 0} (told : ℕ → List ℕ → Result P Fault) (fields : ℕ) (loss : L) where
  -- the call that a line of a verb asks for
  abbrev pub verb_request : (line : ℕ) → List ℕ → Verb → Result (Request P L) Fault
  verb_request line bs verb.Point = and_then (count_at line bs) (λ c. and_then (told line bs) (λ p. Ok (Add c p)))
  verb_request line bs verb.Drop = and_then (count_at line bs) (λ c. Ok (Drop c))
  verb_request line bs verb.Lay = Ok (Lay loss)
  verb_request line bs verb.Convert = and_then (count_at line bs) (λ c. Ok (Convert c))

  -- the call that a line behind the first asks for, or its refusal
  abbrev pub line_request : (line : ℕ) → List ℕ → Result (Request P L) Fault
  line_request line bs = and_then (begun verb_of (verb_fields fields) line bs) (verb_request line bs)
