-- What a field is, and when it is a number in range. Assumes nothing.
use Rattle.std.specs.Borrow.{Bor}
use Rattle.std.specs.Prelude.{◌≡◌, ℕ, Bool, true, false, cond, not, ◌&&◌, ◌||◌, List, [], ◌∷◌, length, Some, None, Err, Option, Result, ◌==◌, nat_le, slice_index}
use Rattle.std.specs.Str.Parse.{digits_value}
use Rattle.std.specs.List.{slice_get}
use Rattle.std.specs.Str.{all_ascii_digits}
use Rattle.fault.specs.declared.Fault.{Fault}
use Rattle.fault.specs.declared.Question.TheVariants.{LineFields, NumberDigits, NumberForm, PointRange}
use Rattle.fault.specs.Numbers.{at_place}
use Rattle.fault.specs.Asked.{asked_at}
use Rattle.lines.specs.Pieces.{fields_at}
use Rattle.lines.specs.declared.fields.Field.{Field}
use Rattle.lines.specs.declared.fields.Field.TheVariants.{Digits, Letter, Other}

-- a letter of either case
abbrev pub is_letter : ℕ → Bool
is_letter b = (nat_le 65 b && nat_le b 90) || (nat_le 97 b && nat_le b 122)

-- a single letter
abbrev pub one_letter : List ℕ → Bool
one_letter bs = length bs == 1 && is_letter (slice_index bs 0)

-- a part of a line as a field
abbrev pub field_of : Bor (List ℕ) → Field
field_of p = cond (all_ascii_digits p.now) (Digits p) (cond (one_letter p.now) (Letter p) (Other p))

-- ten digits or fewer, the first of several not 0
abbrev pub short_form : List ℕ → Bool
short_form bs = nat_le (length bs) 10 && (nat_le (length bs) 1 || not (slice_index bs 0 == 48))

-- a field, if there is one, as a number from low to high, or the refusal at the column where it begins
abbrev pub number_from : (line low high : ℕ) → Option (ℕ × List ℕ) → Result ℕ Fault
number_from line low high None = Err (at_place line 1 LineFields)
number_from line low high (Some f) =
    asked_at line f.0
    ((NumberDigits, all_ascii_digits f.1) ∷ (NumberForm, short_form f.1) ∷ (PointRange, nat_le low (digits_value 10 f.1) && nat_le (digits_value 10 f.1) high) ∷ [])
    (digits_value 10 f.1)

-- the same of field i of a line, counted from 0
abbrev pub number_at : (line low high : ℕ) → List ℕ → ℕ → Result ℕ Fault
number_at line low high bs i = number_from line low high (slice_get (fields_at bs) i)

-- the column of a field, if there is one
abbrev pub column_from : Option (ℕ × List ℕ) → ℕ
column_from None = 1
column_from (Some f) = f.0

-- the bytes of a field
abbrev pub field_bytes : Field → List ℕ
field_bytes (Digits p) = p.now
field_bytes (Letter p) = p.now
field_bytes (Other p) = p.now

-- the case of a field is that of its bytes
abbrev pub RightCase : Field → Type 0
RightCase (Digits p) = all_ascii_digits p.now ≡ true
RightCase (Letter p) = (all_ascii_digits p.now ≡ false) × (one_letter p.now ≡ true)
RightCase (Other p) = (all_ascii_digits p.now ≡ false) × (one_letter p.now ≡ false)

-- the only byte of a text
abbrev pub only : List ℕ → Option ℕ
only [] = None
only (b ∷ []) = Some b
only (b ∷ c ∷ bs) = None

-- the letter of a field that is one
abbrev pub field_letter : Field → Option ℕ
field_letter (Digits p) = None
field_letter (Letter p) = only p.now
field_letter (Other p) = None
