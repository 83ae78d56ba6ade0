-- What the words of a program's call ask for. Assumes nothing.
use Rattle.std.specs.Prelude.{◌≡◌, ℕ, ◌<◌, ◌^◌, List, [], ◌∷◌, Option, None, Some, Result, Ok, Err, String, codes}
use Rattle.std.specs.Result.{OkIff}
use Rattle.std.specs.String.{string_bytes}
use Rattle.std.specs.declared.alloc.Global.{Global}
use Rattle.std.specs.Str.Parse.{IsNumeral, digits_value, without_leading_plus}
use Rattle.measure.specs.declared.Usage.{Usage}

-- a word is `time`, and the next one a number of 32 bits
abbrev pub AsksTime : List ℕ → List ℕ → Type 0
AsksTime word turns = (word ≡ codes "time") × (IsNumeral 10 (without_leading_plus turns) × (digits_value 10 (without_leading_plus turns) < 2 ^ 32))

-- how often to run what is timed: not at all without words, as often as `time` and a number say, and
-- other words are refused
abbrev pub TurnsTold : List (String Global) → Result (Option ℕ) Usage → Type 0
TurnsTold [] told = told ≡ Ok None
TurnsTold (word ∷ []) told = told ≡ Err (record {})
TurnsTold (word ∷ turns ∷ rest) told = OkIff told (AsksTime (string_bytes word) (string_bytes turns)) (Some (digits_value 10 (without_leading_plus (string_bytes turns))))
