-- How long the words of an answer are. Assumes nothing.
use Rattle.std.proofs.Common.{◌≡◌, ℕ, ◌^◌, ◌<◌, ◌≤◌, length, decimal, arith, lit<}
use Rattle.std.proofs.lemmas.Fmt.{length-decimal-le}
use Rattle.fault.specs.declared.Question.{Question}
use Rattle.fault.specs.declared.Question.TheVariants.{LineLength, LineSpacing, LineLetter, LineFields, NumberDigits, NumberForm, PointRange, BandEnds, AnswerRoom, InputLength, AddCount, AddTwice, AddFull, DropNone, LayNone, LayRoom, PutCount, PutRoom, OpenLength, OpenSums, OpenLayout, OpenOrder, ConvertEmpty, ConvertBelow, ConvertAbove, ConvertFalls}
use Rattle.fault.specs.Numbers.{number_of, layer_of}

pub digits_16 : (n : ℕ) → n < 2 ^ 16 → length (decimal n) ≤ 5
digits_16 n h = length-decimal-le 5 n (omega arith) (omega arith) (omega arith)

pub digits_32 : (n : ℕ) → n < 2 ^ 32 → length (decimal n) ≤ 10
digits_32 n h = length-decimal-le 10 n (omega arith) (omega arith) (omega arith)

-- one digit for the layer, two for the number
small : (q : Question) → (layer_of q < 10) × (number_of q < 100)
small LineLength = (lit< tt, lit< tt)
small LineSpacing = (lit< tt, lit< tt)
small LineLetter = (lit< tt, lit< tt)
small LineFields = (lit< tt, lit< tt)
small NumberDigits = (lit< tt, lit< tt)
small NumberForm = (lit< tt, lit< tt)
small PointRange = (lit< tt, lit< tt)
small BandEnds = (lit< tt, lit< tt)
small AnswerRoom = (lit< tt, lit< tt)
small InputLength = (lit< tt, lit< tt)
small AddCount = (lit< tt, lit< tt)
small AddTwice = (lit< tt, lit< tt)
small AddFull = (lit< tt, lit< tt)
small DropNone = (lit< tt, lit< tt)
small LayNone = (lit< tt, lit< tt)
small LayRoom = (lit< tt, lit< tt)
small PutCount = (lit< tt, lit< tt)
small PutRoom = (lit< tt, lit< tt)
small OpenLength = (lit< tt, lit< tt)
small OpenSums = (lit< tt, lit< tt)
small OpenLayout = (lit< tt, lit< tt)
small OpenOrder = (lit< tt, lit< tt)
small ConvertEmpty = (lit< tt, lit< tt)
small ConvertBelow = (lit< tt, lit< tt)
small ConvertAbove = (lit< tt, lit< tt)
small ConvertFalls = (lit< tt, lit< tt)

pub layer_digit : (n : ℕ) (q : Question) → n ≡ layer_of q → length (decimal n) ≤ 1
layer_digit n q e = length-decimal-le 1 n (omega arith) (omega (arith, small q)) (omega (arith, small q))

pub number_digits : (n : ℕ) (q : Question) → n ≡ number_of q → length (decimal n) ≤ 2
number_digits n q e = length-decimal-le 2 n (omega arith) (omega (arith, small q)) (omega (arith, small q))
