-- Each question's number and layer. Assumes nothing.
use Rattle.std.specs.Prelude.{ℕ}
use Rattle.fault.specs.declared.Question.{Question}
use Rattle.fault.specs.declared.Question.TheVariants.{LineLength, LineSpacing, LineLetter, LineFields, NumberDigits, NumberForm, PointRange, BandEnds, AnswerRoom, InputLength, AddCount, AddTwice, AddFull, DropNone, LayNone, LayRoom, PutCount, PutRoom, OpenLength, OpenSums, OpenLayout, OpenOrder, ConvertEmpty, ConvertBelow, ConvertAbove, ConvertFalls}
use Rattle.fault.specs.declared.Fault.{Fault}

abbrev pub number_of : Question → ℕ
number_of LineLength = 16
number_of LineSpacing = 17
number_of LineLetter = 18
number_of LineFields = 19
number_of NumberDigits = 20
number_of NumberForm = 21
number_of PointRange = 22
number_of BandEnds = 23
number_of AnswerRoom = 24
number_of InputLength = 25
number_of AddCount = 1
number_of AddTwice = 2
number_of AddFull = 3
number_of DropNone = 4
number_of LayNone = 5
number_of LayRoom = 6
number_of PutCount = 1
number_of PutRoom = 11
number_of OpenLength = 12
number_of OpenSums = 13
number_of OpenLayout = 14
number_of OpenOrder = 15
number_of ConvertEmpty = 7
number_of ConvertBelow = 8
number_of ConvertAbove = 9
number_of ConvertFalls = 10

-- 1 the bytes of a line, its numbers and what a point may hold, 2 what a line, a point, an answer or an input is as a
-- whole, 3 the bench, 4 tables
abbrev pub layer_of : Question → ℕ
layer_of LineLength = 1
layer_of LineSpacing = 1
layer_of LineLetter = 2
layer_of LineFields = 2
layer_of NumberDigits = 1
layer_of NumberForm = 1
layer_of PointRange = 1
layer_of BandEnds = 2
layer_of AnswerRoom = 2
layer_of InputLength = 2
layer_of AddCount = 3
layer_of AddTwice = 3
layer_of AddFull = 3
layer_of DropNone = 3
layer_of LayNone = 3
layer_of LayRoom = 3
layer_of PutCount = 4
layer_of PutRoom = 4
layer_of OpenLength = 4
layer_of OpenSums = 4
layer_of OpenLayout = 4
layer_of OpenOrder = 4
layer_of ConvertEmpty = 3
layer_of ConvertBelow = 3
layer_of ConvertAbove = 3
layer_of ConvertFalls = 3

-- a refusal where nothing was read from text
abbrev pub outside_text : Question → Fault
outside_text q = record { question = q; line = 0; column = 0 }

-- a refusal at a place in a text
abbrev pub at_place : ℕ → ℕ → Question → Fault
at_place line column q = record { question = q; line = line; column = column }
