use Rattle.std.proofs.Common.{◌≡◌, ◌^◌, ◌<◌, true, drop}
use Rattle.std.specs.Str.Parse.{digits_value, digits_value_after}
use Rattle.std.specs.Str.{all_ascii_digits}
use Rattle.lines.proofs.line.calls.value_of.Given as goal

abbrev pub invariant-loop-digit : goal.invariant-loop-digit
invariant-loop-digit l =
    (digits_value_after 10 l.n (drop l.digit-index l.digits) ≡ digits_value 10 l.digits) × (l.n < 10 ^ l.digit-index) × (all_ascii_digits (drop l.digit-index l.digits) ≡ true)
