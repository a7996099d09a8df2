use Rattle.std.proofs.Common.{◌<◌, ◌^◌, ◌≡◌, drop}
use Rattle.text.specs.Numbers.{digits_from, digits}
use Rattle.text.proofs.numbers.parse_digits.Given as goal

abbrev pub invariant-loop-b : goal.invariant-loop-b
invariant-loop-b l = (l.v < 2 ^ 64) × (digits_from l.v (drop l.b-index l.bytes) ≡ digits l.bytes)
