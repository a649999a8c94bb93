use Rattle.std.proofs.Common.{◌≡◌, ◌+◌, drop}
use Rattle.sample_average.specs.LineReading as reading
use Rattle.sample_average.proofs.digits.digits_in.Given as goal

abbrev pub invariant-bytes : goal.invariant-bytes
invariant-bytes l = reading.digits_in l.bytes ≡ l.i + reading.digits_in (drop l.i l.bytes)
