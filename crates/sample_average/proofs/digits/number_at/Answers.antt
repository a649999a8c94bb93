use Rattle.std.specs.Char.{is_ascii_digit}
use Rattle.sample_average.proofs.Numerals.{passes-front}
use Rattle.sample_average.proofs.digits.number_at.Goals as goal

pub value_of-value-requires-clause-digits : goal.value_of-value-requires-clause-digits
value_of-value-requires-clause-digits c = rw c.digits_in-count.ensures.value (passes-front is_ascii_digit c.args.bytes.now)
