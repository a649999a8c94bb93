-- Thirteen planes hold a count below 8192.
use Rattle.std.proofs.Common.{arith}
use Rattle.plane_sums.proofs.numbers.write_plane.Goals as goal

pub excesses-requires-clause-counts : goal.excesses-requires-clause-counts
excesses-requires-clause-counts c = λ b h. omega (arith, c.to_numbers.ensures b h, c.number.ensures.small b)
