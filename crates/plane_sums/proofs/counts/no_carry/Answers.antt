-- Each word is 0.
use Rattle.std.proofs.Common.{ap, ◌∙◌}
use Rattle.std.specs.Int.{bit_at}
use Rattle.std.proofs.lemmas.Nat.Bits.{bit_at-zero}
use Rattle.plane_sums.proofs.PlaceNumbers.{zeros}
use Rattle.plane_sums.proofs.counts.no_carry.Goals as goal

pub returns : goal.returns
returns c = λ k b. ap (λ n. bit_at n b) (zeros 64 k) ∙ bit_at-zero b
