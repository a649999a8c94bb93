-- Planes of zeros hold the number 0.
use Rattle.std.proofs.Common.{replicate, ◌∙◌, arith}
use Rattle.multispin_word.proofs.Numbers.{first-zeros}
use Rattle.bit_totals.proofs.Tallying.{tallied-is}
use Rattle.bit_totals.proofs.tally.Tally.none.Goals as goal

pub returns : goal.returns
returns c = λ b.
    let zero = first-zeros 20 20 b (omega arith) in
    tallied-is (replicate 20 (replicate 4 0)) b ∙ omega (arith, zero)
