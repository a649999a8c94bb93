-- Planes of zeros have the number 0.
use Rattle.std.proofs.Common.{ℕ, arith}
use Rattle.std.proofs.lemmas.List.{length-replicate}
use Rattle.multispin_word.proofs.Numbers.{first-zeros}
use Rattle.multispin_word.proofs.planes.Planes.zero.Goals as goal

pub returns : goal.returns
returns g c = λ b. first-zeros _ _ b (omega (arith, length-replicate {A = ℕ}))
