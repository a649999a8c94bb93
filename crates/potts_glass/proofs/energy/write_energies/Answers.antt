use Rattle.std.proofs.Common.{arith}
use Rattle.std.specs.Prelude.{pos}
use Rattle.multispin_word.proofs.Numbers.{number-lt}
use Rattle.coupling_set.specs.CouplingWords.{bonds_of}
use Rattle.spin_model.proofs.Tables.{table-of_items}
use Rattle.potts_glass.specs.Potts.{energy}
use Rattle.potts_glass.specs.PackedColours.{colours_of}
use Rattle.potts_glass.proofs.energy.write_energies.Goals as goal

pub excess-requires-clause-more : goal.excess-requires-clause-more
excess-requires-clause-more c = rw c.number_at.ensures (number-lt c.count_bonds-bonds.result.raising.words 20 c.samples.b (omega arith))

pub excess-requires-clause-less : goal.excess-requires-clause-less
excess-requires-clause-less c = rw c.number_at-in-samples.ensures (number-lt c.count_bonds-bonds.result.lowering.words 20 c.samples.b (omega arith))

pub returns : goal.returns
returns c =
    let l = c.args.lattice.now in
    table-of_items (λ b. energy l (bonds_of c.args.couplings.now b) (colours_of l c.args.sites.now b)) 64 (pos 0) c.samples.out c.samples.invariant.sized
    (λ k h. c.samples.invariant.written k (omega arith))
