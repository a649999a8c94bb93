-- Before the first plane there are no bonds.
use Rattle.std.proofs.Common.{◌≡◌, ◌*◌, ap, sym, ◌∙◌}
use Rattle.std.proofs.Math.Nat.{zero-mul}
use Rattle.coupling_set.specs.CouplingWords.{bonds_of}
use Rattle.plane_sweep.specs.Packed.{spins_of}
use Rattle.spin_model.specs.Lattice.{half_plane}
use Rattle.bit_totals.specs.Counted.{unsatisfied_from}
use Rattle.bit_totals.proofs.ColourBonds.{from-none}
use Rattle.bit_totals.proofs.energy.count_planes.Goals as goal

pub planes-init : goal.planes-init
planes-init c = λ b h.
    let l = c.args.plan.now.size in
    let bonds = bonds_of c.args.plan.now.couplings b in
    let spins = spins_of l b c.args.replica.now.planes in
    let none : 0 * half_plane l ≡ 0 = zero-mul (half_plane l) in
    c.none-tally.ensures b ∙ sym (ap (unsatisfied_from l bonds spins 0) none ∙ from-none l bonds spins 0)
