-- The bonds of the sites of colour 0 are all bonds.
use Rattle.std.proofs.Common.{◌∙◌}
use Rattle.coupling_set.specs.CouplingWords.{bonds_of}
use Rattle.plane_sweep.specs.Packed.{spins_of}
use Rattle.bit_totals.proofs.ColourBonds.{counted-all}
use Rattle.bit_totals.proofs.energy.unsatisfied.Goals as goal

pub total-requires : goal.total-requires
total-requires c = λ b h.
    let l = c.args.plan.now.size in
    (counted-all l (bonds_of c.args.plan.now.couplings b) (spins_of l b c.args.replica.now.planes) _ c.count_planes.ensures.lawful (c.count_planes.ensures.counted b h)).2

pub returns-clause-value : goal.returns-clause-value
returns-clause-value c = λ b h.
    let l = c.args.plan.now.size in
    (counted-all l (bonds_of c.args.plan.now.couplings b) (spins_of l b c.args.replica.now.planes) _ c.count_planes.ensures.lawful (c.total.ensures b h ∙ c.count_planes.ensures.counted b h)).0

pub returns-clause-within : goal.returns-clause-within
returns-clause-within c = λ b h.
    let l = c.args.plan.now.size in
    (counted-all l (bonds_of c.args.plan.now.couplings b) (spins_of l b c.args.replica.now.planes) _ c.count_planes.ensures.lawful (c.total.ensures b h ∙ c.count_planes.ensures.counted b h)).1
