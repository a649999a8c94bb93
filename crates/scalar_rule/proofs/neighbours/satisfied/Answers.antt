use Rattle.std.proofs.Common.{rules, ◌≡◌, true, false, sym, ◌∙◌, arith}
use Rattle.scalar_rule.specs.Neighbours as model
use Rattle.scalar_rule.proofs.BondCounts.{satisfied-up, satisfied-down}
use Rattle.scalar_rule.proofs.neighbours.satisfied.Goals as goal

pub returns-then-spins-site-clause-value : goal.returns-then-spins-site-clause-value
returns-then-spins-site-clause-value g c =
    let up : model.spin c.args.spins.now c.args.site ≡ true = search rules in
    c.aligned-up.ensures.value ∙ sym (satisfied-up c.args.lattice.now (g.B.Bonds.negative c.args.bonds.now) c.args.spins.now c.args.site up)

pub returns-else-spins-site-clause-value : goal.returns-else-spins-site-clause-value
returns-else-spins-site-clause-value g c =
    let down : model.spin c.args.spins.now c.args.site ≡ false = search rules in
    let six = satisfied-down c.args.lattice.now (g.B.Bonds.negative c.args.bonds.now) c.args.spins.now c.args.site down in
    let count = c.aligned-up.ensures.value in
    omega arith
