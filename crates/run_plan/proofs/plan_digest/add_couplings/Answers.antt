-- The words that are added are those of the bonds in the order of their numbers.
use Rattle.std.proofs.Common.{◌<◌, ◌≤◌, subst}
use Rattle.sha2.specs.Hashers.{Holds256}
use Rattle.spin_model.specs.Lattice.{bond_count}
use Rattle.run_plan.proofs.Messages.{told-bond, told-bonds}
use Rattle.run_plan.proofs.plan_digest.add_couplings.Goals as goal

pub bonds-preserved : goal.bonds-preserved
bonds-preserved c = λ m held.
    let within = subst (λ l. c.bonds.bond < bond_count l) c.size-size.ensures.value c.bonds-test.true in
    told-bond (Holds256 c.add_u64.new.hasher) m c.args.couplings.now c.bonds.bond c.negative.result within c.negative.ensures (c.add_u64.ensures _ (c.bonds.invariant m held))

pub returns : goal.returns
returns c = λ m held.
    let long = subst (λ l. bond_count l ≤ c.bonds.bond) c.size-size.ensures.value c.bonds-test.false in
    told-bonds (Holds256 c.bonds.hasher) m c.args.couplings.now c.bonds.bond long (c.bonds.invariant m held)
