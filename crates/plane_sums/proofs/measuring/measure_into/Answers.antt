-- What is written is what the definitions observe, number by number.
use Rattle.std.proofs.Common.{◌≡◌, ℕ, ◌*◌, ◌<◌, ◌≤◌, List, ap, ap₂, ◌∙◌}
use Rattle.std.specs.Prelude.{pos, ◌-ℤ◌}
use Rattle.spin_model.proofs.Counts.{count-most}
use Rattle.spin_model.specs.Lattice.{volume, bond_count}
use Rattle.coupling_set.specs.CouplingWords.{bonds_of}
use Rattle.multispin_word.specs.Planes.{number}
use Rattle.scalar_rule.specs.Plan.{Plan}
use Rattle.scalar_rule.specs.Sums.{is_unsatisfied}
use Rattle.plane_sweep.specs.Packed.{part_slot, spins_of}
use Rattle.plane_sweep.specs.declared.replica.Replica.{Replica}
use Rattle.plane_sums.specs.Slots.{CountBonds}
use Rattle.plane_sums.proofs.MeasuredBounds.{measured-within}
use Rattle.plane_sums.proofs.measuring.measure_into.Goals as goal

-- no count is above all bonds
counts-most : (plan : Plan) (replica : Replica) (planes : List ℕ) (sites lattice : ℕ) → CountBonds plan replica planes → sites ≡ volume lattice → lattice ≡ plan.size
    → (b : ℕ) → b < 64 → number planes b ≤ 3 * sites
counts-most plan replica planes sites lattice counted all same b h =
    let most = count-most (is_unsatisfied plan.size (bonds_of plan.couplings b) (spins_of plan.size b replica.planes)) (bond_count plan.size) in
    rw (counted b h, all, same) most

pub write_excesses-requires-clause-counts : goal.write_excesses-requires-clause-counts
write_excesses-requires-clause-counts c =
    counts-most c.args.slot.now.plan.now c.args.slot.now.duo.now.first c.args.slot.now.first.now.words c.sites-bonds.result c.lattice-lattice.result
    c.requires.first c.sites-bonds.ensures.value c.lattice-lattice.ensures.value

pub write_excesses-requires-2-clause-counts : goal.write_excesses-requires-2-clause-counts
write_excesses-requires-2-clause-counts c =
    counts-most c.args.slot.now.plan.now c.args.slot.now.duo.now.second c.args.slot.now.second.now.words c.sites-bonds.result c.lattice-lattice.result
    c.requires.second c.sites-bonds.ensures.value c.lattice-lattice.ensures.value

-- all bonds
whole : (c : goal.After-measure_field) → 3 * c.sites-bonds.result ≡ bond_count c.args.slot.now.plan.now.size
whole c = ap (λ v. 3 * v) (c.sites-bonds.ensures.value ∙ ap (λ l. volume l) c.lattice-lattice.ensures.value)

pub returns-clause-tells : goal.returns-clause-tells
returns-clause-tells c = record {
  first = λ b h. c.write_excesses.ensures b h ∙ ap₂ (λ n m. pos (2 * n) -ℤ pos m) (c.requires.first b h) (whole c);
  second = λ b h. c.write_excesses-2.ensures b h ∙ ap₂ (λ n m. pos (2 * n) -ℤ pos m) (c.requires.second b h) (whole c);
  field = rw c.lattice-lattice.ensures.value at c.measure_field.ensures;
}

pub returns-clause-within : goal.returns-clause-within
returns-clause-within c =
    let plan = c.args.slot.now.plan.now in
    measured-within plan (λ b. part_slot plan.size b c.args.slot.now.duo.now) _ (rw c.lattice-lattice.ensures.value at c.sites-bonds.ensures.lawful) (returns-clause-tells c)
