-- The sums of a slot's replicas, in all 64 samples.
use Rattle.std.specs.Prelude.{◌≡◌, ℕ, ◌<◌, ◌≤◌, List}
use Rattle.coupling_set.specs.CouplingWords.{bonds_of}
use Rattle.multispin_word.specs.Planes.{number}
use Rattle.spin_model.specs.Lattice.{bond_count}
use Rattle.scalar_rule.specs.Plan.{Plan}
use Rattle.scalar_rule.specs.Sums.{unsatisfied}
use Rattle.plane_sweep.specs.Packed.{spins_of}
use Rattle.plane_sweep.specs.declared.replica.Duo.{Duo}
use Rattle.plane_sweep.specs.declared.replica.Replica.{Replica}
use Rattle.slot_steps.specs.declared.totals.Totals.{Totals}

-- the unsatisfied bonds of a replica
pub record CountsBonds (plan : Plan) (replica : Replica) (words : List ℕ) : Type 0 where
  pub value : (b : ℕ) → b < 64 → number words b ≡ unsatisfied plan.size (bonds_of plan.couplings b) (spins_of plan.size b replica.planes)
  pub within : (b : ℕ) → b < 64 → number words b ≤ bond_count plan.size

-- the unsatisfied bonds of both
pub record AreTotals (plan : Plan) (duo : Duo) (totals : Totals) : Type 0 where
  pub first : CountsBonds plan duo.first totals.first.words
  pub second : CountsBonds plan duo.second totals.second.words
