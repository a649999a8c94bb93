-- The unsatisfied bonds and the agreeing sites at the first places of the compact order.
use Rattle.std.specs.Prelude.{ℕ, ◌+◌, ◌*◌, Bool, not, List, count_by}
use Rattle.spin_model.specs.Steps.{count_below}
use Rattle.spin_model.specs.Couplings.{Bonds}
use Rattle.spin_model.specs.Lattice.{IsLawfulSize, half_volume, from_compact}
use Rattle.scalar_rule.specs.Neighbours.{spin, agree, pull, neighbours}
use Rattle.scalar_rule.specs.Positions.{sum_below}
use Rattle.plane_sweep.specs.Packed.{FitsReplica}
use Rattle.plane_sweep.specs.declared.replica.Replica.{Replica}

-- how many of the six bonds of a site are unsatisfied
unfoldable pub unsatisfied_at : ℕ → Bonds → List Bool → ℕ → ℕ
unsatisfied_at l bonds spins i = count_by (λ n. not (agree (pull bonds spins n) (spin spins i))) (neighbours l i)

-- those of the sites at the first n places of colour c
unfoldable pub unsatisfied_from : ℕ → Bonds → List Bool → ℕ → ℕ → ℕ
unsatisfied_from l bonds spins c n = sum_below (λ p. unsatisfied_at l bonds spins (from_compact l (c * half_volume l + p))) n

-- at how many of the sites at the first n places two configurations agree
unfoldable pub agreeing_from : ℕ → List Bool → List Bool → ℕ → ℕ
agreeing_from l a b n = count_below (λ p. agree (spin a (from_compact l p)) (spin b (from_compact l p))) n

-- two replicas fit one lattice of a lawful size
pub record HaveOneSize (a b : Replica) : Type 0 where
  pub size : ℕ
  pub lawful : IsLawfulSize size
  pub first : FitsReplica size a
  pub second : FitsReplica size b
