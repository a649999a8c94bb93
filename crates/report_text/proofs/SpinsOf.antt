-- The spin of a sample at a site of a packed replica.
use Rattle.std.proofs.Common.{◌≡◌, ℕ, ◌<◌, false, List}
use Rattle.spin_model.proofs.Tables.{get_or-table}
use Rattle.spin_model.specs.Lattice.{volume}
use Rattle.spin_model.specs.Words.{is_set}
use Rattle.scalar_rule.specs.Neighbours.{spin}
use Rattle.plane_sweep.specs.Packed.{spins_of, word_at}
use Rattle.plane_sweep.specs.declared.replica.Plane.{Plane}

pub spin-spins_of : (l b : ℕ) (planes : List Plane) (i : ℕ) → i < volume l → spin (spins_of l b planes) i ≡ is_set (word_at l planes i) b
unfolding spins_of
spin-spins_of l b planes i within = get_or-table (λ k. is_set (word_at l planes k) b) (volume l) i false within
